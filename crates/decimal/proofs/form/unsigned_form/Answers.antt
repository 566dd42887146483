-- `form::unsigned_form`: the value of each test with those before it.
use Rattle.std.proofs.Common.{◌≡◌, ap, ◌∙◌, ◌&&◌, eqb, length, rules, tests}
use Rattle.std.specs.Int.{is_in_range}
use Rattle.decimal.specs.Score.{whole_in, point_in, hundredths_in, all_digits}
use Rattle.decimal.proofs.Forms.{form_by}
use Rattle.decimal.proofs.form.unsigned_form.Goals.{then-contains, else-contains, then-all_digits, else-all_digits, then-unsigned-size-eq46, else-unsigned-size-eq46}
use Rattle.decimal.proofs.form.unsigned_form.Goals as goal

pub returns-then-all_digits-2 : goal.returns-then-all_digits-2
unfolding point_in
returns-then-all_digits-2 c =
    let s = c.args.unsigned.now in
    let sized : c.contains.result ≡ is_in_range 4 8 (length s) = search (rules, tests) in
    let whole : c.if-contains.value ≡ (c.contains.result && all_digits (whole_in s)) = elim c.if-contains.branch [ then-contains w ↦ rw w.if-contains.true (w.value-is ∙ w.all_digits.ensures ∙ ap all_digits c.whole_in-whole.ensures) | else-contains w ↦ rw w.if-contains.false (w.value-is ∙ w.if-contains.false) ] in
    let point : c.if-all_digits.value ≡ (c.if-contains.value && eqb (point_in s) 46) = elim c.if-all_digits.branch [ then-all_digits w ↦ rw w.if-all_digits.true w.value-is | else-all_digits w ↦ rw w.if-all_digits.false (w.value-is ∙ w.if-all_digits.false) ] in
    let digits : c.if-unsigned-size-eq46.value ≡ (c.if-all_digits.value && all_digits (hundredths_in s)) = elim c.if-unsigned-size-eq46.branch [ then-unsigned-size-eq46 w ↦ rw w.if-unsigned-size-eq46.true (w.value-is ∙ w.all_digits-then-unsigned-size-eq46.ensures ∙ ap all_digits w.hundredths_in.ensures) | else-unsigned-size-eq46 w ↦ rw w.if-unsigned-size-eq46.false (w.value-is ∙ w.if-unsigned-size-eq46.false) ] in
    rw (c.idle_zero.ensures, c.whole_in-whole.ensures) (rw c.if-all_digits-2.true at (form_by s sized whole point digits))

pub returns-else-all_digits-2 : goal.returns-else-all_digits-2
unfolding point_in
returns-else-all_digits-2 c =
    let s = c.args.unsigned.now in
    let sized : c.contains.result ≡ is_in_range 4 8 (length s) = search (rules, tests) in
    let whole : c.if-contains.value ≡ (c.contains.result && all_digits (whole_in s)) = elim c.if-contains.branch [ then-contains w ↦ rw w.if-contains.true (w.value-is ∙ w.all_digits.ensures ∙ ap all_digits c.whole_in-whole.ensures) | else-contains w ↦ rw w.if-contains.false (w.value-is ∙ w.if-contains.false) ] in
    let point : c.if-all_digits.value ≡ (c.if-contains.value && eqb (point_in s) 46) = elim c.if-all_digits.branch [ then-all_digits w ↦ rw w.if-all_digits.true w.value-is | else-all_digits w ↦ rw w.if-all_digits.false (w.value-is ∙ w.if-all_digits.false) ] in
    let digits : c.if-unsigned-size-eq46.value ≡ (c.if-all_digits.value && all_digits (hundredths_in s)) = elim c.if-unsigned-size-eq46.branch [ then-unsigned-size-eq46 w ↦ rw w.if-unsigned-size-eq46.true (w.value-is ∙ w.all_digits-then-unsigned-size-eq46.ensures ∙ ap all_digits w.hundredths_in.ensures) | else-unsigned-size-eq46 w ↦ rw w.if-unsigned-size-eq46.false (w.value-is ∙ w.if-unsigned-size-eq46.false) ] in
    c.if-all_digits-2.false ∙ (rw c.if-all_digits-2.false at (form_by s sized whole point digits))
