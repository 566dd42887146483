-- What is built of a tree by reading one item or one run more, in each case of the code.
use mathlib.Core.Path.{◌≡◌, refl, sym, ap, ap₂, subst, ◌∙◌}
use mathlib.Core.Bool.{true, false, true≢false, false≢true}
use mathlib.Core.Logic.{◌⊎◌, ⊎_elim, inl, inr}
use Prim.Native.Nat.{ℕ, zero, suc, ◌+◌, ◌≤◌, ◌<◌}
use native.Mathlib.Omega.{arith}
use native.Mathlib.Nat.{add-zero}
use native.Mathlib.Numerals.{add-one}
use mathlib.Core.List.{List, [], ◌∷◌, ◌++◌, append_assoc}
use lib.ListN.{length, get_or, drop, set, length-append, length-drop, drop_of_length-le}
use lib.Seq.{sets, drop-cons, drop-drop, get_or-drop}
use Rattle.tree.specs.Run.{Run, spell, size, lefts_from}
use Rattle.tree.specs.Run.Run.{end, dot, pair}
use Rattle.character.specs.Character.{meaning_of, role_of}
use Rattle.tree.specs.Reading.{Runs, first, onto, runs}
use Rattle.tree.specs.Reading.Runs.{last, more}
use Rattle.tree.specs.inner.Building.{run_at, item_of, Ready, Built, OpensAt, RunRead, ItemRead, closing}
use Rattle.character.specs.declared.Role.{Role}
use Rattle.character.specs.declared.Role.TheVariants.{Unpaired, Opening, Closing, Refused}
use Rattle.tree.specs.declared.run.ReadTo.{ReadTo}
use Rattle.answer.proofs.Denied.{clash}
use Rattle.tree.proofs.Roles.{tag}
use Rattle.tree.proofs.Leaves.{lt_or_le, length_lefts}
use Rattle.tree.proofs.Splits.{splits, first_fits, item_fits, size_spell, ended, ended_closing, ended_other, onto_open, closer, onto_pair, rest_of, rest_read}

-- The numbers of a list, stored one after another, and then those of a second.
sets_append : (l : List ℕ) (i : ℕ) (xs ys : List ℕ) → sets l i (xs ++ ys) ≡ sets (sets l i xs) (i + length xs) ys
sets_append l i [] ys = ap (λ (k : ℕ). sets l k ys) (sym (add-zero i))
sets_append l i (x ∷ xs) ys = sets_append (set l i x) (suc i) xs ys ∙ ap (λ (k : ℕ). sets (sets (set l i x) (suc i) xs) k ys) (omega arith)

-- Beyond a text no byte means anything.
beyond : (s : List ℕ) (i : ℕ) → length s ≤ i → get_or s i 0 ≡ 0
beyond [] i h = refl
beyond (x ∷ s) zero h = absurd (omega arith)
beyond (x ∷ s) (suc i) h = beyond s i (omega arith)

pub beyond_refused : (s : List ℕ) (i : ℕ) → length s ≤ i → role_of (get_or s i 0) ≡ Refused
unfolding meaning_of
beyond_refused s i h = ap role_of (beyond s i h)

-- The leftmost leaves of a bracket pair are those of the run inside it, and its own.
pair_left : (l : List ℕ) (n : ℕ) (r : Run) → set (sets l n (lefts_from n r)) (n + size r) n ≡ sets l n (lefts_from n r ++ n ∷ [])
pair_left l n r = ap (λ (k : ℕ). set (sets l n (lefts_from n r)) (n + k) n) (sym (length_lefts n r)) ∙ sym (sets_append l n (lefts_from n r) (n ∷ []))

-- A run is its first item and the rest: its bytes, its nodes, and their leftmost leaves.
rest_length : (r : Run) → length (spell (item_of r)) + length (spell (rest_of r)) ≡ length (spell r)
rest_length end = refl
rest_length (dot c r) = omega arith
rest_length (pair o i c r) = omega (arith, length-append (spell i) (c ∷ []), length-append (spell i) (c ∷ spell r))

rest_size : (r : Run) → size (item_of r) + size (rest_of r) ≡ size r
rest_size end = refl
rest_size (dot c r) = omega arith
rest_size (pair o i c r) = omega arith

rest_left : (l : List ℕ) (n : ℕ) (r : Run) → let k = n + size (item_of r) in sets (sets l n (lefts_from n (item_of r))) k (lefts_from k (rest_of r)) ≡ sets l n (lefts_from n r)
rest_left l n end = refl
rest_left l n (dot c r) = ap (λ (k : ℕ). sets (set l n n) k (lefts_from k r)) (add-one n)
rest_left l n (pair o i c r) =
    let X : List ℕ = sets l n (lefts_from n i ++ n ∷ []) in
    let L : List ℕ = lefts_from (n + suc (size i)) r in
    let p : n + (size i + 1) ≡ n + suc (size i) = omega arith in
    let q : n + suc (size i) ≡ n + length (lefts_from n i ++ n ∷ []) = omega (arith, length-append (lefts_from n i) (n ∷ []), length_lefts n i) in
    ap (λ (k : ℕ). sets X k (lefts_from k r)) p
    ∙ ap (λ (k : ℕ). sets X k L) q
    ∙ sym (sets_append l n (lefts_from n i ++ n ∷ []) L)
    ∙ ap (λ (v : List ℕ). sets l n v) (append_assoc (lefts_from n i) (n ∷ []) L)

-- A closing or a refused byte begins no item.
other_item : (m : Role) → (tag m ≡ 2) ⊎ (tag m ≡ 3) → (x : ℕ) (rs : Runs) → item_of (first (onto m x rs)) ≡ end
other_item Unpaired h x rs = ⊎_elim (λ e. absurd (omega arith)) (λ e. absurd (omega arith)) h
other_item Opening h x rs = ⊎_elim (λ e. absurd (omega arith)) (λ e. absurd (omega arith)) h
other_item Closing h x rs = refl
other_item Refused h x rs = refl

onto_dot : (x : ℕ) (rs : Runs) → item_of (first (onto Unpaired x rs)) ≡ dot x end
onto_dot x (last r) = refl
onto_dot x (more r c rs) = refl

no_item : (r : Run) → length (spell (item_of r)) ≡ 0 → r ≡ end
no_item end h = refl
no_item (dot c r) h = absurd (omega arith)
no_item (pair o i c r) h = absurd (omega arith)

-- A closing byte stands inside the text.
pub is_closing : (m : Role) → closing m ≡ true → m ≡ Closing
is_closing Unpaired e = absurd (false≢true e)
is_closing Opening e = absurd (false≢true e)
is_closing Closing e = refl
is_closing Refused e = absurd (false≢true e)

pub closed_inside : (s : List ℕ) (i : ℕ) → closing (role_of (get_or s i 0)) ≡ true → i < length s
closed_inside s i h = elim (lt_or_le i (length s)) [ inl l ↦ l | inr l ↦ absurd (false≢true (sym (ap closing (beyond_refused s i l)) ∙ h)) ]

-- What is read has no more nodes than bytes.
pub fewer_nodes : {r : Run} {stuck : Type 0} {at n : ℕ} {left : List ℕ} {x : ReadTo} {after : List ℕ} → Built r stuck at n left x after → n ≤ at → x.n ≤ x.at
fewer_nodes {r} h le = omega (arith, size_spell r)

module _ (s : List ℕ) (at n : ℕ) (left : List ℕ) where
  abbrev Byte : ℕ
  Byte = get_or s at 0

  abbrev Next : List ℕ
  Next = drop (at + 1) s

  reads : {x : ReadTo} {after : List ℕ} (r : Run) → item_of (run_at s at) ≡ r → Built r ((x.at ≡ at) × OpensAt s at) at n left x after → ItemRead s at n left x after
  reads {x} {after} r e h = subst (λ (q : Run). Built q ((x.at ≡ at) × OpensAt s at) at n left x after) (sym e) h

  -- Nothing is read. The leaves are as they were, or what was never closed is an opening byte.
  stays : {after : List ℕ} → item_of (run_at s at) ≡ end → ((OpensAt s at → ⊥) → after ≡ left) → ItemRead s at n left (record { at = at; n = n }) after
  stays e f = reads end e (record { passed = sym (add-zero at); counted = sym (add-zero n); written = λ g. f (λ o. g (refl, o)) })

  -- The item at a byte, in each case of the code that reads it.
  pub item_end : length s ≤ at → ItemRead s at n left (record { at = at; n = n }) left
  item_end h = stays (ap (λ (l : List ℕ). item_of (first (runs l))) (drop_of_length-le s h)) (λ f. refl)

  module _ (lt : at < length s) (m : Role) (is : m ≡ role_of (get_or s at 0)) where
    item_is : item_of (run_at s at) ≡ item_of (first (onto m Byte (runs Next)))
    item_is = ap (λ (x : Runs). item_of (first x)) (ap runs (drop-cons s at 0 lt) ∙ ap₂ (λ (k : ℕ) (x : Role). onto x Byte (runs (drop k s))) (sym (add-one at)) (sym is))

    pub item_other : (tag m ≡ 2) ⊎ (tag m ≡ 3) → ItemRead s at n left (record { at = at; n = n }) left
    item_other h = stays (item_is ∙ other_item m h Byte (runs Next)) (λ f. refl)

    pub item_dot : m ≡ Unpaired → ItemRead s at n left (record { at = at + 1; n = n + 1 }) (set left n n)
    item_dot e = reads (dot Byte end) (item_is ∙ ap (λ (k : Role). item_of (first (onto k Byte (runs Next)))) e ∙ onto_dot Byte (runs Next)) (record { passed = refl; counted = refl; written = λ f. refl })

    module _ (opens : m ≡ Opening) (x : ReadTo) (after : List ℕ) (inner : RunRead s (at + 1) n left x after) where
      opening_is : item_of (run_at s at) ≡ item_of (first (onto Opening Byte (runs Next)))
      opening_is = item_is ∙ ap (λ (k : Role). item_of (first (onto k Byte (runs Next)))) opens

      close_byte : get_or Next (length (spell (first (runs Next)))) 0 ≡ get_or s x.at 0
      close_byte = get_or-drop (at + 1) s (length (spell (first (runs Next)))) 0 ∙ ap (λ (k : ℕ). get_or s k 0) (sym inner.passed)

      unended : ended (runs Next) ≡ false → ItemRead s at n left (record { at = at; n = n }) after
      unended e = stays (opening_is ∙ ap (λ (y : Runs). item_of (first y)) (onto_open Byte (runs Next) e)) (λ f. absurd (f (sym is ∙ opens)))

      pub item_unclosed : closing (role_of (get_or s x.at 0)) ≡ false → ItemRead s at n left (record { at = at; n = n }) after
      item_unclosed h = unended (ended_other Next (runs Next) (splits Next) (λ e. true≢false (ap closing (sym e ∙ ap role_of close_byte) ∙ h)))

      pub item_closed : closing (role_of (get_or s x.at 0)) ≡ true → ItemRead s at n left (record { at = x.at + 1; n = x.n + 1 }) (set after x.n n)
      item_closed h =
          let r : Run = run_at s (at + 1) in
          let closes : role_of (get_or s x.at 0) ≡ Closing = is_closing (role_of (get_or s x.at 0)) h in
          let now_ended : ended (runs Next) ≡ true = ended_closing Next (runs Next) (splits Next) (omega (arith, length-drop (at + 1) s, inner.passed, closed_inside s x.at h)) (ap role_of close_byte ∙ closes) in
          reads (pair Byte r (closer (runs Next)) end) (opening_is ∙ onto_pair Byte (runs Next) now_ended)
          (record {
            passed = omega (arith, inner.passed, length-append (spell r) (closer (runs Next) ∷ []));
            counted = omega (arith, inner.counted);
            written = λ f. ap₂ (λ (l : List ℕ) (j : ℕ). set l j n) (inner.written (λ o. clash (cc))) inner.counted ∙ pair_left left n r;
          })

  -- The run at a byte, in each case of the code that reads it.
  module _ (x : ReadTo) (after : List ℕ) (item : ItemRead s at n left x after) where
    pub run_done : x.at ≡ at → RunRead s at n left x after
    run_done h =
        let e : run_at s at ≡ end = no_item (run_at s at) (omega (arith, item.passed)) in
        subst (λ (r : Run). Built r (OpensAt s x.at) at n left x after) (ap item_of e ∙ sym e)
        (record { passed = item.passed; counted = item.counted; written = λ f. item.written (λ w. f (subst (OpensAt s) (sym h) w.1)) })

    pub run_more : (x.at ≡ at → ⊥) → (y : ReadTo) (filled : List ℕ) → RunRead s x.at x.n after y filled → RunRead s at n left y filled
    run_more ne y filled rest =
        let r : Run = run_at s at in
        let e : run_at s x.at ≡ rest_of r = ap (run_at s) item.passed ∙ ap (λ (l : List ℕ). first (runs l)) (sym (drop-drop (length (spell (item_of r))) at s)) ∙ rest_read (drop at s) in
        record {
          passed = omega (arith, item.passed, rest.passed, rest_length r, ap (λ (q : Run). length (spell q)) e);
          counted = omega (arith, item.counted, rest.counted, rest_size r, ap size e);
          written = λ f. rest.written f
              ∙ ap (λ (q : Run). sets after x.n (lefts_from x.n q)) e
              ∙ ap₂ (λ (l : List ℕ) (k : ℕ). sets l k (lefts_from k (rest_of r))) (item.written (λ w. ne w.0)) item.counted
              ∙ rest_left left n r;
        }

  -- Where a run can be read, one can be read past an opening byte, and past an item.
  module _ (ready : Ready s at n left) where
    pub ready_inside : at < length s → Ready s (at + 1) n left
    ready_inside lt = record { form = ready.form; short = ready.short; inside = omega arith; fewer = omega (arith, ready.fewer); room = ready.room }

    ready_past : (x : ReadTo) (after : List ℕ) → ItemRead s at n left x after → length after ≡ length left → Ready s x.at x.n after
    ready_past x after h e =
        let r : Run = run_at s at in
        record {
          form = ready.form;
          short = ready.short;
          inside = omega (arith, h.passed, first_fits (drop at s), item_fits r, length-drop at s, ready.inside);
          fewer = fewer_nodes h ready.fewer;
          room = omega (arith, ready.room);
        }

-- The items of a run are read up to the byte at `here`: a run can be read there, and once it is, the whole run is read.
pub record ReadSoFar (s : List ℕ) (at n : ℕ) (left : List ℕ) (here : ReadTo) (after : List ℕ) : Type 0 where
  pub onward : at ≤ here.at
  pub kept : length after ≡ length left
  pub ready : Ready s here.at here.n after
  pub whole : (x : ReadTo) (filled : List ℕ) → RunRead s here.at here.n after x filled → RunRead s at n left x filled

module _ (s : List ℕ) (at n : ℕ) (left : List ℕ) where
  pub run_starts : Ready s at n left → ReadSoFar s at n left (record { at = at; n = n }) left
  run_starts h = record { onward = omega arith; kept = refl; ready = h; whole = λ x filled r. r }

  module _ (here : ReadTo) (after : List ℕ) (far : ReadSoFar s at n left here after) (x : ReadTo) (filled : List ℕ) (item : ItemRead s here.at here.n after x filled) where
    pub run_ends : x.at ≡ here.at → RunRead s at n left x filled
    run_ends h = far.whole x filled (run_done s here.at here.n after x filled item h)

    pub run_goes_on : (x.at ≡ here.at → ⊥) → length filled ≡ length after → ReadSoFar s at n left x filled
    run_goes_on ne e = record {
      onward = omega (arith, far.onward, item.passed);
      kept = e ∙ far.kept;
      ready = ready_past s here.at here.n after far.ready x filled item e;
      whole = λ y last r. far.whole y last (run_more s here.at here.n after x filled item ne y last r);
    }
