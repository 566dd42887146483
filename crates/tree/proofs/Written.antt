-- A text written in dot-bracket form, byte by byte, and what is read of it.
use mathlib.Core.Path.{◌≡◌, refl, sym, ap, ap₂, subst, ◌∙◌}
use mathlib.Core.Bool.{true, false}
use Prim.Native.Nat.{ℕ, ◌+◌, ◌≤◌, ◌<◌}
use native.Mathlib.Omega.{arith}
use native.Mathlib.Numerals.{add-one}
use mathlib.Core.List.{List, [], ◌∷◌, ◌++◌, map-append}
use lib.ListN.{length, get_or, take, set, length-set}
use lib.Seq.{take_all, take-suc, take-suc-set}
use borrow.Author.Tests.{le-ltb, lt-ltb}
use Rattle.answer.specs.declared.Ground.TheVariants.{UnknownByte, ClosesOtherKind}
use Rattle.std.specs.Prelude.{Result, Ok, Err}
use Rattle.character.specs.Character.{role_of}
use Rattle.character.specs.declared.Role.{Role}
use Rattle.tree.specs.Reading.{form_byte, dot_bracket_of, Reading, read_of, first_refused, blind_reading, first_other_kind, with_kinds}
use Rattle.tree.specs.Reading.Reading.{text_accepted, text_refused}
use Rattle.tree.specs.inner.DotBracket.{SameRoles, in_dot_bracket}
use Rattle.tree.specs.inner.Building.{Known, Formed}
use Rattle.tree.specs.declared.Tree.{Tree}
use Rattle.tree.specs.declared.RefusedText.{RefusedText}
use Rattle.tree.proofs.DotBrackets.{dots_form, dots_known, dots_kinds, form_in, form_length, form_keeps_role, form_other, form_blind}
use Rattle.tree.proofs.Texts.{blind_unknown}

-- The bytes up to i are written.
pub record WrittenTo (s : List ℕ) (i : ℕ) (form : List ℕ) : Type 0 where
  pub inside : i ≤ length s
  pub room : length form ≡ 256
  pub is : take i form ≡ dot_bracket_of (take i s)

pub written_start : (s form : List ℕ) → length form ≡ 256 → WrittenTo s 0 form
written_start s form h = record { inside = omega arith; room = h; is = refl }

pub written_turn : (s form : List ℕ) (i : ℕ) {b : ℕ} → WrittenTo s i form → length s ≤ 255 → i < length s → b ≡ form_byte (role_of (get_or s i 0)) → WrittenTo s (i + 1) (set form i b)
written_turn s form i {b} h few lt e =
    record {
      inside = omega arith;
      room = length-set form i b ∙ h.room;
      is = ap (λ (k : ℕ). take k (set form i b)) (add-one i)
          ∙ take-suc-set form i b (omega (arith, h.room))
          ∙ ap₂ (λ (l : List ℕ) (x : ℕ). l ++ x ∷ []) h.is e
          ∙ sym (map-append (λ (c : ℕ). form_byte (role_of c)) (take i s) (get_or s i 0 ∷ []))
          ∙ ap dot_bracket_of (sym (take-suc s i 0 lt) ∙ ap (λ (k : ℕ). take k s) (sym (add-one i)));
    }

pub written_end : (s form : List ℕ) (i : ℕ) → WrittenTo s i form → length s ≤ i → take (length s) form ≡ dot_bracket_of s
written_end s form i h le =
    let all : i ≡ length s = omega (arith, h.inside) in
    ap (λ (k : ℕ). take k form) (sym all) ∙ h.is ∙ ap (λ (k : ℕ). dot_bracket_of (take k s)) all ∙ ap dot_bracket_of (take_all (length s) s (omega arith))

-- A text of dots and round brackets needs no other form, and no look at its kinds.
module _ (s : List ℕ) (dots : in_dot_bracket s ≡ true) where
  pub form_known : length s ≤ 255 → Known s
  form_known short = record { form = dots_form s dots; short = short; known = omega (arith, dots_known s dots) }

  pub form_read : with_kinds s (blind_reading s) ≡ blind_reading s
  form_read = go (blind_reading s)
    where
      go : (x : Reading) → with_kinds s x ≡ x
      go (text_accepted r) = rw (dots_kinds s dots, le-ltb (length s) (length s) (omega arith))
      go (text_refused g k) = refl

-- What the form tells of the bytes of its text.
module _ {s form : List ℕ} (h : Formed s form) where
  pub formed_length : length form ≡ length s
  formed_length = ap length h.is ∙ form_length s

  pub formed_dot : SameRoles form
  formed_dot = subst SameRoles (sym h.is) (form_in s)

  pub formed_role : (i : ℕ) {m : Role} → m ≡ role_of (get_or form i 0) → m ≡ role_of (get_or s i 0)
  formed_role i e = e ∙ ap (λ (l : List ℕ). role_of (get_or l i 0)) h.is ∙ form_keeps_role s i

-- What is read of a text in its dot-bracket form, in each case of the code. The form is a part of an array.
module _ (s array : List ℕ) (short : length s ≤ 255) (whole : take (length s) array ≡ dot_bracket_of s) where
  abbrev Form : List ℕ
  Form = take (length s) array

  is : Form ≡ dot_bracket_of s
  is = whole

  pub formed : Formed s Form
  formed = record { short = short; is = is }

  pub written_refused : in_dot_bracket Form ≡ false → (u : ℕ) → u ≡ first_refused s → read_of (text_refused UnknownByte u) ≡ read_of (with_kinds s (blind_reading s))
  written_refused h u e = ap (λ (k : ℕ). read_of (text_refused UnknownByte k)) e ∙ sym (ap (λ (x : Reading). read_of (with_kinds s x)) (blind_unknown s (form_other s (sym (ap in_dot_bracket is) ∙ h))))

  pub written_known : in_dot_bracket Form ≡ true → Known Form
  written_known h = record { form = dots_form Form h; short = omega (arith, ap length is, form_length s); known = omega (arith, dots_known Form h) }

  module _ (x : Result Tree RefusedText) (read : x ≡ read_of (blind_reading Form)) where
    is_blind : x ≡ read_of (blind_reading s)
    is_blind = read ∙ ap (λ (l : List ℕ). read_of (blind_reading l)) is ∙ form_blind s

    -- A refusal stays, and an acceptance waits for the kinds.
    pub written_stays : (e : RefusedText) → x ≡ Err e → Err e ≡ read_of (with_kinds s (blind_reading s))
    written_stays e f = go (blind_reading s) (sym f ∙ is_blind)
      where
        go : (y : Reading) → Err e ≡ read_of y → Err e ≡ read_of (with_kinds s y)
        go (text_accepted r) h = cc
        go (text_refused g k) h = h

    module _ (o : ℕ) (other : o ≡ first_other_kind s []) (t : Tree) (f : x ≡ Ok t) where
      pub written_other : o < length s → read_of (text_refused ClosesOtherKind o) ≡ read_of (with_kinds s (blind_reading s))
      written_other h = go (blind_reading s) (sym f ∙ is_blind)
        where
          go : (y : Reading) → Ok t ≡ read_of y → read_of (text_refused ClosesOtherKind o) ≡ read_of (with_kinds s y)
          go (text_accepted r) e = rw (← other, lt-ltb o (length s) h)
          go (text_refused g k) e = cc

      pub written_read : length s ≤ o → Ok t ≡ read_of (with_kinds s (blind_reading s))
      written_read h = go (blind_reading s) (sym f ∙ is_blind)
        where
          go : (y : Reading) → Ok t ≡ read_of y → Ok t ≡ read_of (with_kinds s y)
          go (text_accepted r) e = rw (← other, le-ltb o (length s) h) e
          go (text_refused g k) e = cc
