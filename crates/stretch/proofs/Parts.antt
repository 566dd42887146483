-- What is handed back of a text, in the words of document 01: the part that spells the stretch, or the empty part at the text's start.
use mathlib.Core.Path.{◌≡◌, refl, ap, ap₂, ◌∙◌}
use mathlib.Core.Bool.{Bool, true, false, cond}
use Prim.Native.Nat.{ℕ, ◌+◌}
use native.Mathlib.Omega.{arith}
use mathlib.Core.List.{List, []}
use lib.Dec.{leb}
use denote.Ref.{Bor}
use Rattle.answer.specs.declared.Ground.TheVariants.{OutsideTree}
use Rattle.answer.specs.declared.Place.TheVariants.{Nothing}
use Rattle.answer.specs.Answer.{Accepted, Refused}
use Rattle.answer.proofs.Denied.{denies}
use Rattle.character.specs.Character.{meaning_of}
use Rattle.tree.specs.Run.{Run, spell}
use Rattle.tree.specs.Reading.{Reading, bad_length, reading}
use Rattle.tree.specs.Reading.Reading.{text_accepted}
use Rattle.stretch.specs.Stretch.{Stretch, stretch_in, Located, located_by, located, check_of, spelled, part, part_of, HandsBack}
use Rattle.stretch.specs.Stretch.Found.{at, nowhere}
use Rattle.stretch.proofs.Stretches.{stretches}
use Rattle.stretch.proofs.Searches.{part_none}

module _ {text r : Bor (List ℕ)} {a b : ℕ} (w : HandsBack text a b r) where
  -- A stretch with k bytes before it is handed back as the bytes behind them that spell it.
  pub part_stretch : {x : Run} {k : ℕ} {y : Run} → reading text.now ≡ text_accepted x → Stretch x a b k y → (r.now ≡ spell y) × (r.ref_ptr.0 ≡ text.ref_ptr.0) × (r.ref_ptr.1 ≡ text.ref_ptr.1 + k)
  unfolding part_of
  part_stretch {x = x} {k = k} {y = y} ok st =
      let found : stretch_in x a b ≡ at k y = (stretches x a b k y).1 st in (
        w.spells ∙ ap (λ (z : Reading). part z a b) ok ∙ ap spelled found,
        w.own,
        w.lies ∙ ap (λ (z : Located). text.ref_ptr.1 + z.from) (ap (λ (z : Reading). located z a b) ok ∙ ap located_by found),
      )

  -- A refusal hands back the empty part at the text's start.
  pub part_refused : (check_of text.now a b ≡ Accepted → ⊥) → (r.now ≡ []) × (r.ref_ptr ≡ text.ref_ptr)
  unfolding check_of
  part_refused denied =
      let none = part_none text.now a b denied in
      (w.spells ∙ none.0, ap₂ (λ (i : ℕ) (j : ℕ). (i, j)) w.own (omega (arith, w.lies, none.1)))

-- The empty text has no stretch (document 02, f): whatever the two numbers are, they are refused on 15 without a place, and the empty part is handed back.
pub empty_no_stretch : (a b : ℕ) → check_of [] a b ≡ Refused OutsideTree Nothing
unfolding check_of reading bad_length meaning_of stretch_in
empty_no_stretch a b = go (leb a b)
  where
    go : (t : Bool) → (located_by (cond t nowhere nowhere)).answer ≡ Refused OutsideTree Nothing
    go true = refl
    go false = refl

pub empty_part : {text r : Bor (List ℕ)} {a b : ℕ} → HandsBack text a b r → text.now ≡ [] → (r.now ≡ []) × (r.ref_ptr ≡ text.ref_ptr)
empty_part {a = a} {b = b} w none = part_refused w (denies (ap (λ (s : List ℕ). check_of s a b) none ∙ empty_no_stretch a b))
