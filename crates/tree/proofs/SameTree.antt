-- The characters of a text play no part in its tree: it is that of the text in dot-bracket form.
use mathlib.Core.Path.{◌≡◌, refl, sym, ap, subst, ◌∙◌}
use mathlib.Core.Bool.{Bool, true, false, cond}
use Prim.Native.Nat.{ℕ, ◌≤◌}
use native.Mathlib.Omega.{arith}
use mathlib.Core.List.{List, []}
use lib.ListN.{length}
use lib.Dec.{ltb}
use Rattle.answer.specs.declared.Ground.TheVariants.{ClosesOtherKind}
use Rattle.answer.proofs.Denied.{clash}
use Rattle.tree.specs.Run.{Run}
use Rattle.tree.specs.Reading.{dot_bracket_of, Reading, reading, read_of, bad_length, first_refused, blind_reading, first_other_kind, with_kinds}
use Rattle.tree.specs.Reading.Reading.{text_accepted, text_refused}
use Rattle.tree.specs.inner.DotBracket.{in_dot_bracket}
use Rattle.tree.proofs.DotBrackets.{form_length, form_other, form_blind}
use Rattle.tree.proofs.Grounds.{spell_known, accepted_spell}
use Rattle.tree.proofs.Texts.{read_fits}
use Rattle.tree.proofs.Written.{form_read}

module _ (s : List ℕ) (r : Run) (e : reading s ≡ text_accepted r) where
  fits : bad_length (length s) ≡ false
  fits = (accepted_spell s r e).2

  known : length s ≤ first_refused s
  known = let w = accepted_spell s r e in subst (λ (l : List ℕ). length l ≤ first_refused l) (sym w.0) (spell_known r w.1)

  in_form : in_dot_bracket (dot_bracket_of s) ≡ true
  in_form = go (in_dot_bracket (dot_bracket_of s)) refl
    where
      go : (b : Bool) → in_dot_bracket (dot_bracket_of s) ≡ b → in_dot_bracket (dot_bracket_of s) ≡ true
      go true h = h
      go false h = absurd (omega (arith, known, form_other s h))

  -- What passed the kinds was accepted before them.
  accepted_blind : blind_reading s ≡ text_accepted r
  accepted_blind = go (blind_reading s) (sym (read_fits s fits) ∙ e)
    where
      by : (q : Run) (b : Bool) → cond b (text_refused ClosesOtherKind (first_other_kind s [])) (text_accepted q) ≡ text_accepted r → text_accepted q ≡ text_accepted r
      by q true h = clash (cc)
      by q false h = h

      go : (x : Reading) → with_kinds s x ≡ text_accepted r → x ≡ text_accepted r
      go (text_accepted q) h = by q (ltb (first_other_kind s []) (length s)) h
      go (text_refused g k) h = clash (cc)

  pub same_tree : read_of (reading (dot_bracket_of s)) ≡ read_of (reading s)
  same_tree =
      let short : bad_length (length (dot_bracket_of s)) ≡ false = ap bad_length (form_length s) ∙ fits in
      ap read_of (read_fits (dot_bracket_of s) short ∙ form_read (dot_bracket_of s) in_form) ∙ form_blind s ∙ ap read_of (accepted_blind ∙ sym e)
