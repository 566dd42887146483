-- What reading and writing answer is what their grounds say, and nothing else.
use mathlib.Core.Path.{◌≡◌, refl, sym, ap, subst, ◌∙◌}
use mathlib.Core.Bool.{Bool, true, false, cond, not, ◌&&◌, true≢false, false≢true}
use mathlib.Core.Logic.{◌⊎◌, inl, inr}
use mathlib.Core.List.{List}
use Prim.Native.Nat.{ℕ, ◌<◌}
use lib.Dec.{T, leb}
use lib.IntN.{ℤ, pos, negsuc}
use lib.ListN.{length}
use lib.Signed.{◌<ℤ◌, lt_z, lt_z_yes}
use borrow.Author.Tests.{lt-leb, leb-false, not-true}
use Rattle.std.specs.Prelude.{Result, Ok, Err}
use Rattle.answer.specs.Answer.{given, Accepted}
use Rattle.answer.specs.Refusal.{refusal_at, answer_in}
use Rattle.answer.specs.declared.Refusal.{Refusal}
use Rattle.answer.specs.Grounds.{Decides}
use Rattle.answer.specs.Tells.{Tells}
use Rattle.answer.specs.declared.Ground.TheVariants.{ScoreRange, OutputShort, ScoreText}
use Rattle.answer.specs.declared.Place.TheVariants.{Nothing}
use Rattle.answer.proofs.Grounds.{ground, guard}
use Rattle.answer.proofs.Tells.{tells_or}
use Rattle.write.specs.Wrote.{written_of}
use Rattle.table.specs.Rows.{in_range}
use Rattle.decimal.specs.Score.{score_form, number_in, is_score, score_read, number_text, beyond, WritesNumber}
use Rattle.decimal.specs.Grounds.{ReadSays, WriteSays}

tells_neither : (a b : Bool) → Tells (not (a && b)) ((a ≡ false) ⊎ (b ≡ false))
tells_neither true true = (λ e. absurd (false≢true e), λ h. elim h [ inl e ↦ absurd (true≢false e) | inr e ↦ absurd (true≢false e) ])
tells_neither true false = (λ e. inr refl, λ h. refl)
tells_neither false b = (λ e. inl refl, λ h. refl)

-- A score text is read, or is 23.
pub read_decides : (s : List ℕ) → Decides (ReadSays s) (answer_in (score_read s))
unfolding score_read is_score
read_decides s = subst (Decides (ReadSays s)) (go (score_form s && in_range (number_in s))) (ground (not (score_form s && in_range (number_in s))) (tells_neither (score_form s) (in_range (number_in s))) ScoreText Nothing)
  where
    go : (b : Bool) → given (not b) ScoreText Nothing Accepted ≡ answer_in (cond b (Ok (number_in s)) (Err (refusal_at ScoreText Nothing)))
    go true = refl
    go false = refl

-- ---- writing

is_true : (b : Bool) → T b → b ≡ true
is_true true t = refl
is_true false t = absurd t

tells_less : (a b : ℤ) → Tells (lt_z a b) (a <ℤ b)
tells_less a b = (λ e. lt_z_yes (rw e tt), λ h. is_true (lt_z a b) h.lt)

tells_short : (room size : ℕ) → Tells (not (leb size room)) (room < size)
tells_short room size = (λ e. leb-false size room (not-true (leb size room) e), λ h. rw (lt-leb size room h))

-- A number is written, or is 11 and then 22.
module _ (z : ℤ) (room : ℕ) where
  grounds : Decides (WriteSays z room) (given (beyond z) ScoreRange Nothing (given (not (leb (length (number_text z)) room)) OutputShort Nothing Accepted))
  unfolding beyond
  grounds =
      guard (beyond z) (tells_or (lt_z z (negsuc 63999999)) (lt_z (pos 64000000) z) (tells_less z (negsuc 63999999)) (tells_less (pos 64000000) z)) ScoreRange Nothing
      (ground (not (leb (length (number_text z)) room)) (tells_short room (length (number_text z))) OutputShort Nothing)

  answered : given (beyond z) ScoreRange Nothing (given (not (leb (length (number_text z)) room)) OutputShort Nothing Accepted) ≡ answer_in (cond (beyond z) (Err (refusal_at ScoreRange Nothing)) (written_of (number_text z) room))
  unfolding written_of
  answered = go (beyond z) (leb (length (number_text z)) room)
    where
      go : (a b : Bool) → given a ScoreRange Nothing (given (not b) OutputShort Nothing Accepted) ≡ answer_in (cond a (Err (refusal_at ScoreRange Nothing)) (cond b (Ok (length (number_text z))) (Err (refusal_at OutputShort Nothing))))
      go true b = refl
      go false true = refl
      go false false = refl

pub write_decides : {z : ℤ} {before after : List ℕ} {r : Result ℕ Refusal} → WritesNumber z before after r → Decides (WriteSays z (length before)) (answer_in r)
write_decides {z} {before} w = subst (Decides (WriteSays z (length before))) (answered z (length before) ∙ sym (ap answer_in w.answers)) (grounds z (length before))
