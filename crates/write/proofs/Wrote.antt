-- What is answered and left, by whether the output has room.
use mathlib.Core.Path.{◌≡◌, refl, sym, ap, ap₂, ◌∙◌}
use mathlib.Core.Bool.{Bool, true, false, false≢true}
use lib.Dec.{leb}
use mathlib.Core.List.{List, ◌++◌}
use Prim.Native.Nat.{ℕ, ◌≤◌, ◌<◌}
use lib.ListN.{length, take, drop}
use lib.Seq.{sets, take_at}
use borrow.Author.Tests.{le-leb, lt-leb}
use Rattle.answer.specs.declared.Ground.TheVariants.{OutputShort}
use Rattle.answer.specs.declared.Place.TheVariants.{Nothing}
use Rattle.std.specs.Prelude.{Result, Ok, Err}
use Rattle.std.specs.Result.{is_ok}
use Rattle.answer.specs.Refusal.{refusal_at}
use Rattle.answer.specs.declared.Refusal.{Refusal}
use Rattle.write.specs.Wrote.{written_of, output_of, Wrote}
use Rattle.write.proofs.Sets.{sets_first}

module _ (bytes out : List ℕ) where
  module _ (h : length bytes ≤ length out) where
    pub written_all : written_of bytes (length out) ≡ Ok (length bytes)
    unfolding written_of
    written_all = rw (le-leb _ _ h)

    pub output_all : {after : List ℕ} → after ≡ sets out 0 bytes → after ≡ output_of bytes out
    unfolding output_of
    output_all e = e ∙ rw (le-leb _ _ h) (sets_first out bytes h)

  module _ (h : length out < length bytes) where
    pub output_none : out ≡ output_of bytes out
    unfolding output_of
    output_none = rw (lt-leb _ _ h)

    pub wrote_none : Wrote bytes out out (Err (refusal_at OutputShort Nothing))
    unfolding written_of
    wrote_none = record { answers = rw (lt-leb _ _ h); leaves = output_none }

pub wrote_all : (bytes out after : List ℕ) (n : ℕ) → n ≡ length bytes → length bytes ≤ length out → after ≡ sets out 0 bytes → Wrote bytes out after (Ok n)
wrote_all bytes out after n e h f = record { answers = rw (e, written_all bytes out h); leaves = output_all bytes out h f }

-- The bytes stand at the start of the output, as many as were answered.
pub wrote_front : (bytes before after : List ℕ) (r : Result ℕ Refusal) {n : ℕ} → r ≡ Ok n → Wrote bytes before after r → take n after ≡ bytes
unfolding written_of output_of
wrote_front bytes before after r {n} is w = go (leb (length bytes) (length before)) refl
  where
    length_in : Result ℕ Refusal → ℕ
    length_in (Ok m) = m
    length_in (Err d) = 0

    go : (b : Bool) → leb (length bytes) (length before) ≡ b → take n after ≡ bytes
    go true fits =
        let m : n ≡ length bytes = ap length_in (sym is ∙ rw fits at w.answers) in
        let a : after ≡ bytes ++ drop (length bytes) before = rw fits at w.leaves in
        ap₂ take m a ∙ take_at bytes (drop (length bytes) before) (length bytes) refl
    go false short = absurd (false≢true (ap is_ok (sym (rw short at w.answers) ∙ is)))
