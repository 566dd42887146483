-- A line ends where its line feed stands, and the next part starts behind that.
use Rattle.std.proofs.Common.{◌≡◌, refl, sym, ap, ◌∙◌, Bool, true, false, cond, List, [], ◌∷◌, ℕ, zero, suc, ◌+◌, ◌-◌, ◌≤◌, ◌<◌, min, length, take, drop, length-take, length-drop, arith, add-one, Some, None}
use Rattle.std.specs.Prelude.{nat_lt, if◌then◌else◌}
use Rattle.std.specs.List.{position, position_or_len}
use Rattle.std.proofs.lemmas.List.Recursion.{is_position_or_len}
use native.Mathlib.Nat.{zero-min, min-zero, suc-min-suc}
use lib.Dec.{eqb}
use lib.ListN.{drop_of_length-le}
use lib.Seq.{take_all}
use borrow.Author.Tests.{ltb-true, ltb-false}
use Rattle.report.specs.Input.{ahead, behind}
use Rattle.report.specs.inner.Steps.{is_feed}

pub take_min : (k : ℕ) (l : List ℕ) → take (min (length l) k) l ≡ take k l
take_min zero l = rw min-zero
take_min (suc k) [] = rw zero-min
take_min (suc k) (x ∷ l) = rw suc-min-suc (ap (λ s. x ∷ s) (take_min k l))

take_by : (t : Bool) (b : ℕ) (s a : List ℕ) → take (length a) s ≡ a → take (length (cond t [] (b ∷ a))) (b ∷ s) ≡ cond t [] (b ∷ a)
take_by true b s a e = refl
take_by false b s a e = ap (λ x. b ∷ x) e

take_ahead : (s : List ℕ) → take (length (ahead s)) s ≡ ahead s
unfolding ahead
take_ahead [] = refl
take_ahead (b ∷ s) = take_by (eqb b 10) b s (ahead s) (take_ahead s)

drop_by : (t : Bool) (b : ℕ) (s a r : List ℕ) → r ≡ drop (suc (length a)) s → cond t s r ≡ drop (suc (length (cond t [] (b ∷ a)))) (b ∷ s)
drop_by true b s a r e = refl
drop_by false b s a r e = e

behind_drop : (s : List ℕ) → behind s ≡ drop (suc (length (ahead s))) s
unfolding ahead behind
behind_drop [] = refl
behind_drop (b ∷ s) = drop_by (eqb b 10) b s (ahead s) (behind s) (behind_drop s)

length_ahead : (s : List ℕ) → length (ahead s) ≤ length s
length_ahead s = omega (arith, ap length (take_ahead s), length-take (length (ahead s)) s)

-- The first line feed stands where the line ends.
ahead_more : (t : Bool) (b : ℕ) (a : List ℕ) → length (cond t [] (b ∷ a)) ≡ cond t 0 (1 + length a)
ahead_more true b a = refl
ahead_more false b a = omega arith

feed_place : (s : List ℕ) → length (ahead s) ≡ position_or_len is_feed s
unfolding ahead
feed_place = is_position_or_len (λ (s : List ℕ). length (ahead s)) is_feed refl (λ b s. ahead_more (eqb b 10) b (ahead s))

module _ (s : List ℕ) where
  feed_is : {at : ℕ} → position is_feed s ≡ Some at → (at < length s) × (at ≡ length (ahead s))
  feed_is {at} = go (nat_lt (position_or_len is_feed s) (length s)) refl
    where
      go : (b : Bool) → nat_lt (position_or_len is_feed s) (length s) ≡ b → (if b then Some (position_or_len is_feed s) else None) ≡ Some at → (at < length s) × (at ≡ length (ahead s))
      go true e f =
          let same : position_or_len is_feed s ≡ at = cc in
          (omega (arith, ltb-true (position_or_len is_feed s) (length s) e, same), sym same ∙ sym (feed_place s))
      go false e f = cc

  feed_none : position is_feed s ≡ None → length s ≤ length (ahead s)
  feed_none = go (nat_lt (position_or_len is_feed s) (length s)) refl
    where
      go : (b : Bool) → nat_lt (position_or_len is_feed s) (length s) ≡ b → (if b then Some (position_or_len is_feed s) else None) ≡ None → length s ≤ length (ahead s)
      go true e f = cc
      go false e f = omega (arith, ltb-false (position_or_len is_feed s) (length s) e, feed_place s)

  pub feed_within : {at : ℕ} → position is_feed s ≡ Some at → at < length s
  feed_within e = (feed_is e).0

  pub feed_ahead : {at : ℕ} → position is_feed s ≡ Some at → take at s ≡ ahead s
  feed_ahead e = ap (λ (n : ℕ). take n s) (feed_is e).1 ∙ take_ahead s

  pub feed_behind : {at : ℕ} → position is_feed s ≡ Some at → take (length s - (at + 1)) (drop (at + 1) s) ≡ behind s
  feed_behind {at} e =
      take_all (length s - (at + 1)) (drop (at + 1) s) (omega (arith, length-drop (at + 1) s))
      ∙ ap (λ (n : ℕ). drop n s) (add-one at ∙ ap (λ (n : ℕ). suc n) (feed_is e).1)
      ∙ sym (behind_drop s)

  pub none_ahead : position is_feed s ≡ None → s ≡ ahead s
  none_ahead e = sym (take_all (length (ahead s)) s (feed_none e)) ∙ take_ahead s

  pub none_behind : position is_feed s ≡ None → [] ≡ behind s
  none_behind e = sym (drop_of_length-le s {i = suc (length (ahead s))} (omega (arith, feed_none e))) ∙ sym (behind_drop s)
