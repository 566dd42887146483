-- The parts of a text, and what its form says of them.
use mathlib.Core.Path.{◌≡◌, refl, sym, ap}
use mathlib.Core.Bool.{Bool, true, false, not, ◌&&◌}
use mathlib.Core.List.{List, [], ◌∷◌}
use Prim.Native.Nat.{ℕ, suc, ◌-◌, ◌≤◌, ◌<◌}
use native.Mathlib.Omega.{arith}
use lib.ListN.{length, take, drop, get_or, length-drop}
use lib.Seq.{take-length, length-take-le}
use lib.Dec.{eqb, leb}
use borrow.Author.Tests.{le-leb, lt-leb, leb-true, leb-false, eqb-true, ne_eqb, not-true}
use Rattle.std.specs.Int.{is_in_range}
use Rattle.std.specs.List.{list_all}
use Rattle.answer.proofs.Tells.{both_true}
use Rattle.decimal.specs.Score.{minus_first, behind_minus, whole_in, point_in, hundredths_in, is_digit, all_digits, idle_zero, unsigned_form}

-- The first byte of a text, if it has one.
pub minus_here : (s : List ℕ) → get_or s 0 0 ≡ 45 → true ≡ minus_first s
unfolding minus_first
minus_here [] e = absurd (omega (arith, e))
minus_here (b ∷ s) e = rw e

pub minus_other : (s : List ℕ) → (get_or s 0 0 ≡ 45 → ⊥) → false ≡ minus_first s
unfolding minus_first
minus_other [] n = refl
minus_other (b ∷ s) n = sym (ne_eqb b 45 n)

pub minus_none : (s : List ℕ) → length s < 1 → false ≡ minus_first s
unfolding minus_first
minus_none [] e = refl
minus_none (b ∷ s) e = absurd (omega arith)

-- What stands behind a minus.
pub behind_here : (s : List ℕ) → get_or s 0 0 ≡ 45 → take (length s - 1) (drop 1 s) ≡ behind_minus s
unfolding behind_minus minus_first
behind_here [] e = absurd (omega (arith, e))
behind_here (b ∷ s) e = let n : suc (length s) - 1 ≡ length s = omega arith in rw (e, n) (take-length s)

pub behind_other : (s : List ℕ) → (get_or s 0 0 ≡ 45 → ⊥) → s ≡ behind_minus s
unfolding behind_minus
behind_other s n = rw (sym (minus_other s n))

pub behind_short : (s : List ℕ) → length s < 1 → s ≡ behind_minus s
unfolding behind_minus
behind_short s e = rw (sym (minus_none s e))

pub behind_none : (s : List ℕ) → minus_first s ≡ false → s ≡ behind_minus s
unfolding behind_minus
behind_none s e = rw e

-- A zero before the point is idle if another digit stands behind it.
pub idle_here : (s : List ℕ) → 2 ≤ length s → get_or s 0 0 ≡ 48 → true ≡ idle_zero s
unfolding idle_zero
idle_here [] h e = absurd (omega arith)
idle_here (b ∷ s) h e = rw (e, le-leb 1 (length s) (omega arith))

pub idle_other : (s : List ℕ) → (get_or s 0 0 ≡ 48 → ⊥) → false ≡ idle_zero s
unfolding idle_zero
idle_other [] n = refl
idle_other (b ∷ s) n = rw (ne_eqb b 48 n)

pub idle_short : (s : List ℕ) → length s < 2 → false ≡ idle_zero s
unfolding idle_zero
idle_short [] h = refl
idle_short (b ∷ s) h = go (eqb b 48)
  where
    go : (x : Bool) → false ≡ (x && leb 1 (length s))
    go true = sym (lt-leb 1 (length s) (omega arith))
    go false = refl

pub idle_long : (s : List ℕ) → 2 ≤ length s → eqb (get_or s 0 0) 48 ≡ idle_zero s
unfolding idle_zero
idle_long [] h = absurd (omega arith)
idle_long (b ∷ s) h = go (eqb b 48)
  where
    go : (x : Bool) → x ≡ (x && leb 1 (length s))
    go true = sym (le-leb 1 (length s) (omega arith))
    go false = refl

-- Digits are told one by one.
pub digits_listed : (s : List ℕ) → list_all is_digit s ≡ all_digits s
unfolding all_digits
digits_listed [] = refl
digits_listed (b ∷ s) = ap (λ (x : Bool). is_digit b && x) (digits_listed s)

-- What the form says of each part.
pub record Parts (s : List ℕ) : Type 0 where
  pub some : 1 ≤ length (whole_in s)
  pub few : length (whole_in s) ≤ 5
  pub whole : all_digits (whole_in s) ≡ true
  pub point : point_in s ≡ 46
  pub hundredths : all_digits (hundredths_in s) ≡ true
  pub not_idle : idle_zero (whole_in s) ≡ false

module _ (s : List ℕ) where
  pub whole_length : length (whole_in s) ≡ length s - 3
  unfolding whole_in
  whole_length = length-take-le (length s - 3) s (omega arith)

  pub hundredths_length : length (hundredths_in s) ≡ length s - (length s - 2)
  unfolding hundredths_in
  hundredths_length = length-drop (length s - 2) s

  -- The last four tests, which the form comes down to for a text of 4 to 8 bytes.
  abbrev pub rest_form : Bool
  rest_form = all_digits (whole_in s) && eqb (point_in s) 46 && all_digits (hundredths_in s) && not (idle_zero (whole_in s))

  pub form_short : length s < 4 → false ≡ unsigned_form s
  unfolding unsigned_form
  form_short h = rw (lt-leb 1 (length (whole_in s)) (omega (arith, whole_length)))

  pub form_long : 8 < length s → false ≡ unsigned_form s
  unfolding unsigned_form
  form_long h = rw (le-leb 1 (length (whole_in s)) (omega (arith, whole_length)), lt-leb (length (whole_in s)) 5 (omega (arith, whole_length)))

  pub form_rest : 4 ≤ length s → length s ≤ 8 → unsigned_form s ≡ rest_form
  unfolding unsigned_form
  form_rest h k = rw (le-leb 1 (length (whole_in s)) (omega (arith, whole_length)), le-leb (length (whole_in s)) 5 (omega (arith, whole_length)))

  -- The tests one after another, each with those before it.
  pub form_by : {sized whole point digits : Bool} → sized ≡ is_in_range 4 8 (length s) → whole ≡ (sized && all_digits (whole_in s)) → point ≡ (whole && eqb (point_in s) 46) → digits ≡ (point && all_digits (hundredths_in s)) → (digits && not (idle_zero (whole_in s))) ≡ unsigned_form s
  form_by a b c d = rw (d, c, b, a) (go (leb 4 (length s)) refl (leb (length s) 8) refl)
    where
      go : (x : Bool) → leb 4 (length s) ≡ x → (y : Bool) → leb (length s) 8 ≡ y → (leb 4 (length s) && leb (length s) 8 && all_digits (whole_in s) && eqb (point_in s) 46 && all_digits (hundredths_in s) && not (idle_zero (whole_in s))) ≡ unsigned_form s
      go true e true f = rw (e, f) (sym (form_rest (leb-true 4 (length s) e) (leb-true (length s) 8 f)))
      go true e false f = rw (e, f) (form_long (leb-false (length s) 8 f))
      go false e y f = rw e (form_short (leb-false 4 (length s) e))

  pub form_parts : unsigned_form s ≡ true → Parts s
  unfolding unsigned_form
  form_parts e =
      let a = both_true _ (not (idle_zero (whole_in s))) e in
      let b = both_true _ (all_digits (hundredths_in s)) a.0 in
      let c = both_true _ (eqb (point_in s) 46) b.0 in
      let d = both_true _ (all_digits (whole_in s)) c.0 in
      let f = both_true (leb 1 (length (whole_in s))) (leb (length (whole_in s)) 5) d.0 in
      record {
        some = leb-true 1 (length (whole_in s)) f.0;
        few = leb-true (length (whole_in s)) 5 f.1;
        whole = d.1;
        point = eqb-true (point_in s) 46 c.1;
        hundredths = b.1;
        not_idle = not-true (idle_zero (whole_in s)) a.1;
      }
