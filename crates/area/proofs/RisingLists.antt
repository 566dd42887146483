-- Those of a list of which a test is true, and the parts of a list that rises by a number of each.
use mathlib.Core.Path.{◌≡◌, refl, sym, ap, subst, ◌∙◌}
use mathlib.Core.Bool.{Bool}
use mathlib.Core.Logic.{◌⊎◌, inl, inr, ◌↔◌}
use mathlib.Core.List.Memᴰ
use mathlib.Core.List.{List, [], ◌∷◌, map}
use Prim.Native.Nat.{ℕ, zero, suc, ◌≤◌, ◌<◌}
use native.Mathlib.Omega.{arith}
use lib.ListN.{length, take, drop, take-append-drop}
use Rattle.tree.proofs.Leaves.{lt_or_le}
use Rattle.answer.specs.Tells.{Tells}
use Rattle.answer.proofs.Tells.{decided, tells_not_false}
use Rattle.seed.specs.Seed.{◌∈◌, Rising}
use Rattle.area.specs.PaperOrder.{those}

module _ {A : Type 0} (f : A → Bool) (P : A → Type 0) (t : (x : A) → Tells (f x) (P x)) where
  module _ (y : A) (s : List A) where
    -- The first of a list is one of those if it has P, and else they are those of the others.
    those_first : P y → those f (y ∷ s) ≡ y ∷ those f s
    unfolding those
    those_first h = rw ((t y).1 h)

    those_later : ¬ P y → those f (y ∷ s) ≡ those f s
    unfolding those
    those_later h = rw (tells_not_false (f y) (t y) h)

  -- Those are the ones of the list that have P.
  pub those_each : (s : List A) (x : A) → (x ∈ those f s) ↔ ((x ∈ s) × P x)
  unfolding those
  those_each s x = (to s, λ h. from s h.0 h.1)
    where
      to : (s : List A) → x ∈ those f s → (x ∈ s) × P x
      to [] m = elim m [ ]
      to (y ∷ s) m =
          elim (decided _ _ (t y)) [
            | inl h ↦
                elim (Memᴰ.cases_cons (rw (those_first y s h) at m)) [
                  | inl e ↦ (Memᴰ.head e, subst P (sym e) h)
                  | inr n ↦ let w = to s n in (Memᴰ.tail w.0, w.1)
                ]
            | inr h ↦ let w = to s (rw (those_later y s h) at m) in (Memᴰ.tail w.0, w.1)
          ]

      from : (s : List A) → x ∈ s → P x → x ∈ those f s
      from [] m p = elim m [ ]
      from (y ∷ s) m p =
          elim (decided _ _ (t y)) [
            | inl h ↦
                rw (those_first y s h)
                (elim (Memᴰ.cases_cons m) [ inl e ↦ Memᴰ.head e | inr n ↦ Memᴰ.tail (from s n p) ])
            | inr h ↦ rw (those_later y s h) (elim (Memᴰ.cases_cons m) [ inl e ↦ absurd (h (subst P e p)) | inr n ↦ from s n p ])
          ]

  -- They rise by what the list rises by.
  pub those_rising : (g : A → ℕ) (s : List A) → Rising (map g s) → Rising (map g (those f s))
  unfolding those
  those_rising g [] r = tt
  those_rising g (y ∷ s) r =
      elim (decided _ _ (t y)) [
        | inl h ↦ rw (those_first y s h) (behind, those_rising g s r.1)
        | inr h ↦ rw (those_later y s h) (those_rising g s r.1)
      ]
    where
      behind : (n : ℕ) → n ∈ map g (those f s) → g y < n
      behind n m =
          let w = Memᴰ.of_map g (those f s) m in
          omega (arith, w.2, r.0 (g w.0) (Memᴰ.map g ((those_each s w.0).0 w.1).0))

-- Each of a list is one of the first k or one of the others.
pub take_or_drop : {A : Type 0} (k : ℕ) (s : List A) (x : A) → x ∈ s → (x ∈ take k s) ⊎ (x ∈ drop k s)
take_or_drop k s x m = Memᴰ.append_cases (take k s) (rw (← take-append-drop k s) at m)

-- The first k and the others are of the list.
pub take_in : {A : Type 0} (k : ℕ) (s : List A) (x : A) → x ∈ take k s → x ∈ s
take_in k s x m = rw (take-append-drop k s) at (Memᴰ.append_left (drop k s) m)

pub drop_in : {A : Type 0} (k : ℕ) (s : List A) (x : A) → x ∈ drop k s → x ∈ s
drop_in k s x m = rw (take-append-drop k s) at (Memᴰ.append_right (take k s) m)

-- One of the first j stands behind the first k, if j is greater.
pub between : {A : Type 0} (s : List A) (k j : ℕ) → k < j → j ≤ length s → (x : A) × (x ∈ take j s) × (x ∈ drop k s)
between [] k j lt le = absurd (omega arith)
between (y ∷ s) zero zero lt le = absurd (omega arith)
between (y ∷ s) zero (suc j) lt le = (y, Memᴰ.head refl, Memᴰ.head refl)
between (y ∷ s) (suc k) zero lt le = absurd (omega arith)
between (y ∷ s) (suc k) (suc j) lt le = let w = between s k j (omega arith) (omega arith) in (w.0, Memᴰ.tail w.1, w.2)

module _ {A : Type 0} (g : A → ℕ) where
  -- Two of a rising list with one number are equal.
  pub rising_one : (s : List A) → Rising (map g s) → (x y : A) → x ∈ s → y ∈ s → g x ≡ g y → x ≡ y
  rising_one [] r x y m n e = elim m [ ]
  rising_one (z ∷ s) r x y m n e =
      elim (Memᴰ.cases_cons m) [
        | inl u ↦
            elim (Memᴰ.cases_cons n) [ inl v ↦ u ∙ sym v | inr v ↦ absurd (omega (arith, ap g u, r.0 (g y) (Memᴰ.map g v))) ]
        | inr u ↦
            elim (Memᴰ.cases_cons n) [ inl v ↦ absurd (omega (arith, ap g v, r.0 (g x) (Memᴰ.map g u))) | inr v ↦ rising_one s r.1 x y u v e ]
      ]

  -- In a rising list the ones below n come first, and there are k of them.
  pub record SplitAt (n : ℕ) (s : List A) (k : ℕ) : Type 0 where
    pub few : k ≤ length s
    pub low : (x : A) → x ∈ take k s → g x < n
    pub high : (x : A) → x ∈ drop k s → n ≤ g x

  pub rising_split : (n : ℕ) (s : List A) → Rising (map g s) → (k : ℕ) × SplitAt n s k
  rising_split n [] r = (0, record { few = omega arith; low = λ x m. elim m [ ]; high = λ x m. elim m [ ] })
  rising_split n (y ∷ s) r =
      elim (lt_or_le (g y) n) [
        | inl h ↦
            let w = rising_split n s r.1 in (
              suc w.0,
              record {
                few = omega (arith, w.1.few);
                low = λ x m. elim (Memᴰ.cases_cons m) [ inl e ↦ omega (arith, ap g e) | inr u ↦ w.1.low x u ];
                high = w.1.high;
              },
            )
        | inr h ↦ (
          0,
          record {
            few = omega arith;
            low = λ x m. elim m [ ];
            high = λ x m. elim (Memᴰ.cases_cons m) [ inl e ↦ omega (arith, ap g e) | inr u ↦ omega (arith, r.0 (g x) (Memᴰ.map g u)) ];
          },
        )
      ]
