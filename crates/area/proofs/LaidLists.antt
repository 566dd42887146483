-- Lists turned round and lists laid one behind another: what they hold, and how many.
use mathlib.Core.Path.{◌≡◌, refl, ap, subst, ◌∙◌}
use mathlib.Core.Bool.{Bool, true, false, cond}
use mathlib.Core.Logic.{inl, inr}
use mathlib.Core.List.Memᴰ
use mathlib.Core.List.{List, [], ◌∷◌, ◌++◌, reverse, reverse-cons, flat_map}
use Prim.Native.Nat.{ℕ, suc}
use native.Mathlib.Omega.{arith}
use lib.ListN.{length, length-append, length-reverse}
use lib.Dec.{eqb}
use borrow.Author.Tests.{eq-eqb, ne_eqb}
use Rattle.seed.specs.Seed.{◌∈◌, Rising, qs}
use Rattle.seed.specs.declared.Pair.{Pair}
use Rattle.area.specs.PaperOrder.{those}

pub turned_in : {A : Type 0} {x : A} (xs : List A) → x ∈ xs → x ∈ reverse xs
turned_in [] m = elim m [ ]
turned_in {x = x} (y ∷ ys) m =
    rw (reverse-cons y ys)
    (elim (Memᴰ.cases_cons m) [
      | inl e ↦ Memᴰ.append_right (reverse ys) (Memᴰ.head e)
      | inr n ↦ Memᴰ.append_left (y ∷ []) (turned_in ys n)
    ])

pub turned_of : {A : Type 0} {x : A} (xs : List A) → x ∈ reverse xs → x ∈ xs
turned_of [] m = m
turned_of {x = x} (y ∷ ys) m =
    elim (Memᴰ.append_cases (reverse ys) (subst (λ zs. x ∈ zs) (reverse-cons y ys) m)) [
      | inl n ↦ Memᴰ.tail (turned_of ys n)
      | inr n ↦ Memᴰ.head (Memᴰ.eq_of_singleton n)
    ]

pub laid_in : {A B : Type 0} (f : A → List B) {p : A} {x : B} (s : List A) → p ∈ s → x ∈ f p → x ∈ flat_map f s
unfolding flat_map
laid_in f [] m n = elim m [ ]
laid_in f {p} {x} (r ∷ s) m n =
    elim (Memᴰ.cases_cons m) [
      | inl e ↦ Memᴰ.append_left (flat_map f s) (subst (λ z. x ∈ f z) e n)
      | inr k ↦ Memᴰ.append_right (f r) (laid_in f s k n)
    ]

pub laid_of : {A B : Type 0} (f : A → List B) {x : B} (s : List A) → x ∈ flat_map f s → (p : A) × (p ∈ s) × (x ∈ f p)
unfolding flat_map
laid_of f [] m = elim m [ ]
laid_of f (r ∷ s) m =
    elim (Memᴰ.append_cases (f r) m) [
      | inl n ↦ (r, Memᴰ.head refl, n)
      | inr n ↦ let w = laid_of f s n in (w.0, Memᴰ.tail w.1, w.2)
    ]

pub those_append : {A : Type 0} (f : A → Bool) (xs ys : List A) → those f (xs ++ ys) ≡ those f xs ++ those f ys
unfolding those
those_append f [] ys = refl
those_append f (x ∷ xs) ys = rw (those_append f xs ys) (go (f x))
  where
    go : (b : Bool) → cond b (x ∷ (those f xs ++ those f ys)) (those f xs ++ those f ys) ≡ cond b (x ∷ those f xs) (those f xs) ++ those f ys
    go true = refl
    go false = refl

-- ---- a list sorted by keys into the pairs of a list that rises: it has as many

module _ {A : Type 0} (key : A → ℕ) where
  abbrev with_key : List A → Pair → List A
  with_key xs p = reverse (those (λ (y : A). eqb (key y) p.q) xs)

  -- One more of the list, whose key is that of the pair, or another.
  with_more : (x : A) (xs : List A) (p : Pair) → key x ≡ p.q → length (with_key (x ∷ xs) p) ≡ suc (length (with_key xs p))
  unfolding those
  with_more x xs p e =
      rw (eq-eqb (key x) p.q e)
      (omega (arith, length-reverse (x ∷ those (λ (y : A). eqb (key y) p.q) xs), length-reverse (those (λ (y : A). eqb (key y) p.q) xs)))

  with_same : (x : A) (xs : List A) (p : Pair) → (key x ≡ p.q → ⊥) → length (with_key (x ∷ xs) p) ≡ length (with_key xs p)
  unfolding those
  with_same x xs p e = rw (ne_eqb (key x) p.q e)

  -- It stands under one of the pairs that has its key, and under none that has not.
  none_more : (x : A) (xs : List A) (s : List Pair) → (key x ∈ qs s → ⊥) → length (flat_map (with_key (x ∷ xs)) s) ≡ length (flat_map (with_key xs) s)
  unfolding flat_map
  none_more x xs [] out = refl
  none_more x xs (p ∷ s) out =
      omega (
        arith,
        length-append (with_key (x ∷ xs) p) (flat_map (with_key (x ∷ xs)) s),
        length-append (with_key xs p) (flat_map (with_key xs) s),
        with_same x xs p (λ e. out (Memᴰ.head e)),
        none_more x xs s (λ n. out (Memᴰ.tail n)),
      )

  one_more : (x : A) (xs : List A) (s : List Pair) → Rising (qs s) → key x ∈ qs s → length (flat_map (with_key (x ∷ xs)) s) ≡ suc (length (flat_map (with_key xs) s))
  unfolding flat_map
  one_more x xs [] rise m = elim m [ ]
  one_more x xs (p ∷ s) rise m =
      elim (Memᴰ.cases_cons m) [
        | inl e ↦ omega (
          arith,
          length-append (with_key (x ∷ xs) p) (flat_map (with_key (x ∷ xs)) s),
          length-append (with_key xs p) (flat_map (with_key xs) s),
          with_more x xs p e,
          none_more x xs s (λ n. omega (arith, rise.0 (key x) n)),
        )
        | inr n ↦ omega (
          arith,
          length-append (with_key (x ∷ xs) p) (flat_map (with_key (x ∷ xs)) s),
          length-append (with_key xs p) (flat_map (with_key xs) s),
          with_same x xs p (λ e. omega (arith, rise.0 (key x) n)),
          one_more x xs s rise.1 n,
        )
      ]

  no_keys : (s : List Pair) → length (flat_map (with_key []) s) ≡ 0
  unfolding flat_map those
  no_keys [] = refl
  no_keys (p ∷ s) = no_keys s

  pub by_keys : (s : List Pair) → Rising (qs s) → (xs : List A) → ((x : A) → x ∈ xs → key x ∈ qs s) → length (flat_map (with_key xs) s) ≡ length xs
  by_keys s rise [] h = no_keys s
  by_keys s rise (x ∷ xs) h = one_more x xs s rise (h x (Memᴰ.head refl)) ∙ ap suc (by_keys s rise xs (λ y m. h y (Memᴰ.tail m)))
