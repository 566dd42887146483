-- A pair fits a seed exactly if the gaps of its nodes are the same and not 0: since the nodes rise, those left of a node come first and those
-- in its subtree next, and of the later ones the nearest above it decides which others are above it.
use mathlib.Core.Path.{◌≡◌, refl, sym, ap, subst, ◌∙◌}
use mathlib.Core.Bool.{cond}
use mathlib.Core.Logic.{◌⊎◌, inl, inr, ◌↔◌, ◌≢◌}
use mathlib.Core.List.Memᴰ
use mathlib.Core.List.{List, [], ◌∷◌}
use Prim.Native.Nat.{ℕ, suc, ◌+◌, ◌≤◌, ◌<◌}
use native.Mathlib.Omega.{arith}
use lib.ListN.{length, length-map}
use lib.Dec.{eqb}
use Rattle.tree.specs.Nested.{leaf, Above, Nested}
use Rattle.seed.specs.Seed.{◌∈◌, Agree, Mapping, Rising, Pattern, qs, ts, q_of, t_of, last_pair}
use Rattle.seed.specs.Area.{FitsAt}
use Rattle.seed.specs.AreaList.{side, on_left, on_right, on_top, on_subtree}
use Rattle.gap.specs.GapNumbers.{weight, gap_from, gap}
use Rattle.seed.specs.Pairs.{pair_of}
use Rattle.seed.specs.declared.Pair.{Pair}
use Rattle.seed.proofs.Trees.{own, nest}
use Rattle.seed.proofs.Lists.{last_in}
use Rattle.seed.proofs.Sides.{side_of, side_top, top_side, Level}
use Rattle.seed.proofs.Areas.{fits_level, level_fits}

-- The gap from a list, by the side of its first node.
module _ (l : List ℕ) (i x : ℕ) (xs : List ℕ) (k : ℕ) where
  pub gap_left : side l x i ≡ 0 → gap_from l i (x ∷ xs) k ≡ gap_from l i xs (k + 256)
  unfolding gap_from weight
  gap_left e = rw e

  gap_right : side l x i ≡ 1 → gap_from l i (x ∷ xs) k ≡ gap_from l i xs (k + 1)
  unfolding gap_from weight
  gap_right e = rw e

  gap_top : side l x i ≡ 2 → gap_from l i (x ∷ xs) k ≡ k
  unfolding gap_from
  gap_top e = rw e

  pub gap_in : side l x i ≡ 3 → gap_from l i (x ∷ xs) k ≡ 0
  unfolding gap_from
  gap_in e = rw e

module _ (l : List ℕ) (i : ℕ) where
  -- A gap is 0, or at least what is counted before.
  gap_low : (xs : List ℕ) (k : ℕ) → (gap_from l i xs k ≡ 0) ⊎ (k ≤ gap_from l i xs k)
  unfolding gap_from
  gap_low [] k = inl refl
  gap_low (x ∷ xs) k =
      elim (side_of l x i) [
        | on_left e h ↦ more 256 (gap_left l i x xs k e) (gap_low xs (k + 256))
        | on_right e h ↦ more 1 (gap_right l i x xs k e) (gap_low xs (k + 1))
        | on_top e h ↦ inr (omega (arith, gap_top l i x xs k e))
        | on_subtree e h ↦ inl (gap_in l i x xs k e)
      ]
    where
      more : (w : ℕ) → gap_from l i (x ∷ xs) k ≡ gap_from l i xs (k + w) → (gap_from l i xs (k + w) ≡ 0) ⊎ (k + w ≤ gap_from l i xs (k + w)) → (gap_from l i (x ∷ xs) k ≡ 0) ⊎ (k ≤ gap_from l i (x ∷ xs) k)
      more w e (inl z) = inl (e ∙ z)
      more w e (inr z) = inr (omega arith)

  -- Behind i no node is left of it or in its subtree, and each counts 1 at most.
  gap_high : (xs : List ℕ) (k : ℕ) → ((x : ℕ) → x ∈ xs → i < x) → (leaf l i ≤ i) → (gap_from l i xs k ≡ 0) ⊎ (gap_from l i xs k < k + length xs)
  unfolding gap_from
  gap_high [] k h o = inl refl
  gap_high (x ∷ xs) k h o =
      let b = h x (Memᴰ.head refl) in
      elim (side_of l x i) [
        | on_left e u ↦ absurd (omega arith)
        | on_right e u ↦ more (gap_right l i x xs k e) (gap_high xs (k + 1) (λ y m. h y (Memᴰ.tail m)) o)
        | on_top e u ↦ inr (omega (arith, gap_top l i x xs k e))
        | on_subtree e u ↦ absurd (omega arith)
      ]
    where
      more : gap_from l i (x ∷ xs) k ≡ gap_from l i xs (k + 1) → (gap_from l i xs (k + 1) ≡ 0) ⊎ (gap_from l i xs (k + 1) < k + 1 + length xs) → (gap_from l i (x ∷ xs) k ≡ 0) ⊎ (gap_from l i (x ∷ xs) k < k + suc (length xs))
      more e (inl z) = inl (e ∙ z)
      more e (inr z) = inr (omega arith)

  -- A gap that is not 0 has a node above i.
  gap_above : (xs : List ℕ) (k : ℕ) → gap_from l i xs k ≢ 0 → (x : ℕ) × (x ∈ xs) × Above l x i
  unfolding gap_from
  gap_above [] k h = absurd (h refl)
  gap_above (x ∷ xs) k h =
      elim (side_of l x i) [
        | on_left e u ↦ later (gap_above xs (k + 256) (λ z. h (gap_left l i x xs k e ∙ z)))
        | on_right e u ↦ later (gap_above xs (k + 1) (λ z. h (gap_right l i x xs k e ∙ z)))
        | on_top e u ↦ (x, Memᴰ.head refl, u)
        | on_subtree e u ↦ absurd (h (gap_in l i x xs k e))
      ]
    where
      later : ((y : ℕ) × (y ∈ xs) × Above l y i) → (y : ℕ) × (y ∈ (x ∷ xs)) × Above l y i
      later r = (r.0, Memᴰ.tail r.1, r.2)

  -- Where a node of the list is above i and none in its subtree, the gap is not 0.
  pub above_gap : (xs : List ℕ) (k : ℕ) → 0 < k → ((x : ℕ) → x ∈ xs → side l x i ≢ 3) → (x : ℕ) → x ∈ xs → side l x i ≡ 2 → 0 < gap_from l i xs k
  above_gap [] k p h x m e = elim m [ ]
  above_gap (y ∷ ys) k p h x m e =
      elim (side_of l y i) [
        | on_left f u ↦ omega (arith, gap_left l i y ys k f, above_gap ys (k + 256) (omega arith) (λ z n. h z (Memᴰ.tail n)) x (later (λ z. omega (arith, ap (λ (n : ℕ). side l n i) z))) e)
        | on_right f u ↦ omega (arith, gap_right l i y ys k f, above_gap ys (k + 1) (omega arith) (λ z n. h z (Memᴰ.tail n)) x (later (λ z. omega (arith, ap (λ (n : ℕ). side l n i) z))) e)
        | on_top f u ↦ omega (arith, gap_top l i y ys k f)
        | on_subtree f u ↦ absurd (h y (Memᴰ.head refl) f)
      ]
    where
      later : ¬ (x ≡ y) → x ∈ ys
      later n = elim (Memᴰ.cases_cons m) [ inl z ↦ absurd (n z) | inr z ↦ z ]

-- How the first node of a list is seen, where the gap from the list is not 0.
data Seen (l : List ℕ) (i x : ℕ) (xs : List ℕ) (k g : ℕ) : Type 0 where
  seen_left : side l x i ≡ 0 → g ≡ gap_from l i xs (k + 256) → k + 256 ≤ g → Seen l i x xs k g
  seen_right : side l x i ≡ 1 → g ≡ gap_from l i xs (k + 1) → k < g → g < k + 256 → Seen l i x xs k g
  seen_top : side l x i ≡ 2 → Above l x i → g ≡ k → Seen l i x xs k g

module _ {l : List ℕ} (tree : Nested l) (i : ℕ) where
  seen : (x : ℕ) (xs : List ℕ) (k : ℕ) → ((y : ℕ) → y ∈ xs → x < y) → length xs < 256 → gap_from l i (x ∷ xs) k ≢ 0 → Seen l i x xs k (gap_from l i (x ∷ xs) k)
  seen x xs k rise few some =
      elim (side_of l x i) [
        | on_left e u ↦ let f = gap_left l i x xs k e in seen_left e f (omega (arith, low 256 f (gap_low l i xs (k + 256))))
        | on_right e u ↦
            let f = gap_right l i x xs k e in
            seen_right e f (omega (arith, low 1 f (gap_low l i xs (k + 1))))
            (high f (gap_high l i xs (k + 1) (λ y m. omega (arith, rise y m, own tree x)) (own tree i)))
        | on_top e u ↦ seen_top e u (gap_top l i x xs k e)
        | on_subtree e u ↦ absurd (some (gap_in l i x xs k e))
      ]
    where
      low : (w : ℕ) → gap_from l i (x ∷ xs) k ≡ gap_from l i xs (k + w) → (gap_from l i xs (k + w) ≡ 0) ⊎ (k + w ≤ gap_from l i xs (k + w)) → k + w ≤ gap_from l i (x ∷ xs) k
      low w f (inl z) = absurd (some (f ∙ z))
      low w f (inr z) = omega arith

      high : gap_from l i (x ∷ xs) k ≡ gap_from l i xs (k + 1) → (gap_from l i xs (k + 1) ≡ 0) ⊎ (gap_from l i xs (k + 1) < k + 1 + length xs) → gap_from l i (x ∷ xs) k < k + 256
      high f (inl z) = absurd (some (f ∙ z))
      high f (inr z) = omega arith

  -- Of a node behind one that is above i: it is above i exactly if it is above that one.
  later_side : (x y : ℕ) → Above l x i → x < y → ((side l y i ≡ 1) × (¬ Above l y x)) ⊎ ((side l y i ≡ 2) × Above l y x)
  later_side x y h g =
      elim (side_of l y i) [
        | on_left e u ↦ absurd (omega (arith, own tree i))
        | on_right e u ↦ inl (e, λ a. omega (arith, nest tree x y (omega arith)))
        | on_top e u ↦ inr (e, omega arith)
        | on_subtree e u ↦ absurd (omega arith)
      ]

module _ {Q T : List ℕ} (tree_q : Nested Q) (tree_t : Nested T) (i j : ℕ) where
  -- The pairs behind one that is above both nodes are seen alike.
  later_level : (p b : Pair) → Above Q p.q i → Above T p.t j → p.q < b.q → p.t < b.t → Above Q b.q p.q ↔ Above T b.t p.t → Level Q T b (pair_of i j)
  later_level p b hq ht lq lt same = go (later_side tree_q i p.q b.q hq lq) (later_side tree_t j p.t b.t ht lt)
    where
      go :
          ((side Q b.q i ≡ 1) × (¬ Above Q b.q p.q)) ⊎ ((side Q b.q i ≡ 2) × Above Q b.q p.q)
          → ((side T b.t j ≡ 1) × (¬ Above T b.t p.t)) ⊎ ((side T b.t j ≡ 2) × Above T b.t p.t)
          → Level Q T b (pair_of i j)
      go (inl u) (inl v) = (u.0 ∙ sym v.0, λ e. omega (arith, u.0))
      go (inl u) (inr v) = absurd (u.1 (same.1 v.1))
      go (inr u) (inl v) = absurd (v.1 (same.0 u.1))
      go (inr u) (inr v) = (u.0 ∙ sym v.0, λ e. omega (arith, u.0))

  abbrev AllLevel : List Pair → Type 0
  AllLevel s = (b : Pair) → b ∈ s → Level Q T b (pair_of i j)

  -- The gaps from both lists of nodes are the same and not 0, with k counted before.
  abbrev SameGap : List Pair → ℕ → Type 0
  SameGap s k = (gap_from Q i (qs s) k ≡ gap_from T j (ts s) k) × (gap_from Q i (qs s) k ≢ 0)

  module _ (p : Pair) (s : List Pair) (k : ℕ) (f : Mapping Q T (p ∷ s)) (r : Rising (qs (p ∷ s))) (few : length (p ∷ s) ≤ 256) (same : SameGap (p ∷ s) k) (rest : (w : ℕ) → SameGap s (k + w) → AllLevel s) where
    agree : (b : Pair) → b ∈ s → Agree Q T p b × Agree Q T b p
    agree b n = (f p b (Memᴰ.head refl) (Memᴰ.tail n), f b p (Memᴰ.tail n) (Memᴰ.head refl))

    before_q : (b : Pair) → b ∈ s → p.q < b.q
    before_q b n = r.0 b.q (Memᴰ.map q_of n)

    before_t : (b : Pair) → b ∈ s → p.t < b.t
    before_t b n = (agree b n).0.before.0 (before_q b n)

    behind : (y : ℕ) → y ∈ ts s → p.t < y
    behind y n = let w = Memᴰ.of_map t_of s n in omega (arith, before_t w.0 w.1, w.2)

    go_on : (w : ℕ) → gap_from Q i (qs (p ∷ s)) k ≡ gap_from Q i (qs s) (k + w) → gap_from T j (ts (p ∷ s)) k ≡ gap_from T j (ts s) (k + w) → AllLevel s
    go_on w u v = rest w (sym u ∙ same.0 ∙ v, λ z. same.1 (u ∙ z))

    first_level : Seen Q i p.q (qs s) k (gap_from Q i (qs (p ∷ s)) k) → Seen T j p.t (ts s) k (gap_from T j (ts (p ∷ s)) k) → Level Q T p (pair_of i j) × AllLevel s
    first_level (seen_left u x _) (seen_left v y _) = ((u ∙ sym v, λ z. omega arith), go_on 256 x y)
    first_level (seen_left u x y) (seen_right v _ _ z) = absurd (omega (arith, same.0))
    first_level (seen_left u x y) (seen_top v _ z) = absurd (omega (arith, same.0))
    first_level (seen_right u _ _ x) (seen_left v _ y) = absurd (omega (arith, same.0))
    first_level (seen_right u x _ _) (seen_right v y _ _) = ((u ∙ sym v, λ z. omega arith), go_on 1 x y)
    first_level (seen_right u _ x _) (seen_top v _ y) = absurd (omega (arith, same.0))
    first_level (seen_top u _ x) (seen_left v _ y) = absurd (omega (arith, same.0))
    first_level (seen_top u _ x) (seen_right v _ y _) = absurd (omega (arith, same.0))
    first_level (seen_top u x _) (seen_top v y _) = ((u ∙ sym v, λ z. omega arith), λ b n. later_level p b x y (before_q b n) (before_t b n) (agree b n).1.above)

    step_level : AllLevel (p ∷ s)
    step_level b m =
        let w =
        first_level
        (seen tree_q i p.q (qs s) k r.0 (omega (arith, length-map s q_of)) same.1)
        (seen tree_t j p.t (ts s) k behind (omega (arith, length-map s t_of)) (λ z. same.1 (same.0 ∙ z))) in
        elim (Memᴰ.cases_cons m) [ inl z ↦ subst (λ (x : Pair). Level Q T x (pair_of i j)) (sym z) w.0 | inr n ↦ w.1 b n ]

  -- Then every pair is seen alike, and the other way round.
  same_level : (s : List Pair) (k : ℕ) → Mapping Q T s → Rising (qs s) → length s ≤ 256 → SameGap s k → AllLevel s
  same_level [] k f r few e = λ b m. elim m [ ]
  same_level (p ∷ s) k f r few e =
      step_level p s k f r few e (λ w g. same_level s (k + w) (λ a b ma mb. f a b (Memᴰ.tail ma) (Memᴰ.tail mb)) r.1 (omega arith) g)

  level_same : (s : List Pair) (k : ℕ) → AllLevel s → gap_from Q i (qs s) k ≡ gap_from T j (ts s) k
  unfolding gap_from
  level_same [] k f = refl
  level_same (p ∷ s) k f =
      let e = (f p (Memᴰ.head refl)).0 in
      rw e (ap (λ (g : ℕ). cond (eqb (side T p.t j) 3) 0 (cond (eqb (side T p.t j) 2) k g)) (level_same s (k + weight (side T p.t j)) (λ b m. f b (Memᴰ.tail m))))

-- A rising list of numbers from lo on and below n has no more than stand between.
rising_few : (xs : List ℕ) (lo n : ℕ) → Rising xs → ((x : ℕ) → x ∈ xs → (lo ≤ x) × (x < n)) → lo ≤ n → lo + length xs ≤ n
rising_few [] lo n r h le = omega arith
rising_few (x ∷ xs) lo n r h le =
    let u = h x (Memᴰ.head refl) in
    omega (arith, rising_few xs (suc x) n r.1 (λ y m. (r.0 y m, (h y (Memᴰ.tail m)).1)) u.1)

module _ {Q T : List ℕ} (tree_q : Nested Q) (tree_t : Nested T) (s : List Pair) (seed : Pattern Q T s) where
  pub seed_few : length s ≤ length Q
  seed_few = omega (arith, length-map s q_of, rising_few (qs s) 0 (length Q) seed.rising small (omega arith))
    where
      small : (x : ℕ) → x ∈ qs s → (0 ≤ x) × (x < length Q)
      small x m = let w = Memᴰ.of_map q_of s m in omega (arith, seed.nodes w.0 w.1, w.2)

  module _ (few : length Q ≤ 256) (i j : ℕ) where
    -- A node above i that is in a pair lies in the subtree of the last pair.
    last_above : (x : ℕ) → x ∈ qs s → Above Q x i → Above Q (last_pair s).q i
    last_above x m h =
        let w = Memᴰ.of_map q_of s m in
        elim (seed.rooted w.0 w.1) [
          | inl e ↦ omega (arith, ap q_of e, ap (leaf Q) (sym w.2 ∙ ap q_of e), w.2)
          | inr e ↦ omega (arith, e.0, w.2, nest tree_q x (last_pair s).q (omega (arith, e.0, w.2)))
        ]

    pub gap_fits : ((gap Q (qs s) i ≡ gap T (ts s) j) × (gap Q (qs s) i ≢ 0)) ↔ FitsAt Q T s i j
    unfolding gap
    gap_fits = (to, from)
      where
        root : last_pair s ∈ s
        root = last_in (pair_of 0 0) s seed.some

        to : (gap Q (qs s) i ≡ gap T (ts s) j) × (gap Q (qs s) i ≢ 0) → FitsAt Q T s i j
        to h =
            let level = same_level tree_q tree_t i j s 1 seed.mapping seed.rising (omega (arith, seed_few)) h in
            let w = gap_above Q i (qs s) 1 h.1 in
            let up = last_above w.0 w.1 w.2 in
            level_fits tree_q tree_t s seed i j up
            (side_top T (last_pair s).t j (sym (level (last_pair s) root).0 ∙ top_side tree_q (last_pair s).q i up))
            level

        from : FitsAt Q T s i j → (gap Q (qs s) i ≡ gap T (ts s) j) × (gap Q (qs s) i ≢ 0)
        from h = (
          level_same tree_q tree_t i j s 1 (fits_level tree_q tree_t s seed i j h),
          λ e. omega (arith, above_gap Q i (qs s) 1 (omega arith) none (last_pair s).q (Memᴰ.map q_of root) (top_side tree_q (last_pair s).q i h.below_q)),
        )
          where
            none : (x : ℕ) → x ∈ qs s → side Q x i ≢ 3
            none x m e = let w = Memᴰ.of_map q_of s m in (fits_level tree_q tree_t s seed i j h w.0 w.1).1 (ap (λ (y : ℕ). side Q y i) w.2 ∙ e)
