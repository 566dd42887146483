-- Seeds on a text without structure (document 02, f): where one of the two trees is the added root alone, a seed has no areas, and no two seeds are
-- chainable.
use mathlib.Core.Path.{◌≡◌, refl, subst}
use mathlib.Core.Logic.{◌⊎◌, inl, ⊎_elim}
use mathlib.Core.List.Memᴰ
use mathlib.Core.List.{List, [], ◌∷◌}
use Prim.Native.Nat.{ℕ, ◌<◌}
use native.Mathlib.Omega.{arith}
use lib.ListN.{length}
use Rattle.seed.specs.Paths.{RootAlone}
use Rattle.seed.specs.Seed.{◌∈◌, Pattern, q_of, t_of, last_pair, Span}
use Rattle.seed.specs.Chain.{Chainable}
use Rattle.seed.specs.Area.{Box, FitsAt, Area, Areas}
use Rattle.seed.specs.Pairs.{pair_of}
use Rattle.seed.specs.declared.Pair.{Pair}
use Rattle.seed.proofs.Lists.{last_in}

module _ {Q T : List ℕ} {s : List Pair} (seed : Pattern Q T s) where
  root_in : last_pair s ∈ s
  root_in = last_in (pair_of 0 0) s seed.some

  root_nodes : ((last_pair s).q < length Q) × ((last_pair s).t < length T)
  root_nodes = seed.nodes (last_pair s) root_in

  -- Nothing lies properly below the only node.
  no_fit : RootAlone Q ⊎ RootAlone T → (i j : ℕ) → FitsAt Q T s i j → ⊥
  no_fit alone i j f = ⊎_elim (λ one. omega (arith, root_nodes, f.below_q)) (λ one. omega (arith, root_nodes, f.below_t)) alone

  pub alone_no_area : RootAlone Q ⊎ RootAlone T → (x : Box) → Area Q T s x → ⊥
  alone_no_area alone x h =
      let box = h.filled in
      no_fit alone x.a x.c (box.all x.a x.c (omega arith, box.wide, omega arith, box.high))

  pub alone_no_areas : RootAlone Q ⊎ RootAlone T → (xs : List Box) → Areas Q T s xs → xs ≡ []
  alone_no_areas alone [] h = refl
  alone_no_areas alone (x ∷ xs) h = absurd (alone_no_area alone x ((h.each x).0 (Memᴰ.head refl)))

-- Spans of lists that have a node in common share it.
shared : (l : List ℕ) {xs ys : List ℕ} {x y : ℕ} → x ∈ xs → y ∈ ys → y ≡ x → ((z : ℕ) → Span l xs z → ¬ Span l ys z) → ⊥
shared l {ys = ys} {x = x} m n same apart = apart x (inl m) (subst (Span l ys) same (inl n))

-- So do those of two seeds on the only node.
pub alone_not_chainable : {Q T : List ℕ} {s u : List Pair} → RootAlone Q ⊎ RootAlone T → Pattern Q T s → Pattern Q T u → Chainable Q T s u → ⊥
alone_not_chainable {Q} {T} alone a b c =
    let n = root_nodes a in
    let m = root_nodes b in
    ⊎_elim
    (λ one. shared Q (Memᴰ.map q_of (root_in a)) (Memᴰ.map q_of (root_in b)) (omega arith) c.apart_q)
    (λ one. shared T (Memᴰ.map t_of (root_in a)) (Memᴰ.map t_of (root_in b)) (omega arith) c.apart_t)
    alone
