-- What one step of the code that lists areas in the paper's order does: of what is left to write, it writes the first part.
use mathlib.Core.Path.{◌≡◌, refl, ap, subst}
use mathlib.Core.Logic.{inl, inr}
use mathlib.Core.List.{List, [], ◌++◌, flat_map}
use Prim.Native.Nat.{ℕ, zero, suc, ◌+◌, ◌*◌, ◌-◌, ◌≤◌, ◌<◌}
use native.Mathlib.Omega.{arith}
use native.Mathlib.Numerals.{add-one}
use lib.ListN.{length, get_or, drop, drop_of_length-le}
use lib.Seq.{sets, drop-cons}
use borrow.Author.Tests.{eq-eqb, ne_eqb, le-leb, lt-leb}
use Rattle.write.specs.Puts.{Puts, Room}
use Rattle.write.proofs.Puts.{Left, left_room, left_less, left_none, room_first, puts_output}
use Rattle.tree.specs.Nested.{leaf, Nested}
use Rattle.tree.proofs.Leaves.{lt_or_le}
use Rattle.seed.specs.Area.{Box}
use Rattle.seed.specs.AreaList.{bytes_of}
use Rattle.seed.proofs.Trees.{own}
use Rattle.area.specs.inner.Boxes.{box_from, boxes_below}
use Rattle.area.specs.inner.Walk.{child_box, child_boxes, boxes_under, boxes_in_order, boxes_by, AsMany}
use Rattle.area.specs.declared.Order.{Order}
use Rattle.area.specs.declared.Order.TheVariants.{RisingA, Paper}
use Rattle.area.proofs.AreaSteps.{bytes_append, bytes_length}

-- At first all is left.
pub left_all : {s : List ℕ} {at : ℕ} {o : List ℕ} → Left s at o s at o
left_all = record { output = refl; place = refl }

-- ---- the children of a node

pub child_in_span : (g h : List ℕ) (c a : ℕ) → get_or g c 0 ≡ 0 → child_box g h c a ≡ []
unfolding child_box
child_in_span g h c a e = rw (eq-eqb (get_or g c 0) 0 e)

pub child_outside : (g h : List ℕ) (c a : ℕ) → (get_or g c 0 ≡ 0 → ⊥) → child_box g h c a ≡ box_from g h a
unfolding child_box
child_outside g h c a e = rw (ne_eqb (get_or g c 0) 0 e)

pub room_outside : (g h : List ℕ) (c a : ℕ) {at : ℕ} {o : List ℕ} → (get_or g c 0 ≡ 0 → ⊥) → Room (bytes_of (child_box g h c a)) at o → Room (bytes_of (box_from g h a)) at o
room_outside g h c a e room = record { fits = omega (arith, room.fits, ap (λ (xs : List Box). length (bytes_of xs)) (child_outside g h c a e)) }

module _ {l : List ℕ} (tree : Nested l) (g h : List ℕ) (lo : ℕ) where
  -- It plays no part how many steps are left, if they are enough.
  steps_enough : (k m e : ℕ) → e ≤ k → e ≤ m → child_boxes l g h lo k e ≡ child_boxes l g h lo m e
  unfolding child_boxes
  steps_enough zero zero e u v = refl
  steps_enough zero (suc m) e u v = let z : e ≤ lo = omega arith in rw (le-leb e lo z)
  steps_enough (suc k) zero e u v = let z : e ≤ lo = omega arith in rw (le-leb e lo z)
  steps_enough (suc k) (suc m) e u v =
      elim (lt_or_le lo e) [
        | inl w ↦ rw (lt-leb e lo w)
            (ap (λ (xs : List Box). child_box g h (e - 1) (leaf l (e - 1)) ++ xs)
            (steps_enough k m (leaf l (e - 1)) (omega (arith, own tree (e - 1))) (omega (arith, own tree (e - 1)))))
        | inr w ↦ rw (le-leb e lo w)
      ]

  pub child_next : (e : ℕ) → lo < e → child_boxes l g h lo e e ≡ child_box g h (e - 1) (leaf l (e - 1)) ++ child_boxes l g h lo (leaf l (e - 1)) (leaf l (e - 1))
  unfolding child_boxes
  child_next zero u = absurd (omega arith)
  child_next (suc e) u =
      rw (lt-leb (suc e) lo u)
      (ap (λ (xs : List Box). child_box g h (suc e - 1) (leaf l (suc e - 1)) ++ xs)
      (steps_enough e (leaf l (suc e - 1)) (leaf l (suc e - 1)) (omega (arith, own tree (suc e - 1))) (omega arith)))

  pub child_end : (e : ℕ) → e ≤ lo → child_boxes l g h lo e e ≡ []
  unfolding child_boxes
  child_end zero u = refl
  child_end (suc e) u = rw (le-leb (suc e) lo u)

-- Writing the boxes under node x, with those of the children from e - 1 down left.
pub record ChildrenLeft (l g h : List ℕ) (x at₀ : ℕ) (o₀ : List ℕ) (e at : ℕ) (o : List ℕ) : Type 0 where
  pub low : e ≤ x
  pub left : Left (bytes_of (boxes_under l g h x)) at₀ o₀ (bytes_of (child_boxes l g h (leaf l x) e e)) at o

pub children_all : {l g h : List ℕ} {x at : ℕ} {o : List ℕ} → ChildrenLeft l g h x at o x at o
unfolding boxes_under
children_all = record { low = omega arith; left = left_all }

module _ {l g h : List ℕ} (tree : Nested l) {x at₀ : ℕ} {o₀ : List ℕ} (room : Room (bytes_of (boxes_under l g h x)) at₀ o₀) {e at : ℕ} {o : List ℕ} (p : ChildrenLeft l g h x at₀ o₀ e at o) {lo : ℕ} (is-lo : lo ≡ leaf l x) where
  -- The next child is e - 1, whose subtree starts at a.
  module _ (u : lo < e) {a : ℕ} (is-a : a ≡ leaf l (e - 1)) where
    pub child_start : a < e
    child_start = omega (arith, is-a, own tree (e - 1))

    split : bytes_of (child_boxes l g h (leaf l x) e e) ≡ bytes_of (child_box g h (e - 1) a) ++ bytes_of (child_boxes l g h (leaf l x) a a)
    split = let v : leaf l x < e = omega (arith, is-lo) in rw (is-a, child_next tree g h (leaf l x) e v) (bytes_append (child_box g h (e - 1) (leaf l (e - 1))) (child_boxes l g h (leaf l x) (leaf l (e - 1)) (leaf l (e - 1))))

    pub child_room : Room (bytes_of (child_box g h (e - 1) a)) at o
    child_room = room_first (left_room p.left room) _ split

    pub child_written : {after : List ℕ} {next : ℕ} → Puts (bytes_of (child_box g h (e - 1) a)) at o after next → ChildrenLeft l g h x at₀ o₀ a next after
    child_written put = record { low = omega (arith, p.low, child_start); left = left_less p.left room split put }

  pub children_written : e ≤ lo → Puts (bytes_of (boxes_under l g h x)) at₀ o₀ o at
  unfolding bytes_of
  children_written u = left_none p.left room (ap bytes_of (child_end tree g h (leaf l x) e (omega (arith, is-lo))))

-- ---- the nodes of a list

module _ (l nodes g h : List ℕ) (k : ℕ) where
  order_next : k < length nodes → bytes_of (boxes_in_order l (drop k nodes) g h) ≡ bytes_of (boxes_under l g h (get_or nodes k 0)) ++ bytes_of (boxes_in_order l (drop (k + 1) nodes) g h)
  unfolding boxes_in_order flat_map
  order_next u = rw (add-one, drop-cons nodes k 0) (bytes_append (boxes_under l g h (get_or nodes k 0)) (boxes_in_order l (drop (suc k) nodes) g h))

  order_end : length nodes ≤ k → bytes_of (boxes_in_order l (drop k nodes) g h) ≡ []
  unfolding boxes_in_order flat_map bytes_of
  order_end u = rw (drop_of_length-le nodes u)

-- Writing the boxes in order, with those of the nodes from place k on left.
pub record NodesLeft (l nodes g h o₀ : List ℕ) (k at : ℕ) (o : List ℕ) : Type 0 where
  pub rest : Left (bytes_of (boxes_in_order l nodes g h)) 0 o₀ (bytes_of (boxes_in_order l (drop k nodes) g h)) at o

pub nodes_all : (l nodes g h : List ℕ) {o : List ℕ} → NodesLeft l nodes g h o 0 0 o
nodes_all l nodes g h = record { rest = left_all }

module _ {l nodes g h o₀ : List ℕ} (room : Room (bytes_of (boxes_in_order l nodes g h)) 0 o₀) {k at : ℕ} {o : List ℕ} (p : NodesLeft l nodes g h o₀ k at o) where
  module _ (u : k < length nodes) where
    pub node_room : Room (bytes_of (boxes_under l g h (get_or nodes k 0))) at o
    node_room = room_first (left_room p.rest room) _ (order_next l nodes g h k u)

    pub node_written : {after : List ℕ} {next : ℕ} → Puts (bytes_of (boxes_under l g h (get_or nodes k 0))) at o after next → NodesLeft l nodes g h o₀ (k + 1) next after
    node_written put = record { rest = left_less p.rest room (order_next l nodes g h k u) put }

  pub nodes_written : length nodes ≤ k → o ≡ sets o₀ 0 (bytes_of (boxes_in_order l nodes g h))
  nodes_written u = puts_output room (left_none p.rest room (order_end l nodes g h k u))

-- ---- either order

module _ (l nodes g h : List ℕ) (order : Order) where
  pub by_rising : order ≡ RisingA → boxes_by order l nodes g h ≡ boxes_below g h (length g)
  unfolding boxes_by
  by_rising e = rw e

  pub by_paper : order ≡ Paper → boxes_by order l nodes g h ≡ boxes_in_order l nodes g h
  unfolding boxes_by
  by_paper e = rw e

-- There are as many in either order.
pub by_count : (l nodes g h : List ℕ) (order : Order) → AsMany l nodes g h → length (boxes_by order l nodes g h) ≡ length (boxes_below g h (length g))
unfolding boxes_by
by_count l nodes g h RisingA e = refl
by_count l nodes g h Paper e = e

-- What was written of boxes was written of the same boxes.
pub wrote_as : (xs ys : List Box) (o after : List ℕ) → ys ≡ xs → after ≡ sets o 0 (bytes_of xs) → after ≡ sets o 0 (bytes_of ys)
wrote_as xs ys o after e h = rw e h

-- Room for boxes is room for the same boxes.
pub room_as : {xs ys : List Box} {at : ℕ} {o : List ℕ} → xs ≡ ys → Room (bytes_of xs) at o → Room (bytes_of ys) at o
room_as {at = at} {o = o} e = subst (λ (zs : List Box). Room (bytes_of zs) at o) e

pub room_all : (xs : List Box) (o : List ℕ) (k : ℕ) → k ≡ length xs → k * 4 ≤ length o → Room (bytes_of xs) 0 o
room_all xs o k e h = record { fits = omega (arith, bytes_length xs) }
