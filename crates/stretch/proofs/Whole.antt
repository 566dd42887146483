-- By the leftmost leaves alone: the nodes a to b are a stretch exactly if no node of them starts before them and no node after them starts
-- within them.
use mathlib.Core.Path.{◌≡◌, refl, sym, ap, subst, ◌∙◌}
use mathlib.Core.Logic.{◌↔◌, ⊎_elim}
use Prim.Native.Nat.{ℕ, zero, suc, ◌+◌, ◌-◌, ◌≤◌, ◌<◌}
use native.Mathlib.Omega.{arith}
use native.Mathlib.Nat.{eq-zero-or-pos}
use lib.ListN.{length}
use Rattle.tree.specs.Run.{Run, spell, size, lefts, join}
use Rattle.tree.specs.Run.Run.{end, dot, pair}
use Rattle.tree.specs.Nested.{leaf}
use Rattle.tree.specs.Node.{Item, item_number}
use Rattle.tree.specs.Node.Item.{the_dot, the_pair, inside, past_dot, past_pair}
use Rattle.stretch.specs.Stretch.{Siblings, Stretch}
use Rattle.stretch.specs.Stretch.Siblings.{here, into, behind_dot as after_dot, behind_pair as after_pair}
use Rattle.tree.proofs.Leaves.{lt_or_le, root_left}
use Rattle.stretch.proofs.Stretches.{inside as within}
use Rattle.tree.proofs.Nodes.{left, item_at, item_below, leaf_item}

-- What the leftmost leaves say of the nodes a to b, none of them the added root.
pub record Whole (r : Run) (a b : ℕ) : Type 0 where
  pub order : a ≤ b
  pub ends : b < size r
  pub starts : (y : ℕ) → a ≤ y → y ≤ b → a ≤ leaf (lefts r) y
  pub covers : (y : ℕ) → b < y → y ≤ size r → leaf (lefts r) y ≤ b → leaf (lefts r) y ≤ a

-- The same of the items of a run, for the n nodes from a on.
record Closed (r : Run) (a n : ℕ) : Type 0 where
  starts : (x : Item r) → a ≤ item_number x → item_number x < a + n → a ≤ left x
  covers : (x : Item r) → a + n ≤ item_number x → left x < a + n → left x ≤ a

-- The items that a run begins with and that have n nodes, where no later item starts among these.
abbrev Leading : Run → ℕ → Type 0
Leading r n = (y : Run) × (z : Run) × (r ≡ join y z) × (size y ≡ n)

none : (r : Run) (n : ℕ) → n ≡ 0 → Leading r n
none r n e = (end, r, refl, sym e)

leading : (r : Run) (n : ℕ) → n ≤ size r → ((x : Item r) → n ≤ item_number x → n ≤ left x) → Leading r n
leading end n h f = none end n (omega arith)
leading (dot c r) n h f = ⊎_elim
    (none (dot c r) n)
    (λ p.
    let w = leading r (n - 1) (omega arith) (λ x l. omega (arith, f (past_dot x) (omega arith))) in
    (dot c w.0, w.1, ap (dot c) w.2, omega (arith, w.3)))
    (eq-zero-or-pos n)
leading (pair o i c r) n h f = ⊎_elim
    (none (pair o i c r) n)
    (λ p. ⊎_elim
    (λ l.
    let w = leading r (n - suc (size i)) (omega arith) (λ x m. omega (arith, f (past_pair x) (omega arith))) in
    (pair o i c w.0, w.1, ap (pair o i c) w.2, omega (arith, w.3)))
    (λ l. absurd (omega (arith, f the_pair l)))
    (lt_or_le (size i) n))
    (eq-zero-or-pos n)

-- Neighbouring siblings with n nodes from a on.
abbrev Some : Run → ℕ → ℕ → Type 0
Some r a n = (k : ℕ) × (y : Run) × Siblings y r a k × (size y ≡ n)

some_start : (r : Run) (n : ℕ) → Leading r n → Some r 0 n
some_start r n w = (0, w.0, here w.1 w.2, w.3)

some_dot : (c : ℕ) (r : Run) (a n : ℕ) → Some r a n → Some (dot c r) (suc a) n
some_dot c r a n w = (suc w.0, w.1, after_dot w.2, w.3)

some_into : (o : ℕ) (i : Run) (c : ℕ) (r : Run) (a n : ℕ) → Some i a n → Some (pair o i c r) a n
some_into o i c r a n w = (suc w.0, w.1, into w.2, w.3)

some_pair : (o : ℕ) (i : Run) (c : ℕ) (r : Run) (a n : ℕ) → Some r a n → Some (pair o i c r) (size i + suc a) n
some_pair o i c r a n w = (suc (length (spell i) + suc w.0), w.1, after_pair w.2, w.3)

-- An item past the first that does not start at the run's beginning starts behind the n nodes, if it does not start among them.
apart : (m n : ℕ) → 0 < m → (m < n → m ≤ 0) → n ≤ m
apart m n h f = ⊎_elim (λ g. absurd (omega (arith, f g))) (λ g. g) (lt_or_le m n)

closed_some : (r : Run) (a n : ℕ) → 0 < n → a + n ≤ size r → Closed r a n → Some r a n
closed_some end a n p h f = absurd (omega arith)
closed_some (dot c r) zero n p h f = some_start (dot c r) n (leading (dot c r) n (omega arith) after)
  where
    after : (x : Item (dot c r)) → n ≤ item_number x → n ≤ left x
    after the_dot l = absurd (omega arith)
    after (past_dot x) l = apart (suc (left x)) n (omega arith) (λ g. f.covers (past_dot x) (omega arith) (omega arith))
closed_some (dot c r) (suc a) n p h f =
    some_dot c r a n
    (closed_some r a n p (omega arith)
    (record {
      starts = λ x u v. omega (arith, f.starts (past_dot x) (omega arith) (omega arith));
      covers = λ x u v. omega (arith, f.covers (past_dot x) (omega arith) (omega arith));
    }))
closed_some (pair o i c r) a n p h f = ⊎_elim
    (λ l. ⊎_elim
    (λ m.
    let e : size i + suc (a - suc (size i)) ≡ a = omega arith in
    subst (λ (j : ℕ). Some (pair o i c r) j n) e
    (some_pair o i c r (a - suc (size i)) n
    (closed_some r (a - suc (size i)) n p (omega arith)
    (record {
      starts = λ x u v. omega (arith, f.starts (past_pair x) (omega arith) (omega arith));
      covers = λ x u v. omega (arith, f.covers (past_pair x) (omega arith) (omega arith));
    }))))
    (λ m.
    let e : 0 ≡ a = omega (arith, f.starts the_pair m l) in
    subst (λ (j : ℕ). Some (pair o i c r) j n) e (some_start (pair o i c r) n (leading (pair o i c r) n (omega arith) (after e l))))
    (lt_or_le (size i) a))
    (λ l. some_into o i c r a n (closed_some i a n p l (record { starts = λ x u v. f.starts (inside x) u v; covers = λ x u v. f.covers (inside x) u v })))
    (lt_or_le (size i) (a + n))
  where
    after : 0 ≡ a → size i < a + n → (x : Item (pair o i c r)) → n ≤ item_number x → n ≤ left x
    after e l the_pair u = absurd (omega arith)
    after e l (inside x) u = absurd (omega (arith, item_below x))
    after e l (past_pair x) u = apart (size i + suc (left x)) n (omega arith) (λ g. omega (arith, f.covers (past_pair x) (omega arith) (omega arith)))

-- What comes behind the items of y starts behind them.
behind : (y z : Run) (x : Item (join y z)) → size y ≤ item_number x → size y ≤ left x
behind end z x h = omega arith
behind (dot c y) z the_dot h = absurd (omega arith)
behind (dot c y) z (past_dot x) h = omega (arith, behind y z x (omega arith))
behind (pair o i c y) z the_pair h = absurd (omega arith)
behind (pair o i c y) z (inside x) h = absurd (omega (arith, item_below x))
behind (pair o i c y) z (past_pair x) h = omega (arith, behind y z x (omega arith))

some_starts : {y r : Run} {a k : ℕ} → Siblings y r a k → (x : Item r) → a ≤ item_number x → item_number x < a + size y → a ≤ left x
some_starts (here z e) x l h = omega arith
some_starts (after_dot w) the_dot l h = absurd (omega arith)
some_starts (after_dot w) (past_dot x) l h = omega (arith, some_starts w x (omega arith) (omega arith))
some_starts (into w) the_pair l h = absurd (omega (arith, within w))
some_starts (into w) (inside x) l h = some_starts w x l h
some_starts (into w) (past_pair x) l h = absurd (omega (arith, within w))
some_starts (after_pair w) the_pair l h = absurd (omega arith)
some_starts (after_pair w) (inside x) l h = absurd (omega (arith, item_below x))
some_starts (after_pair w) (past_pair x) l h = omega (arith, some_starts w x (omega arith) (omega arith))

some_covers : {y r : Run} {a k : ℕ} → Siblings y r a k → (x : Item r) → a + size y ≤ item_number x → left x < a + size y → left x ≤ a
some_covers {y} {r} (here z e) x l h = absurd (omega (arith, far))
  where
    far : size y ≤ left x
    far = subst (λ (r : Run). (x : Item r) → size y ≤ item_number x → size y ≤ left x) (sym e) (behind y z) x (omega arith)
some_covers (after_dot w) the_dot l h = absurd (omega arith)
some_covers (after_dot w) (past_dot x) l h = omega (arith, some_covers w x (omega arith) (omega arith))
some_covers (into w) the_pair l h = omega arith
some_covers (into w) (inside x) l h = some_covers w x l h
some_covers (into w) (past_pair x) l h = absurd (omega (arith, within w))
some_covers (after_pair w) the_pair l h = absurd (omega arith)
some_covers (after_pair w) (inside x) l h = absurd (omega (arith, item_below x))
some_covers (after_pair w) (past_pair x) l h = omega (arith, some_covers w x (omega arith) (omega arith))

-- The item of a number, with its leftmost leaf.
item_leaf : (r : Run) (y : ℕ) → y < size r → (x : Item r) × (item_number x ≡ y) × (leaf (lefts r) y ≡ left x)
item_leaf r y h = let x = item_at r y h in (x.0, x.1, ap (leaf (lefts r)) (sym x.1) ∙ leaf_item x.0)

pub whole : (r : Run) (a b : ℕ) → Whole r a b ↔ ((k : ℕ) × (y : Run) × Stretch r a b k y)
whole r a b = (to, from)
  where
    to : Whole r a b → (k : ℕ) × (y : Run) × Stretch r a b k y
    to w =
        let n : a + (b - a + 1) ≡ suc b = omega (arith, w.order) in
        let s = closed_some r a (b - a + 1) (omega arith) (omega (arith, w.ends))
        (record {
          starts = λ x l h. omega (arith, leaf_item x, w.starts (item_number x) l (omega arith));
          covers = λ x l h. omega (arith, leaf_item x, w.covers (item_number x) (omega arith) (omega (arith, item_below x)) (omega (arith, leaf_item x)));
        }) in
        (s.0, s.1, record { order = w.order; siblings = s.2; count = s.3 })

    from : ((k : ℕ) × (y : Run) × Stretch r a b k y) → Whole r a b
    from s =
        let w = s.2 in
        let n : a + size s.1 ≡ suc b = omega (arith, w.order, w.count) in
        let m = within w.siblings in
        record {
          order = w.order;
          ends = omega arith;
          starts = λ y l h. let x = item_leaf r y (omega arith) in omega (arith, x.2, some_starts w.siblings x.0 (omega (arith, x.1)) (omega (arith, x.1)));
          covers = λ y l h g. ⊎_elim
              (λ u. let x = item_leaf r y u in omega (arith, x.2, some_covers w.siblings x.0 (omega (arith, x.1)) (omega (arith, x.2))))
              (λ u. let e : y ≡ size r = omega arith in omega (arith, ap (leaf (lefts r)) e, root_left r))
              (lt_or_le y (size r));
        }
