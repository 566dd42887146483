-- The search in the tree finds the stretch of the nodes a to b exactly if there is one.
use mathlib.Core.Path.{◌≡◌, refl, sym, ap, subst, ◌∙◌}
use mathlib.Core.Bool.{Bool, true, false, cond}
use mathlib.Core.Logic.{⊎_elim, ◌↔◌}
use Prim.Native.Nat.{ℕ, zero, suc, ◌+◌, ◌-◌, ◌≤◌, ◌<◌}
use native.Mathlib.Omega.{arith}
use native.Mathlib.Nat.{eq-zero-or-pos}
use lib.ListN.{length}
use lib.Dec.{eqb, ltb, leb}
use borrow.Author.Tests.{eq-eqb, ne_eqb, lt-ltb, le-ltb, le-leb, lt-leb}
use Rattle.tree.specs.Run.{Run, spell, size, join}
use Rattle.tree.specs.Run.Run.{end, dot, pair}
use Rattle.stretch.specs.Stretch.{Siblings, Stretch, Found, past, with_dot, with_pair, leading, nodes_from, stretch_in}
use Rattle.stretch.specs.Stretch.Siblings.{here, behind_dot, into, behind_pair}
use Rattle.stretch.specs.Stretch.Found.{at, nowhere}
use Rattle.answer.proofs.Denied.{clash}
use Rattle.tree.proofs.Leaves.{lt_or_le}

-- A search takes the one or the other way, by its test.
yes : {t : Bool} (x y : Found) → t ≡ true → cond t x y ≡ x
yes x y e = ap (λ (t : Bool). cond t x y) e

no : {t : Bool} (x y : Found) → t ≡ false → cond t x y ≡ y
no x y e = ap (λ (t : Bool). cond t x y) e

-- What was found behind other bytes, or with one item more.
past_at : (m : ℕ) (x : Found) (k : ℕ) (y : Run) → past m x ≡ at k y → (j : ℕ) × (x ≡ at j y) × (k ≡ m + j)
past_at m (at j z) k y e = let p : z ≡ y = cc in let q : k ≡ m + j = cc in (j, ap (at j) p, q)
past_at m nowhere k y e = clash (cc)

dot_at : (c : ℕ) (x : Found) (k : ℕ) (y : Run) → with_dot c x ≡ at k y → (z : Run) × (x ≡ at k z) × (y ≡ dot c z)
dot_at c (at j z) k y e = let p : j ≡ k = cc in let q : y ≡ dot c z = cc in (z, ap (λ (i : ℕ). at i z) p, q)
dot_at c nowhere k y e = clash (cc)

pair_at : (o : ℕ) (i : Run) (c : ℕ) (x : Found) (k : ℕ) (y : Run) → with_pair o i c x ≡ at k y → (z : Run) × (x ≡ at k z) × (y ≡ pair o i c z)
pair_at o i c (at j z) k y e = let p : j ≡ k = cc in let q : y ≡ pair o i c z = cc in (z, ap (λ (n : ℕ). at n z) p, q)
pair_at o i c nowhere k y e = clash (cc)

-- The leading items of a run with n nodes.
record Leads (r : Run) (n k : ℕ) (y : Run) : Type 0 where
  rest : Run
  joined : r ≡ join y rest
  count : size y ≡ n
  first : k ≡ 0

leads_none : (r : Run) (n k : ℕ) (y : Run) → n ≡ 0 → at 0 end ≡ at k y → Leads r n k y
leads_none r n k y z e =
    let p : end ≡ y = cc in
    let q : 0 ≡ k = cc in
    record { rest = r; joined = ap (λ (x : Run). join x r) p; count = ap size (sym p) ∙ sym z; first = sym q }

leads_dot : (c : ℕ) (r : Run) (n k : ℕ) (y : Run) → 0 < n → (z : Run) → y ≡ dot c z → Leads r (n - 1) k z → Leads (dot c r) n k y
leads_dot c r n k y h z e w =
    record { rest = w.rest; joined = ap (dot c) w.joined ∙ ap (λ (x : Run). join x w.rest) (sym e); count = ap size e ∙ omega (arith, w.count); first = w.first }

leads_pair : (o : ℕ) (i : Run) (c : ℕ) (r : Run) (n k : ℕ) (y : Run) → size i < n → (z : Run) → y ≡ pair o i c z → Leads r (n - suc (size i)) k z → Leads (pair o i c r) n k y
leads_pair o i c r n k y h z e w =
    record { rest = w.rest; joined = ap (pair o i c) w.joined ∙ ap (λ (x : Run). join x w.rest) (sym e); count = ap size e ∙ omega (arith, w.count); first = w.first }

leads : (r : Run) (n k : ℕ) (y : Run) → leading r n ≡ at k y → Leads r n k y
leads end n k y e = ⊎_elim
    (λ z. leads_none end n k y z (sym (yes (at 0 end) nowhere (eq-eqb n 0 z)) ∙ e))
    (λ p. let f = sym (no (at 0 end) nowhere (ne_eqb n 0 (omega arith))) ∙ e in clash (cc))
    (eq-zero-or-pos n)
leads (dot c r) n k y e = ⊎_elim
    (λ z. leads_none (dot c r) n k y z (sym (yes (at 0 end) (with_dot c (leading r (n - 1))) (eq-eqb n 0 z)) ∙ e))
    (λ p.
    let w = dot_at c (leading r (n - 1)) k y (sym (no (at 0 end) (with_dot c (leading r (n - 1))) (ne_eqb n 0 (omega arith))) ∙ e) in
    leads_dot c r n k y p w.0 w.2 (leads r (n - 1) k w.0 w.1))
    (eq-zero-or-pos n)
leads (pair o i c r) n k y e =
    let X : Found = with_pair o i c (leading r (n - suc (size i))) in
    let Y : Found = cond (leb n (size i)) nowhere X in
    ⊎_elim
    (λ z. leads_none (pair o i c r) n k y z (sym (yes (at 0 end) Y (eq-eqb n 0 z)) ∙ e))
    (λ p.
    let f : Y ≡ at k y = sym (no (at 0 end) Y (ne_eqb n 0 (omega arith))) ∙ e in
    ⊎_elim
    (λ l.
    let w = pair_at o i c (leading r (n - suc (size i))) k y (sym (no nowhere X (lt-leb n (size i) l)) ∙ f) in
    leads_pair o i c r n k y l w.0 w.2 (leads r (n - suc (size i)) k w.0 w.1))
    (λ l. let g = sym (yes nowhere X (le-leb n (size i) l)) ∙ f in clash (cc))
    (lt_or_le (size i) n))
    (eq-zero-or-pos n)

leading_joined : (y z : Run) → leading (join y z) (size y) ≡ at 0 y
leading_joined end end = refl
leading_joined end (dot c z) = refl
leading_joined end (pair o i c z) = refl
leading_joined (dot c y) z =
    let e : suc (size y) - 1 ≡ size y = omega arith in
    no (at 0 end) (with_dot c (leading (join y z) (suc (size y) - 1))) (ne_eqb (suc (size y)) 0 (λ h. omega arith))
    ∙ ap (λ (n : ℕ). with_dot c (leading (join y z) n)) e
    ∙ ap (with_dot c) (leading_joined y z)
leading_joined (pair o i c y) z =
    let n : ℕ = size i + suc (size y) in
    let e : n - suc (size i) ≡ size y = omega arith in
    let X : Found = with_pair o i c (leading (join y z) (n - suc (size i))) in
    no (at 0 end) (cond (leb n (size i)) nowhere X) (ne_eqb n 0 (λ h. omega arith))
    ∙ no nowhere X (lt-leb n (size i) (omega arith))
    ∙ ap (λ (m : ℕ). with_pair o i c (leading (join y z) m)) e
    ∙ ap (with_pair o i c) (leading_joined y z)

-- The nodes inside a pair, from the run's beginning, or behind its first item.
module _ (o : ℕ) (i : Run) (c : ℕ) (r : Run) (a n : ℕ) where
  abbrev Inside : Found
  Inside = past 1 (nodes_from i a n)

  abbrev Behind : Found
  Behind = cond (ltb (size i) a) (past (length (spell i) + 2) (nodes_from r (a - suc (size i)) n)) nowhere

  abbrev Outside : Found
  Outside = cond (eqb a 0) (leading (pair o i c r) n) Behind

  from_inside : a + n ≤ size i → nodes_from (pair o i c r) a n ≡ Inside
  from_inside h = yes Inside Outside (le-leb (a + n) (size i) h)

  from_start : size i < a + n → a ≡ 0 → nodes_from (pair o i c r) a n ≡ leading (pair o i c r) n
  from_start h z = no Inside Outside (lt-leb (a + n) (size i) h) ∙ yes (leading (pair o i c r) n) Behind (eq-eqb a 0 z)

  from_behind : size i < a → nodes_from (pair o i c r) a n ≡ past (length (spell i) + 2) (nodes_from r (a - suc (size i)) n)
  from_behind h =
      no Inside Outside (lt-leb (a + n) (size i) (omega arith))
      ∙ no (leading (pair o i c r) n) Behind (ne_eqb a 0 (λ z. omega arith))
      ∙ yes (past (length (spell i) + 2) (nodes_from r (a - suc (size i)) n)) nowhere (lt-ltb (size i) a h)

  from_across : size i < a + n → 0 < a → a ≤ size i → nodes_from (pair o i c r) a n ≡ nowhere
  from_across h p l =
      no Inside Outside (lt-leb (a + n) (size i) h)
      ∙ no (leading (pair o i c r) n) Behind (ne_eqb a 0 (λ z. omega arith))
      ∙ no (past (length (spell i) + 2) (nodes_from r (a - suc (size i)) n)) nowhere (le-ltb (size i) a l)

-- What is found are neighbouring siblings.
abbrev Right : Run → ℕ → ℕ → ℕ → Run → Type 0
Right r a n k y = Siblings y r a k × (size y ≡ n)

right_start : (r : Run) (a n k : ℕ) (y : Run) → a ≡ 0 → leading r n ≡ at k y → Right r a n k y
right_start r a n k y z e =
    let w = leads r n k y e in
    (subst (λ (j : ℕ). Siblings y r j k) (sym z) (subst (Siblings y r 0) (sym w.first) (here w.rest w.joined)), w.count)

right : (r : Run) (a n k : ℕ) (y : Run) → nodes_from r a n ≡ at k y → Right r a n k y
right end a n k y e = clash (cc)
right (dot c r) zero n k y e = right_start (dot c r) 0 n k y refl e
right (dot c r) (suc a) n k y e =
    let w = past_at 1 (nodes_from r a n) k y e in
    let s = right r a n w.0 y w.1 in
    let f : suc w.0 ≡ k = omega (arith, w.2) in
    (subst (Siblings y (dot c r) (suc a)) f (behind_dot s.0), s.1)
right (pair o i c r) a n k y e = ⊎_elim
    (λ l. ⊎_elim
    (λ z. right_start (pair o i c r) a n k y z (sym (from_start o i c r a n l z) ∙ e))
    (λ p. ⊎_elim
    (λ b.
    let w = past_at (length (spell i) + 2) (nodes_from r (a - suc (size i)) n) k y (sym (from_behind o i c r a n b) ∙ e) in
    let s = right r (a - suc (size i)) n w.0 y w.1 in
    let f : suc (length (spell i) + suc w.0) ≡ k = omega (arith, w.2) in
    let g : size i + suc (a - suc (size i)) ≡ a = omega arith in
    (subst (λ (j : ℕ). Siblings y (pair o i c r) j k) g (subst (Siblings y (pair o i c r) (size i + suc (a - suc (size i)))) f (behind_pair s.0)), s.1))
    (λ b. let f = sym (from_across o i c r a n l p b) ∙ e in clash (cc))
    (lt_or_le (size i) a))
    (eq-zero-or-pos a))
    (λ l.
    let w = past_at 1 (nodes_from i a n) k y (sym (from_inside o i c r a n l) ∙ e) in
    let s = right i a n w.0 y w.1 in
    let f : suc w.0 ≡ k = omega (arith, w.2) in
    (subst (Siblings y (pair o i c r) a) f (into s.0), s.1))
    (lt_or_le (size i) (a + n))

-- Neighbouring siblings are found.
size_join : (y z : Run) → size (join y z) ≡ size y + size z
size_join end z = omega arith
size_join (dot c y) z = omega (arith, size_join y z)
size_join (pair o i c y) z = omega (arith, size_join y z)

pub inside : {y r : Run} {a k : ℕ} → Siblings y r a k → a + size y ≤ size r
inside {y = y} (here z e) = omega (arith, ap size e, size_join y z)
inside (behind_dot w) = omega (arith, inside w)
inside (into w) = omega (arith, inside w)
inside (behind_pair w) = omega (arith, inside w)

found_start : (y r z : Run) → 0 < size y → r ≡ join y z → nodes_from r 0 (size y) ≡ at 0 y
found_start end r z h e = absurd (omega arith)
found_start (dot c y) r z h e = ap (λ (x : Run). nodes_from x 0 (suc (size y))) e ∙ leading_joined (dot c y) z
found_start (pair o i c y) r z h e =
    ap (λ (x : Run). nodes_from x 0 (size (pair o i c y))) e
    ∙ from_start o i c (join y z) 0 (size (pair o i c y)) (omega arith) refl
    ∙ leading_joined (pair o i c y) z

found : {y r : Run} {a k : ℕ} → 0 < size y → Siblings y r a k → nodes_from r a (size y) ≡ at k y
found {y = y} {r = r} h (here z e) = found_start y r z h e
found {y = y} h (behind_dot {k = k} w) = let e : 1 + k ≡ suc k = omega arith in ap (past 1) (found h w) ∙ ap (λ (j : ℕ). at j y) e
found {y = y} h (into {o = o} {i = i} {c = c} {r = r} {a = a} {k = k} w) =
    let e : 1 + k ≡ suc k = omega arith in
    from_inside o i c r a (size y) (inside w) ∙ ap (past 1) (found h w) ∙ ap (λ (j : ℕ). at j y) e
found {y = y} h (behind_pair {o = o} {i = i} {c = c} {r = r} {a = a} {k = k} w) =
    let e : length (spell i) + 2 + k ≡ suc (length (spell i) + suc k) = omega arith in
    let f : size i + suc a - suc (size i) ≡ a = omega arith in
    from_behind o i c r (size i + suc a) (size y) (omega arith)
    ∙ ap (λ (j : ℕ). past (length (spell i) + 2) (nodes_from r j (size y))) f
    ∙ ap (past (length (spell i) + 2)) (found h w)
    ∙ ap (λ (j : ℕ). at j y) e

-- The nodes a to b are found, with the bytes before them and their items, exactly if they are a stretch of just these.
pub stretches : (r : Run) (a b k : ℕ) (y : Run) → (stretch_in r a b ≡ at k y) ↔ Stretch r a b k y
unfolding stretch_in
stretches r a b k y = (
  λ e. ⊎_elim
      (λ l. let f = sym (no (nodes_from r a (b - a + 1)) nowhere (lt-leb a b l)) ∙ e in clash (cc))
      (λ l. let w = right r a (b - a + 1) k y (sym (yes (nodes_from r a (b - a + 1)) nowhere (le-leb a b l)) ∙ e) in record { order = l; siblings = w.0; count = w.1 })
      (lt_or_le b a),
  λ w.
      yes (nodes_from r a (b - a + 1)) nowhere (le-leb a b w.order)
      ∙ ap (nodes_from r a) (sym w.count)
      ∙ found (omega (arith, w.count)) w.siblings,
)

-- They are found nowhere exactly if they are no stretch.
pub no_stretch : (r : Run) (a b : ℕ) → (stretch_in r a b ≡ nowhere) ↔ ((k : ℕ) (y : Run) → Stretch r a b k y → ⊥)
no_stretch r a b =
    ((λ e k y w. let f = (stretches r a b k y).1 w in clash (cc)), go (stretch_in r a b) refl)
  where
    go : (x : Found) → stretch_in r a b ≡ x → ((k : ℕ) (y : Run) → Stretch r a b k y → ⊥) → stretch_in r a b ≡ nowhere
    go (at k y) e h = absurd (h k y ((stretches r a b k y).0 e))
    go nowhere e h = e
