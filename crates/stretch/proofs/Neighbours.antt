-- A part of a run's text that spells a run is the text of neighbouring siblings, and the other way round.
use mathlib.Core.Path.{◌≡◌, refl, sym, ap, ap₂, subst, subst₂, ◌∙◌}
use mathlib.Core.Logic.{◌⊎◌, inl, inr, ⊎_elim}
use Prim.Native.Nat.{ℕ, suc, ◌+◌, ◌<◌}
use native.Mathlib.Omega.{arith}
use mathlib.Core.List.{List, [], ◌∷◌, ◌++◌, append_assoc, append-nil, head-eq_of_cons-eq, tail-eq_of_cons-eq}
use lib.ListN.{length, length-append}
use Rattle.tree.specs.Run.{Run, spell, size, join}
use Rattle.tree.specs.Run.Run.{end, dot, pair}
use Rattle.character.specs.Character.{role_of}
use Rattle.tree.specs.Reading.{Meant, Runs, runs}
use Rattle.tree.specs.Reading.Runs.{last, more}
use Rattle.stretch.specs.inner.Scan.{ends_of}
use Rattle.stretch.specs.Stretch.{Siblings}
use Rattle.stretch.specs.Stretch.Siblings.{here, behind_dot, into, behind_pair}
use Rattle.character.specs.declared.Role.TheVariants.{Closing}
use Rattle.answer.proofs.Denied.{clash}
use Rattle.tree.proofs.Splits.{size_spell}
use Rattle.tree.proofs.Spelling.{read_back, read_spell, before}
use Rattle.tree.proofs.Partners.{placed, placed_closes, placed_closed, not_closed}
use Rattle.stretch.proofs.Scans.{ends, weight_append, ends_spell}

spell_join : (y z : Run) → spell (join y z) ≡ spell y ++ spell z
spell_join end z = refl
spell_join (dot c y) z = ap (λ (l : List ℕ). c ∷ l) (spell_join y z)
spell_join (pair o i c y) z = ap (λ (l : List ℕ). o ∷ (spell i ++ c ∷ l)) (spell_join y z) ∙ ap (λ (l : List ℕ). o ∷ l) (sym (append_assoc (spell i) (c ∷ spell y) (spell z)))

-- From the tree to the text.
pub record Stands (s : List ℕ) (y : Run) (a k : ℕ) : Type 0 where
  pub front : List ℕ
  pub back : List ℕ
  pub split : s ≡ front ++ (spell y ++ back)
  pub start : ends front ≡ a
  pub place : length front ≡ k

pub stands : {y r : Run} {a k : ℕ} → Meant r → Siblings y r a k → Stands (spell r) y a k
stands {y = y} m (here z e) = record { front = []; back = spell z; split = ap spell e ∙ spell_join y z; start = refl; place = refl }
stands m (behind_dot {c = c} w) =
    let v = stands m.1 w in
    record { front = c ∷ v.front; back = v.back; split = ap (λ (l : List ℕ). c ∷ l) v.split; start = omega (arith, ap ends_of m.0, v.start); place = ap suc v.place }
stands {y = y} m (into {o = o} {c = c} {r = r} w) =
    let v = stands m.1 w in
    record {
      front = o ∷ v.front;
      back = v.back ++ c ∷ spell r;
      split = ap (λ (l : List ℕ). o ∷ (l ++ c ∷ spell r)) v.split ∙ ap (λ (l : List ℕ). o ∷ l) (append_assoc v.front (spell y ++ v.back) (c ∷ spell r) ∙ ap (λ (l : List ℕ). v.front ++ l) (append_assoc (spell y) v.back (c ∷ spell r)));
      start = omega (arith, ap ends_of m.0, v.start);
      place = ap suc v.place;
    }
stands {y = y} m (behind_pair {o = o} {i = i} {c = c} {r = r} {a = a} {k = k} w) =
    let v = stands m.3 w in
    record {
      front = o ∷ (spell i ++ c ∷ v.front);
      back = v.back;
      split = ap (λ (l : List ℕ). o ∷ (spell i ++ c ∷ l)) v.split ∙ ap (λ (l : List ℕ). o ∷ l) (sym (append_assoc (spell i) (c ∷ v.front) (spell y ++ v.back)));
      start = omega (arith, ap ends_of m.0, ap ends_of m.2, weight_append ends_of (spell i) (c ∷ v.front), ends_spell i m.1, v.start);
      place = omega (arith, length-append (spell i) (c ∷ v.front), v.place);
    }

-- From the text to the tree.
split : (a b p q : List ℕ) → a ++ b ≡ p ++ q → ((t : List ℕ) × (p ≡ a ++ t) × (b ≡ t ++ q)) ⊎ ((t : List ℕ) × (a ≡ p ++ t) × (q ≡ t ++ b))
split [] b p q e = inl (p, refl, e)
split (x ∷ a) b [] q e = inr (x ∷ a, refl, sym e)
split (x ∷ a) b (y ∷ p) q e = ⊎_elim
    (λ w. inl (w.0, ap₂ (λ (z : ℕ) (l : List ℕ). z ∷ l) (sym (head-eq_of_cons-eq e)) w.1, w.2))
    (λ w. inr (w.0, ap₂ (λ (z : ℕ) (l : List ℕ). z ∷ l) (head-eq_of_cons-eq e) w.1, w.2))
    (split a b p q (tail-eq_of_cons-eq e))

-- The text of a run begins with that of another: the rest is the text of a run too.
before_last : (y : Run) (x : Runs) (r : Run) → before y x ≡ last r → (z : Run) × (r ≡ join y z)
before_last y (last z) r e = (z, (let k : join y z ≡ r = cc in sym k))
before_last y (more z c rs) r e = clash (cc)

starts : (y r : Run) (q : List ℕ) → Meant y → Meant r → spell r ≡ spell y ++ q → (z : Run) × (r ≡ join y z)
starts y r q my mr e = before_last y (runs q) r (sym (read_back y my q) ∙ ap runs (sym e) ∙ read_spell r mr)

-- The text of a run that is not empty does not begin with a closing byte.
no_closing : (y : Run) → Meant y → 0 < size y → (c : ℕ) (s q : List ℕ) → role_of c ≡ Closing → c ∷ s ≡ spell y ++ q → ⊥
no_closing end m h c s q mc e = omega arith
no_closing (dot d y) m h c s q mc e = let k = ap role_of (head-eq_of_cons-eq e) in let f = m.0 in clash (cc)
no_closing (pair o i d y) m h c s q mc e = let k = ap role_of (head-eq_of_cons-eq e) in let f = m.0 in clash (cc)

abbrev Found : Run → Run → Type 0
Found y r = (p q : List ℕ) → spell r ≡ p ++ (spell y ++ q) → Siblings y r (ends p) (length p)

-- In the text of a pair, a run's text lies inside the pair or after it.
module _ (y : Run) (my : Meant y) (h : 0 < size y) (o : ℕ) (i : Run) (c : ℕ) (r : Run) (m : Meant (pair o i c r)) where
  after_pair : Found y r → (t q : List ℕ) → c ∷ spell r ≡ t ++ (spell y ++ q) → (x : ℕ) → x ≡ o → Siblings y (pair o i c r) (ends (x ∷ (spell i ++ t))) (length (x ∷ (spell i ++ t)))
  after_pair rec [] q e x ex = absurd (no_closing y my h c (spell r) q m.2 e)
  after_pair rec (d ∷ t) q e x ex =
      let w = rec t q (tail-eq_of_cons-eq e) in
      let ed : role_of d ≡ Closing = ap role_of (sym (head-eq_of_cons-eq e)) ∙ m.2 in
      let a : size i + suc (ends t) ≡ ends (x ∷ (spell i ++ d ∷ t)) =
      omega (arith, ap ends_of (ap role_of ex ∙ m.0), ap ends_of ed, weight_append ends_of (spell i) (d ∷ t), ends_spell i m.1) in
      let n : suc (length (spell i) + suc (length t)) ≡ length (x ∷ (spell i ++ d ∷ t)) = omega (arith, length-append (spell i) (d ∷ t)) in
      subst₂ (Siblings y (pair o i c r)) a n (behind_pair w)

  -- It cannot lie across the pair's closing byte.
  across : (p t u q : List ℕ) → spell i ≡ p ++ t → spell y ≡ t ++ u → 0 < length u → c ∷ spell r ≡ u ++ q → ⊥
  across p t [] q e f l g = omega arith
  across p t (d ∷ u) q e f l g =
      let w = placed_closes t d u (placed y my t d u f) (ap role_of (sym (head-eq_of_cons-eq g)) ∙ m.2) in
      let v = placed_closed (p ++ w.ahead) w.byte (spell w.run) (placed i m.1 (p ++ w.ahead) w.byte (spell w.run) (e ∙ ap (λ (k : List ℕ). p ++ k) w.split ∙ sym (append_assoc p w.ahead (w.byte ∷ spell w.run)))) w.opens in
      not_closed (spell w.run) w.run (read_spell w.run w.meant) v

  inside_pair : Found y i → (p q : List ℕ) → spell i ≡ p ++ (spell y ++ q) → (x : ℕ) → x ≡ o → Siblings y (pair o i c r) (ends (x ∷ p)) (length (x ∷ p))
  inside_pair rec p q e x ex =
      let a : ends p ≡ ends (x ∷ p) = omega (arith, ap ends_of (ap role_of ex ∙ m.0)) in
      subst (λ (k : ℕ). Siblings y (pair o i c r) k (suc (length p))) a (into (rec p q e))

  -- The run's text ends before the pair's closing byte, or at it.
  at_most : Found y i → (p t u q : List ℕ) → spell i ≡ p ++ t → spell y ≡ t ++ u → c ∷ spell r ≡ u ++ q → (x : ℕ) → x ≡ o → Siblings y (pair o i c r) (ends (x ∷ p)) (length (x ∷ p))
  at_most rec p t [] q e f g x ex = inside_pair rec p [] (e ∙ ap (λ (k : List ℕ). p ++ k) (sym (append-nil (spell y) ∙ f ∙ append-nil t))) x ex
  at_most rec p t (d ∷ u) q e f g x ex = absurd (across p t (d ∷ u) q e f (omega arith) g)

  in_pair : Found y i → Found y r → (p q : List ℕ) → spell i ++ c ∷ spell r ≡ p ++ (spell y ++ q) → (x : ℕ) → x ≡ o → Siblings y (pair o i c r) (ends (x ∷ p)) (length (x ∷ p))
  in_pair ri rr p q e x ex = ⊎_elim
      (λ w. subst (λ (l : List ℕ). Siblings y (pair o i c r) (ends (x ∷ l)) (length (x ∷ l))) (sym w.1) (after_pair rr w.0 q w.2 x ex))
      (λ w. ⊎_elim
      (λ v. inside_pair ri p v.0 (w.1 ∙ ap (λ (l : List ℕ). p ++ l) v.1) x ex)
      (λ v. at_most ri p w.0 v.0 q w.1 v.1 v.2 x ex)
      (split (spell y) q w.0 (c ∷ spell r) w.2))
      (split (spell i) (c ∷ spell r) p (spell y ++ q) e)

-- Every part of a run's text that spells a run is the text of neighbouring siblings.
pub neighbours : (y : Run) → Meant y → 0 < size y → (r : Run) → Meant r → Found y r
neighbours y my h end m p q e = absurd (omega (arith, ap length e, length-append p (spell y ++ q), length-append (spell y) q, size_spell y))
neighbours y my h (dot d r) m [] q e = let w = starts y (dot d r) q my m e in here w.0 w.1
neighbours y my h (dot d r) m (x ∷ p) q e =
    let w = neighbours y my h r m.1 p q (tail-eq_of_cons-eq e) in
    let a : suc (ends p) ≡ ends (x ∷ p) = omega (arith, ap ends_of (ap role_of (sym (head-eq_of_cons-eq e)) ∙ m.0)) in
    subst (λ (k : ℕ). Siblings y (dot d r) k (suc (length p))) a (behind_dot w)
neighbours y my h (pair o i c r) m [] q e = let w = starts y (pair o i c r) q my m e in here w.0 w.1
neighbours y my h (pair o i c r) m (x ∷ p) q e =
    in_pair y my h o i c r m (neighbours y my h i m.1) (neighbours y my h r m.3) p q (tail-eq_of_cons-eq e) x (sym (head-eq_of_cons-eq e))
