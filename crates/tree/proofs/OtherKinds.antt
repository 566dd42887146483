-- Ground 24: the first closing bracket of a run's text whose partner is of another kind.
use mathlib.Core.Path.{◌≡◌, refl, sym, ap, subst, ◌∙◌}
use mathlib.Core.Bool.{Bool, true, false, cond}
use mathlib.Core.Logic.{◌⊎◌, inl, inr, ⊎_elim}
use Prim.Native.Nat.{ℕ, suc, ◌+◌, ◌≤◌, ◌<◌}
use native.Mathlib.Omega.{arith}
use mathlib.Core.List.{List, [], ◌∷◌, ◌++◌, append_assoc, append-nil, nil≢cons, head-eq_of_cons-eq, tail-eq_of_cons-eq}
use lib.ListN.{length, length-append}
use lib.Dec.{eqb}
use borrow.Author.Tests.{eqb-true, eqb-false}
use Rattle.answer.specs.Grounds.{First, Never}
use Rattle.answer.proofs.Denied.{clash}
use Rattle.character.specs.Character.{role_of, kind_of}
use Rattle.character.specs.declared.Role.{Role}
use Rattle.character.specs.declared.Role.TheVariants.{Unpaired, Opening, Closing}
use Rattle.tree.specs.Run.{Run, spell}
use Rattle.tree.specs.Run.Run.{end, dot, pair}
use Rattle.tree.specs.Reading.{Meant, OneKind, pass_kind, first_other_kind}
use Rattle.tree.specs.Grounds.{Closes, ClosesOtherKindAt}
use Rattle.tree.proofs.Spelling.{read_spell}
use Rattle.tree.proofs.Partners.{cut, closes_more, placed, placed_closed, not_closed}

-- The pair of a run whose closing bracket stands at k is of two kinds.
data Unlike : Run → ℕ → Type 0 where
  own : {o : ℕ} {i : Run} {c : ℕ} {r : Run} → (kind_of o ≡ kind_of c → ⊥) → Unlike (pair o i c r) (suc (length (spell i)))
  inside : {o : ℕ} {i : Run} {c : ℕ} {r : Run} {k : ℕ} → Unlike i k → Unlike (pair o i c r) (suc k)
  past_pair : {o : ℕ} {i : Run} {c : ℕ} {r : Run} {k : ℕ} → Unlike r k → Unlike (pair o i c r) (suc (length (spell i) + suc k))
  past_dot : {c : ℕ} {r : Run} {k : ℕ} → Unlike r k → Unlike (dot c r) (suc k)

unlike_inside : {r : Run} {k : ℕ} → Unlike r k → k < length (spell r)
unlike_inside (own {i = i} {c = c} {r = r} h) = omega (arith, length-append (spell i) (c ∷ spell r))
unlike_inside (inside {i = i} {c = c} {r = r} w) = omega (arith, unlike_inside w, length-append (spell i) (c ∷ spell r))
unlike_inside (past_pair {i = i} {c = c} {r = r} w) = omega (arith, unlike_inside w, length-append (spell i) (c ∷ spell r))
unlike_inside (past_dot w) = omega (arith, unlike_inside w)

unlike_none : {r : Run} {k : ℕ} → OneKind r → Unlike r k → ⊥
unlike_none one (own h) = h one.0
unlike_none one (inside w) = unlike_none one.1 w
unlike_none one (past_pair w) = unlike_none one.2 w
unlike_none one (past_dot w) = unlike_none one w

-- A closing bracket has one partner: no run's text has an opening byte that is not closed in it.
no_open_inside : (r q : Run) → Meant r → Meant q → (t : List ℕ) (x : ℕ) → role_of x ≡ Opening → spell r ≡ t ++ x ∷ spell q → ⊥
no_open_inside r q mr mq t x opens e = not_closed (spell q) q (read_spell q mq) (placed_closed t x (spell q) (placed r mr t x (spell q) e) opens)

pub one_partner : (p : List ℕ) (v w : Closes p) → (v.ahead ≡ w.ahead) × (v.byte ≡ w.byte)
one_partner p v w = ⊎_elim
    (λ u. absurd (no_open_inside w.run v.run w.meant v.meant u.0 v.byte v.opens u.2))
    (λ u. go u.0 u.1 u.2)
    (cut v.ahead (v.byte ∷ spell v.run) w.ahead w.byte (spell w.run) (sym v.split ∙ w.split))
  where
    go : (t : List ℕ) → w.ahead ≡ v.ahead ++ t → v.byte ∷ spell v.run ≡ t ++ w.byte ∷ spell w.run → (v.ahead ≡ w.ahead) × (v.byte ≡ w.byte)
    go [] f e = (sym (f ∙ append-nil v.ahead), head-eq_of_cons-eq e)
    go (x ∷ t) f e = absurd (no_open_inside v.run w.run v.meant w.meant t w.byte w.opens (tail-eq_of_cons-eq e))

-- One place on.
one_on : (P : ℕ → Type 0) {k : ℕ} → P (suc k) → P (1 + k)
one_on P {k} h = let e : suc k ≡ 1 + k = omega arith in subst P e h

one_back : (P : ℕ → Type 0) {k : ℕ} → P (1 + k) → P (suc k)
one_back P {k} h = let e : 1 + k ≡ suc k = omega arith in subst P e h

-- What is said of a text holds of it with bytes before and behind it.
around : (a b : List ℕ) {s : List ℕ} {k : ℕ} → ClosesOtherKindAt s k → ClosesOtherKindAt (a ++ (s ++ b)) (length a + k)
around a b w =
    record {
      front = a ++ w.front;
      byte = w.byte;
      back = w.back ++ b;
      split = ap (λ (l : List ℕ). a ++ (l ++ b)) w.split ∙ ap (λ (l : List ℕ). a ++ l) (append_assoc w.front (w.byte ∷ w.back) b) ∙ sym (append_assoc a w.front (w.byte ∷ (w.back ++ b)));
      place = omega (arith, length-append a w.front, w.place);
      closing = w.closing;
      partner = closes_more a w.front w.partner;
      other = w.other;
    }

-- A pair of two kinds is a closing bracket with a partner of another kind.
unlike_closes : (r : Run) → Meant r → {k : ℕ} → Unlike r k → ClosesOtherKindAt (spell r) k
unlike_closes end m {k = k} x'' = elim x'' [ ]
unlike_closes (pair o i c r) m (own h) =
    record {
      front = o ∷ spell i;
      byte = c;
      back = spell r;
      split = refl;
      place = refl;
      closing = m.2;
      partner = record { ahead = []; byte = o; run = i; split = refl; opens = m.0; meant = m.1 };
      other = h;
    }
unlike_closes (pair o i c r) m (inside w) = one_back (ClosesOtherKindAt (spell (pair o i c r))) (around (o ∷ []) (c ∷ spell r) (unlike_closes i m.1 w))
unlike_closes (pair o i c r) m (past_pair {k = k} w) =
    let at : length (o ∷ (spell i ++ c ∷ [])) + k ≡ suc (length (spell i) + suc k) = omega (arith, length-append (spell i) (c ∷ [])) in
    let all : o ∷ (spell i ++ c ∷ []) ++ (spell r ++ []) ≡ o ∷ (spell i ++ c ∷ spell r) = cc (append-nil (spell r), append_assoc (spell i) (c ∷ []) (spell r)) in
    subst (ClosesOtherKindAt (spell (pair o i c r))) at (subst (λ (s : List ℕ). ClosesOtherKindAt s (length (o ∷ (spell i ++ c ∷ [])) + k)) all (around (o ∷ (spell i ++ c ∷ [])) [] (unlike_closes r m.3 w)))
unlike_closes (dot c r) m (past_dot {k = k} w) = one_back (ClosesOtherKindAt (spell (dot c r))) (subst (λ (s : List ℕ). ClosesOtherKindAt (c ∷ s) (1 + k)) (append-nil (spell r)) (around (c ∷ []) [] (unlike_closes r m.1 w)))

-- A closing byte of a run's text has a partner of its own kind, or its pair is of two kinds.
abbrev KindOrUnlike : Run → List ℕ → ℕ → Type 0
KindOrUnlike r p c = (w : Closes p) × ((kind_of w.byte ≡ kind_of c) ⊎ Unlike r (length p))

kinds_of : (o c : ℕ) → (kind_of o ≡ kind_of c) ⊎ (kind_of o ≡ kind_of c → ⊥)
kinds_of o c = go (eqb (kind_of o) (kind_of c)) refl
  where
    go : (b : Bool) → eqb (kind_of o) (kind_of c) ≡ b → (kind_of o ≡ kind_of c) ⊎ (kind_of o ≡ kind_of c → ⊥)
    go true e = inl (eqb-true (kind_of o) (kind_of c) e)
    go false e = inr (eqb-false (kind_of o) (kind_of c) e)

kind_more : {r q : Run} (x p : List ℕ) (c : ℕ) → ((k : ℕ) → Unlike r k → Unlike q (length x + k)) → KindOrUnlike r p c → KindOrUnlike q (x ++ p) c
kind_more {q = q} x p c on w = (closes_more x p w.0, ⊎_elim (λ e. inl e) (λ u. inr (subst (Unlike q) (sym (length-append x p)) (on (length p) u))) w.1)

-- After the run inside a pair: the pair's own closing byte, or a byte of the rest.
kind_after : (i r : Run) (o d : ℕ) → role_of o ≡ Opening → Meant i → ((t : List ℕ) (c : ℕ) (q : List ℕ) → spell r ≡ t ++ c ∷ q → role_of c ≡ Closing → KindOrUnlike r t c) → (t : List ℕ) (c : ℕ) (q : List ℕ) → d ∷ spell r ≡ t ++ c ∷ q → role_of c ≡ Closing → KindOrUnlike (pair o i d r) (o ∷ (spell i ++ t)) c
kind_after i r o d mo mi rec [] c q e mc =
    let same : kind_of d ≡ kind_of c = ap kind_of (head-eq_of_cons-eq e) in
    subst (λ (l : List ℕ). KindOrUnlike (pair o i d r) (o ∷ l) c) (sym (append-nil (spell i)))
    (record { ahead = []; byte = o; run = i; split = refl; opens = mo; meant = mi }, ⊎_elim (λ f. inl (f ∙ same)) (λ n. inr (own n)) (kinds_of o d))
kind_after i r o d mo mi rec (y ∷ t) c q e mc =
    let at : (k : ℕ) → suc (length (spell i) + suc k) ≡ length (o ∷ (spell i ++ y ∷ [])) + k = λ k. omega (arith, length-append (spell i) (y ∷ [])) in
    subst (λ (l : List ℕ). KindOrUnlike (pair o i d r) (o ∷ l) c) (append_assoc (spell i) (y ∷ []) t)
    (kind_more (o ∷ (spell i ++ y ∷ [])) t c (λ k u. subst (Unlike (pair o i d r)) (at k) (past_pair u)) (rec t c q (tail-eq_of_cons-eq e) mc))

kind_at : (r : Run) → Meant r → (p : List ℕ) (c : ℕ) (q : List ℕ) → spell r ≡ p ++ c ∷ q → role_of c ≡ Closing → KindOrUnlike r p c
kind_at end m [] c q e mc = absurd (nil≢cons e)
kind_at end m (x ∷ p) c q e mc = absurd (nil≢cons e)
kind_at (dot d r) m [] c q e mc = let f = ap role_of (head-eq_of_cons-eq e) in let g = m.0 in clash (cc)
kind_at (dot d r) m (x ∷ p) c q e mc = kind_more (x ∷ []) p c (λ k u. one_on (Unlike (dot d r)) (past_dot u)) (kind_at r m.1 p c q (tail-eq_of_cons-eq e) mc)
kind_at (pair o i d r) m [] c q e mc = let f = ap role_of (head-eq_of_cons-eq e) in let g = m.0 in clash (cc)
kind_at (pair o i d r) m (x ∷ p) c q e mc =
    subst (λ (y : ℕ). KindOrUnlike (pair o i d r) (y ∷ p) c) (head-eq_of_cons-eq e)
    (⊎_elim
    (λ u. kind_more (o ∷ []) p c (λ k v. one_on (Unlike (pair o i d r)) (inside v)) (kind_at i m.1 p c u.0 u.1 mc))
    (λ u. subst (λ (l : List ℕ). KindOrUnlike (pair o i d r) (o ∷ l) c) (sym u.1) (kind_after i r o d m.0 m.1 (kind_at r m.3) u.0 c q u.2 mc))
    (cut (spell i) (d ∷ spell r) p c q (tail-eq_of_cons-eq e)))

-- A closing bracket with a partner of another kind is that of a pair of two kinds, since it has one partner.
closes_unlike : (r : Run) → Meant r → {k : ℕ} → ClosesOtherKindAt (spell r) k → Unlike r k
closes_unlike r m w =
    let v = kind_at r m w.front w.byte w.back w.split w.closing in
    ⊎_elim
    (λ e. absurd (w.other (ap kind_of (one_partner w.front w.partner v.0).1 ∙ e)))
    (λ u. subst (Unlike r) w.place u)
    v.1

-- The pass over the kinds comes past the text of a run whose pairs are each of one kind, and else to its first pair of two.
data PassOver (r : Run) : Type 0 where
  past : OneKind r → ((t kinds : List ℕ) → first_other_kind (spell r ++ t) kinds ≡ length (spell r) + first_other_kind t kinds) → PassOver r
  stopped_at : {k : ℕ} → First (Unlike r) k → ((t kinds : List ℕ) → first_other_kind (spell r ++ t) kinds ≡ k) → PassOver r

module _ (o c : ℕ) (i r : Run) (mo : role_of o ≡ Opening) (mc : role_of c ≡ Closing) where
  -- The opening byte is passed, and what is inside begins.
  opens : (t kinds : List ℕ) → first_other_kind (spell (pair o i c r) ++ t) kinds ≡ suc (first_other_kind (spell i ++ (c ∷ (spell r ++ t))) (kind_of o ∷ kinds))
  opens t kinds =
      ap (λ (m : Role). pass_kind m (kind_of o) kinds (first_other_kind ((spell i ++ c ∷ spell r) ++ t))) mo
      ∙ ap (λ (l : List ℕ). suc (first_other_kind l (kind_of o ∷ kinds))) (append_assoc (spell i) (c ∷ spell r) t)

  closes : (t kinds : List ℕ) (b : Bool) → eqb (kind_of o) (kind_of c) ≡ b → first_other_kind (c ∷ (spell r ++ t)) (kind_of o ∷ kinds) ≡ cond b (suc (first_other_kind (spell r ++ t) kinds)) 0
  closes t kinds b e =
      ap (λ (m : Role). pass_kind m (kind_of c) (kind_of o ∷ kinds) (first_other_kind (spell r ++ t))) mc
      ∙ ap (λ (x : Bool). cond x (suc (first_other_kind (spell r ++ t) kinds)) 0) e

  -- Inside stands a pair of two kinds.
  inside_first : {k : ℕ} → First (Unlike i) k → (j : ℕ) → j < suc k → Unlike (pair o i c r) j → ⊥
  inside_first w _ lt (own h) = omega (arith, unlike_inside w.holds)
  inside_first w _ lt (inside {k = j} v) = w.first j (omega arith) v
  inside_first w _ lt (past_pair v) = omega (arith, unlike_inside w.holds)

  -- Inside stands none, and the pair itself is of two kinds, or not.
  own_first : OneKind i → (j : ℕ) → j < suc (length (spell i)) → Unlike (pair o i c r) j → ⊥
  own_first one _ lt (own h) = omega arith
  own_first one _ lt (inside v) = unlike_none one v
  own_first one _ lt (past_pair v) = omega arith

  past_first : OneKind i → kind_of o ≡ kind_of c → {k : ℕ} → First (Unlike r) k → (j : ℕ) → j < suc (length (spell i) + suc k) → Unlike (pair o i c r) j → ⊥
  past_first one same w _ lt (own h) = h same
  past_first one same w _ lt (inside v) = unlike_none one v
  past_first one same w _ lt (past_pair {k = j} v) = w.first j (omega arith) v

  over_own : OneKind i → ((t kinds : List ℕ) → first_other_kind (spell i ++ t) kinds ≡ length (spell i) + first_other_kind t kinds) → eqb (kind_of o) (kind_of c) ≡ false → PassOver (pair o i c r)
  over_own one f e = stopped_at
      (record { holds = own (eqb-false (kind_of o) (kind_of c) e); first = own_first one })
      (λ t kinds. omega (arith, opens t kinds, f (c ∷ (spell r ++ t)) (kind_of o ∷ kinds), closes t kinds false e))

  over_rest : OneKind i → ((t kinds : List ℕ) → first_other_kind (spell i ++ t) kinds ≡ length (spell i) + first_other_kind t kinds) → eqb (kind_of o) (kind_of c) ≡ true → PassOver r → PassOver (pair o i c r)
  over_rest one f e (past rest g) = past
      (eqb-true (kind_of o) (kind_of c) e, one, rest)
      (λ t kinds. omega (arith, opens t kinds, f (c ∷ (spell r ++ t)) (kind_of o ∷ kinds), closes t kinds true e, g t kinds, length-append (spell i) (c ∷ spell r)))
  over_rest one f e (stopped_at w g) = stopped_at
      (record { holds = past_pair w.holds; first = past_first one (eqb-true (kind_of o) (kind_of c) e) w })
      (λ t kinds. omega (arith, opens t kinds, f (c ∷ (spell r ++ t)) (kind_of o ∷ kinds), closes t kinds true e, g t kinds))

  over_pair : PassOver i → PassOver r → PassOver (pair o i c r)
  over_pair (stopped_at w f) rest = stopped_at
      (record { holds = inside w.holds; first = inside_first w })
      (λ t kinds. opens t kinds ∙ ap suc (f (c ∷ (spell r ++ t)) (kind_of o ∷ kinds)))
  over_pair (past one f) rest = go (eqb (kind_of o) (kind_of c)) refl
    where
      go : (b : Bool) → eqb (kind_of o) (kind_of c) ≡ b → PassOver (pair o i c r)
      go true e = over_rest one f e rest
      go false e = over_own one f e

dot_first : (c : ℕ) (r : Run) {k : ℕ} → First (Unlike r) k → (j : ℕ) → j < suc k → Unlike (dot c r) j → ⊥
dot_first c r w _ lt (past_dot {k = j} v) = w.first j (omega arith) v

over_dot : (c : ℕ) (r : Run) → role_of c ≡ Unpaired → PassOver r → PassOver (dot c r)
over_dot c r mc rest = go rest
  where
    next : (t kinds : List ℕ) → first_other_kind (c ∷ (spell r ++ t)) kinds ≡ suc (first_other_kind (spell r ++ t) kinds)
    next t kinds = ap (λ (m : Role). pass_kind m (kind_of c) kinds (first_other_kind (spell r ++ t))) mc

    go : PassOver r → PassOver (dot c r)
    go (past one f) = past one (λ t kinds. omega (arith, next t kinds, f t kinds))
    go (stopped_at w f) = stopped_at (record { holds = past_dot w.holds; first = dot_first c r w }) (λ t kinds. next t kinds ∙ ap suc (f t kinds))

pass_over : (r : Run) → Meant r → PassOver r
pass_over end m = past tt (λ t kinds. omega arith)
pass_over (dot c r) m = over_dot c r m.0 (pass_over r m.1)
pass_over (pair o i c r) m = over_pair o c i r m.0 m.2 (pass_over i m.1) (pass_over r m.3)

-- The pairs of a run are each of one kind, or the pass finds the first closing bracket of another kind.
pub data KindsOf (r : Run) (s : List ℕ) : Type 0 where
  alike : OneKind r → Never (ClosesOtherKindAt s) → length s ≤ first_other_kind s [] → KindsOf r s
  differ : (OneKind r → ⊥) → First (ClosesOtherKindAt s) (first_other_kind s []) → first_other_kind s [] < length s → KindsOf r s

pub kinds_of_text : (r : Run) → Meant r → (s : List ℕ) → s ≡ spell r → KindsOf r s
kinds_of_text r m s e = subst (KindsOf r) (sym e) (go (pass_over r m))
  where
    whole : first_other_kind (spell r) [] ≡ first_other_kind (spell r ++ []) []
    whole = ap (λ (l : List ℕ). first_other_kind l []) (sym (append-nil (spell r)))

    go : PassOver r → KindsOf r (spell r)
    go (past one f) = alike one (λ k w. unlike_none one (closes_unlike r m w)) (omega (arith, whole, f [] []))
    go (stopped_at {k = k} w f) =
        let at : k ≡ first_other_kind (spell r) [] = sym (whole ∙ f [] []) in
        differ (λ one. unlike_none one w.holds)
        (subst (First (ClosesOtherKindAt (spell r))) at (record { holds = unlike_closes r m w.holds; first = λ j lt v. w.first j lt (closes_unlike r m v) }))
        (omega (arith, unlike_inside w.holds))
