-- Which brackets of a text have a partner.
use mathlib.Core.Path.{◌≡◌, refl, sym, ap, ap₂, subst, ◌∙◌}
use mathlib.Core.Bool.{true, false, true≢false, false≢true}
use mathlib.Core.Logic.{◌⊎◌, inl, inr, ⊎_elim}
use Prim.Native.Nat.{ℕ, zero, suc, ◌≤◌}
use native.Mathlib.Omega.{arith}
use mathlib.Core.List.{List, [], ◌∷◌, ◌++◌, append_assoc, append-nil, nil≢cons, head-eq_of_cons-eq, tail-eq_of_cons-eq}
use lib.ListN.{length, length-append}
use Rattle.tree.specs.Run.{Run, spell}
use Rattle.tree.specs.Run.Run.{end, dot, pair}
use Rattle.character.specs.Character.{role_of}
use Rattle.tree.specs.Reading.{Meant, Runs, first, onto, runs}
use Rattle.tree.specs.Reading.Runs.{last, more}
use Rattle.tree.specs.Grounds.{Closes, Closed}
use Rattle.character.specs.declared.Role.{Role}
use Rattle.character.specs.declared.Role.TheVariants.{Unpaired, Opening, Closing, Refused}
use Rattle.answer.proofs.Denied.{clash}
use Rattle.tree.proofs.FirstRefused.{Clean, clean_back}
use Rattle.tree.proofs.Splits.{Splits, splits, ended}
use Rattle.tree.proofs.Spelling.{read_back, read_spell, first_meant, before}

-- Where a byte of two texts in one stands.
abbrev Cut : List ℕ → List ℕ → List ℕ → ℕ → List ℕ → Type 0
Cut a b p c q = ((t : List ℕ) × (a ≡ p ++ c ∷ t) × (q ≡ t ++ b)) ⊎ ((t : List ℕ) × (p ≡ a ++ t) × (b ≡ t ++ c ∷ q))

pub cut : (a b p : List ℕ) (c : ℕ) (q : List ℕ) → a ++ b ≡ p ++ c ∷ q → Cut a b p c q
cut [] b p c q e = inr (p, refl, e)
cut (x ∷ a) b [] c q e = inl (a, ap (λ (y : ℕ). y ∷ a) (head-eq_of_cons-eq e), sym (tail-eq_of_cons-eq e))
cut (x ∷ a) b (y ∷ p) c q e = ⊎_elim
    (λ w. inl (w.0, ap₂ (λ (z : ℕ) (l : List ℕ). z ∷ l) (head-eq_of_cons-eq e) w.1, w.2))
    (λ w. inr (w.0, ap₂ (λ (z : ℕ) (l : List ℕ). z ∷ l) (sym (head-eq_of_cons-eq e)) w.1, w.2))
    (cut a b p c q (tail-eq_of_cons-eq e))

abbrev pub closes_more : (x : List ℕ) (p : List ℕ) → Closes p → Closes (x ++ p)
closes_more x p w = record { ahead = x ++ w.ahead; byte = w.byte; run = w.run; split = ap (λ (l : List ℕ). x ++ l) w.split ∙ sym (append_assoc x w.ahead (w.byte ∷ spell w.run)); opens = w.opens; meant = w.meant }

pub closed_more : (q b : List ℕ) → Closed q → Closed (q ++ b)
closed_more q b w = record { run = w.run; byte = w.byte; rest = w.rest ++ b; split = ap (λ (l : List ℕ). l ++ b) w.split ∙ append_assoc (spell w.run) (w.byte ∷ w.rest) b; closes = w.closes; meant = w.meant }

-- What a byte of a run's text is, with p before it and q after it.
pub data Placed (p : List ℕ) (c : ℕ) (q : List ℕ) : Type 0 where
  a_dot : role_of c ≡ Unpaired → Placed p c q
  an_open : role_of c ≡ Opening → Closed q → Placed p c q
  a_close : role_of c ≡ Closing → Closes p → Placed p c q

placed_left : (x p : List ℕ) (c : ℕ) (q : List ℕ) → Placed p c q → Placed (x ++ p) c q
placed_left x p c q (a_dot e) = a_dot e
placed_left x p c q (an_open e w) = an_open e w
placed_left x p c q (a_close e w) = a_close e (closes_more x p w)

placed_right : (p : List ℕ) (c : ℕ) (q b : List ℕ) → Placed p c q → Placed p c (q ++ b)
placed_right p c q b (a_dot e) = a_dot e
placed_right p c q b (an_open e w) = an_open e (closed_more q b w)
placed_right p c q b (a_close e w) = a_close e w

abbrev PlacedIn : Run → Type 0
PlacedIn r = (p : List ℕ) (c : ℕ) (q : List ℕ) → spell r ≡ p ++ c ∷ q → Placed p c q

-- After the run inside a pair: the pair's own closing byte, or a byte of the rest.
placed_after : (i r : Run) (d : ℕ) → Meant i → role_of d ≡ Closing → PlacedIn r → (x c : ℕ) (q t : List ℕ) → role_of x ≡ Opening → d ∷ spell r ≡ t ++ c ∷ q → Placed (x ∷ (spell i ++ t)) c q
placed_after i r d mi md rec x c q [] mx e = a_close (ap role_of (sym (head-eq_of_cons-eq e)) ∙ md) (record { ahead = []; byte = x; run = i; split = ap (λ (l : List ℕ). x ∷ l) (append-nil (spell i)); opens = mx; meant = mi })
placed_after i r d mi md rec x c q (y ∷ t) mx e =
    subst (λ (l : List ℕ). Placed (x ∷ l) c q) (append_assoc (spell i) (y ∷ []) t)
    (placed_left (x ∷ (spell i ++ y ∷ [])) t c q (rec t c q (tail-eq_of_cons-eq e)))

pub placed : (r : Run) → Meant r → PlacedIn r
placed end m [] c q e = absurd (nil≢cons e)
placed end m (x ∷ p) c q e = absurd (nil≢cons e)
placed (dot d r) m [] c q e = a_dot (ap role_of (sym (head-eq_of_cons-eq e)) ∙ m.0)
placed (dot d r) m (x ∷ p) c q e = placed_left (x ∷ []) p c q (placed r m.1 p c q (tail-eq_of_cons-eq e))
placed (pair o i d r) m [] c q e = an_open (ap role_of (sym (head-eq_of_cons-eq e)) ∙ m.0) (record { run = i; byte = d; rest = spell r; split = sym (tail-eq_of_cons-eq e); closes = m.2; meant = m.1 })
placed (pair o i d r) m (x ∷ p) c q e = ⊎_elim
    (λ w. placed_left (x ∷ []) p c q (subst (Placed p c) (sym w.2) (placed_right p c w.0 (d ∷ spell r) (placed i m.1 p c w.0 w.1))))
    (λ w. subst (λ (l : List ℕ). Placed (x ∷ l) c q) (sym w.1) (placed_after i r d m.1 m.2 (placed r m.3) x c q w.0 (ap role_of (sym (head-eq_of_cons-eq e)) ∙ m.0) w.2))
    (cut (spell i) (d ∷ spell r) p c q (tail-eq_of_cons-eq e))

pub placed_closes : (p : List ℕ) (c : ℕ) (q : List ℕ) → Placed p c q → role_of c ≡ Closing → Closes p
placed_closes p c q (a_dot e) k = clash (cc)
placed_closes p c q (an_open e w) k = clash (cc)
placed_closes p c q (a_close e w) k = w

pub placed_closed : (p : List ℕ) (c : ℕ) (q : List ℕ) → Placed p c q → role_of c ≡ Opening → Closed q
placed_closed p c q (a_dot e) k = clash (cc)
placed_closed p c q (an_open e w) k = w
placed_closed p c q (a_close e w) k = clash (cc)

pub placed_clean : (p : List ℕ) (c : ℕ) (q : List ℕ) → Placed p c q → role_of c ≡ Refused → ⊥
placed_clean p c q (a_dot e) k = clash (cc)
placed_clean p c q (an_open e w) k = clash (cc)
placed_clean p c q (a_close e w) k = clash (cc)

-- The text of a run is never that of a run with a closing byte after it.
ended_before : (r : Run) (x : Runs) → ended x ≡ true → ended (before r x) ≡ true
ended_before r (last q) e = e
ended_before r (more q c rs) e = refl

closed_ended : (q : List ℕ) → Closed q → ended (runs q) ≡ true
closed_ended q w =
    ap (λ (l : List ℕ). ended (runs l)) w.split ∙ ap ended (read_back w.run w.meant (w.byte ∷ w.rest))
    ∙ ended_before w.run (runs (w.byte ∷ w.rest)) (ap (λ (m : Role). ended (onto m w.byte (runs w.rest))) w.closes)

pub not_closed : (q : List ℕ) (r : Run) → runs q ≡ last r → Closed q → ⊥
not_closed q r f w = false≢true (sym (ap ended f) ∙ closed_ended q w)

pub spell_not_opened : (r : Run) → Meant r → Closes (spell r) → ⊥
spell_not_opened r m w = not_closed (spell w.run) w.run (read_spell w.run w.meant) (placed_closed w.ahead w.byte (spell w.run) (placed r m w.ahead w.byte (spell w.run) w.split) w.opens)

-- In a text whose first run no closing byte ends, every closing byte closes one.
abbrev pub ClosesUpTo : ℕ → Type 0
ClosesUpTo n = (p : List ℕ) (x : ℕ) (q : List ℕ) → role_of x ≡ Closing → length p ≤ n → Clean p → ended (runs (p ++ x ∷ q)) ≡ false → Closes p

closes_tail : (c : ℕ) (p : List ℕ) (x : ℕ) (q : List ℕ) (r : Run) (d : ℕ) (t u : List ℕ) → role_of c ≡ Opening → role_of x ≡ Closing → Meant r → spell r ≡ p ++ u → x ∷ q ≡ u ++ d ∷ t → Closes (c ∷ p)
closes_tail c p x q r d t [] mc mx mr e f = record { ahead = []; byte = c; run = r; split = ap (λ (l : List ℕ). c ∷ l) (sym (e ∙ append-nil p)); opens = mc; meant = mr }
closes_tail c p x q r d t (y ∷ u) mc mx mr e f =
    closes_more (c ∷ []) p (placed_closes p y u (placed r mr p y u e) (ap role_of (sym (head-eq_of_cons-eq f)) ∙ mx))

closes_step : (n : ℕ) → ClosesUpTo n → (c : ℕ) (p : List ℕ) (x : ℕ) (q : List ℕ) → role_of x ≡ Closing → length p ≤ n → (role_of c ≡ Refused → ⊥) → Clean p → (m : Role) → role_of c ≡ m → (y : Runs) → runs (p ++ x ∷ q) ≡ y → Splits y (p ++ x ∷ q) → Meant (first y) → ended (onto m c y) ≡ false → Closes (c ∷ p)
closes_step n rec c p x q mx h ok cl Unpaired k (last r) f w mr g = closes_more (c ∷ []) p (rec p x q mx h cl (ap ended f))
closes_step n rec c p x q mx h ok cl Unpaired k (more r d rs) f w mr g = absurd (true≢false g)
closes_step n rec c p x q mx h ok cl Opening k (last r) f w mr g = closes_more (c ∷ []) p (rec p x q mx h cl (ap ended f))
closes_step n rec c p x q mx h ok cl Opening k (more r d (last r₂)) f w mr g = ⊎_elim
    (λ u. subst (λ (l : List ℕ). Closes (c ∷ l)) (append_assoc (spell r) (d ∷ []) u.0 ∙ sym u.1)
    (closes_more (c ∷ (spell r ++ d ∷ [])) u.0
    (rec u.0 x q mx (omega (arith, ap length u.1, length-append (spell r) (d ∷ u.0))) (clean_back (spell r ++ d ∷ []) u.0 (subst Clean (u.1 ∙ sym (append_assoc (spell r) (d ∷ []) u.0)) cl))
    (ap (λ (l : List ℕ). ended (runs l)) (sym u.2) ∙ ap ended w.3))))
    (λ u. closes_tail c p x q r d w.0 u.0 k mx mr u.1 u.2)
    (cut p (x ∷ q) (spell r) d w.0 w.1)
closes_step n rec c p x q mx h ok cl Opening k (more r d (more r₂ d₂ rs)) f w mr g = absurd (true≢false g)
closes_step n rec c p x q mx h ok cl Closing k y f w mr g = absurd (true≢false g)
closes_step n rec c p x q mx h ok cl Refused k y f w mr g = absurd (ok k)

closes_none : (x : ℕ) (q : List ℕ) → role_of x ≡ Closing → ended (runs (x ∷ q)) ≡ false → ⊥
closes_none x q mx g = true≢false (sym (ap (λ (m : Role). ended (onto m x (runs q))) mx) ∙ g)

pub closes_all : (n : ℕ) → ClosesUpTo n
closes_all zero [] x q mx h cl g = absurd (closes_none x q mx g)
closes_all zero (c ∷ p) x q mx h cl g = absurd (omega arith)
closes_all (suc n) [] x q mx h cl g = absurd (closes_none x q mx g)
closes_all (suc n) (c ∷ p) x q mx h cl g = closes_step n (closes_all n) c p x q mx (omega arith) cl.0 cl.1 (role_of c) refl (runs (p ++ x ∷ q)) refl (splits (p ++ x ∷ q)) (first_meant (p ++ x ∷ q)) g
