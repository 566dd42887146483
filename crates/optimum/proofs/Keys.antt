-- The order of keys and its laws.
use mathlib.Core.Path.{◌≡◌, refl, sym, ap, ◌∙◌}
use mathlib.Core.Bool.{Bool, true, false, not, cond}
use Prim.Native.Nat.{◌≤◌}
use native.Mathlib.Omega.{arith}
use native.Mathlib.Nat.{le_refl}
use lib.IntN.{ℤ, ◌+ℤ◌, +ℤ_assoc, +ℤ_comm, +ℤ_idr}
use lib.Dec.{T, leb, leb→le, nleb→lt}
use lib.Signed.{lt_z, ◌<ℤ◌, lt_z_yes}
use Rattle.std.proofs.lemmas.Bool.{cond_both}
use Rattle.std.proofs.lemmas.Int.{ints}
use Rattle.optimum.specs.Key.{Key, empty, ◌⊕◌, no_better, better}

-- ---- keys add

pub key_eq : {a b : Key} → a.total ≡ b.total → a.mask ≡ b.mask → a ≡ b
key_eq p q = λ i. record { total = p i; mask = q i }

pub ⊕-comm : (a b : Key) → a ⊕ b ≡ b ⊕ a
unfolding ◌⊕◌
⊕-comm a b = key_eq (+ℤ_comm a.total b.total) (omega arith)

pub ⊕-assoc : (a b c : Key) → (a ⊕ b) ⊕ c ≡ a ⊕ (b ⊕ c)
unfolding ◌⊕◌
⊕-assoc a b c = key_eq (+ℤ_assoc a.total b.total c.total) (omega arith)

pub ⊕-empty : (a : Key) → a ⊕ empty ≡ a
unfolding ◌⊕◌ empty
⊕-empty a = key_eq (+ℤ_idr a.total) (omega arith)

pub empty_⊕ : (a : Key) → empty ⊕ a ≡ a
empty_⊕ a = ⊕-comm empty a ∙ ⊕-empty a

pub ⊕-swap : (a b c : Key) → a ⊕ (b ⊕ c) ≡ b ⊕ (a ⊕ c)
⊕-swap a b c = sym (⊕-assoc a b c) ∙ ap (λ t. t ⊕ c) (⊕-comm a b) ∙ ⊕-assoc b a c

-- ---- their order: b is at least as good as a

infix 50 ◌≼◌
pub data ◌≼◌ (a b : Key) : Type 0 where
  more : a.total <ℤ b.total → a ≼ b
  same : b.total ≡ a.total → b.mask ≤ a.mask → a ≼ b

pub ≼_refl : (a : Key) → a ≼ a
≼_refl a = same refl (le_refl a.mask)

pub ≼_trans : {a b c : Key} → a ≼ b → b ≼ c → a ≼ c
≼_trans (more h) (more k) = more (omega (arith, ints))
≼_trans (more h) (same f g) = more (omega (arith, ints))
≼_trans (same e g) (more k) = more (omega (arith, ints))
≼_trans (same e g) (same f h) = same (f ∙ e) (omega arith)

pub ≼-antisym : {a b : Key} → a ≼ b → b ≼ a → a ≡ b
≼-antisym (more h) (more k) = absurd (omega (arith, ints))
≼-antisym (more h) (same f g) = absurd (omega (arith, ints))
≼-antisym (same e g) (more k) = absurd (omega (arith, ints))
≼-antisym (same e g) (same f h) = key_eq f (omega arith)

pub ≼-mono : {a b : Key} (c : Key) → a ≼ b → c ⊕ a ≼ c ⊕ b
unfolding ◌⊕◌
≼-mono c (more h) = more (omega (arith, ints))
≼-mono c (same e g) = same (ap (λ (t : ℤ). c.total +ℤ t) e) (omega arith)

-- ---- the test

test_yes : {a b : Key} → T (no_better a b) → a ≼ b
unfolding no_better
test_yes {a} {b} t = go (lt_z a.total b.total) (lt_z b.total a.total) (λ h. more (lt_z_yes h)) (λ h k. omega (arith, ints)) t
  where
    go : (x y : Bool) → (T x → a ≼ b) → (T (not x) → T (not y) → b.total ≡ a.total) → T (cond x true (cond y false (leb b.mask a.mask))) → a ≼ b
    go true y f g t = f tt
    go false true f g t = absurd t
    go false false f g t = same (g tt tt) (leb→le b.mask a.mask t)

test_no : {a b : Key} → T (not (no_better a b)) → b ≼ a
unfolding no_better
test_no {a} {b} t = go (lt_z a.total b.total) (lt_z b.total a.total) (λ h. more (lt_z_yes h)) (λ h k. omega (arith, ints)) t
  where
    go : (x y : Bool) → (T y → b ≼ a) → (T (not x) → T (not y) → a.total ≡ b.total) → T (not (cond x true (cond y false (leb b.mask a.mask)))) → b ≼ a
    go true y f g t = absurd t
    go false true f g t = f tt
    go false false f g t = let h = nleb→lt b.mask a.mask t in same (g tt tt) (omega arith)

-- ---- the better of two

pub better_ind : (P : Key → Type 0) (a b : Key) → P a → P b → P (better a b)
unfolding better
better_ind P a b p q = cond_both (no_better a b) b a P (λ e. q) (λ e. p)

pub better_l : (a b : Key) → a ≼ better a b
unfolding better
better_l a b = cond_both (no_better a b) b a (λ x. a ≼ x) (λ e. test_yes (rw e tt)) (λ e. ≼_refl a)

pub better_r : (a b : Key) → b ≼ better a b
unfolding better
better_r a b = cond_both (no_better a b) b a (λ x. b ≼ x) (λ e. ≼_refl b) (λ e. test_no (rw e tt))

better_lub : {a b c : Key} → a ≼ c → b ≼ c → better a b ≼ c
better_lub {a} {b} {c} p q = better_ind (λ x. x ≼ c) a b p q

pub better_left : {a b : Key} → b ≼ a → better a b ≡ a
better_left {a} {b} h = ≼-antisym (better_lub (≼_refl a) h) (better_l a b)

pub better_right : {a b : Key} → a ≼ b → better a b ≡ b
better_right {a} {b} h = ≼-antisym (better_lub h (≼_refl b)) (better_r a b)

pub ⊕-better : (c a b : Key) → c ⊕ better a b ≡ better (c ⊕ a) (c ⊕ b)
⊕-better c a b =
    ≼-antisym
    (better_ind (λ x. c ⊕ x ≼ better (c ⊕ a) (c ⊕ b)) a b (better_l (c ⊕ a) (c ⊕ b)) (better_r (c ⊕ a) (c ⊕ b)))
    (better_lub (≼-mono c (better_l a b)) (≼-mono c (better_r a b)))

-- What is worse than the empty chain may count as the empty chain, if the rest alone is no better than what is at hand.
pub better_clipped : (m b v : Key) → b ≼ m → better m (better empty v ⊕ b) ≡ better m (v ⊕ b)
better_clipped m b v h =
    ≼-antisym
    (better_lub (better_l m (v ⊕ b)) (better_ind (λ x. x ⊕ b ≼ better m (v ⊕ b)) empty v (rw empty_⊕ (≼_trans h (better_l m (v ⊕ b)))) (better_r m (v ⊕ b))))
    (better_lub (better_l m (better empty v ⊕ b)) (≼_trans (rw (⊕-comm v b, ⊕-comm (better empty v) b) (≼-mono b (better_r empty v))) (better_r m (better empty v ⊕ b))))
