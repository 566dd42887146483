-- What tests say, and what holds up to a number.
use mathlib.Core.Path.{◌≡◌, refl, subst}
use mathlib.Core.Bool.{Bool, true, false, not, ◌&&◌, ◌||◌}
use Prim.Native.Nat.{ℕ, suc, ◌<◌}
use native.Mathlib.Omega.{arith}
use mathlib.Core.Logic.{inl, inr}
use lib.Dec.{T}
use Rattle.std.proofs.lemmas.Bool.{cases_eq}

-- A test with what it says, for a case on it.
pub data Is (b : Bool) : Type 0 where
  yes : T b → Is b
  no : T (not b) → Is b

pub is : (b : Bool) → Is b
is true = yes tt
is false = no tt

pub T-eq : {b : Bool} → T b → b ≡ true
T-eq {b = true} t = refl
T-eq {b = false} t = absurd t

pub T-neq : {b : Bool} → T (not b) → b ≡ false
T-neq {b = true} t = absurd t
T-neq {b = false} t = refl

-- Two tests that pass together are equal.
pub T-ext : (a b : Bool) → (T a → T b) → (T b → T a) → a ≡ b
T-ext true true f g = refl
T-ext true false f g = absurd (f tt)
T-ext false true f g = absurd (g tt)
T-ext false false f g = refl

pub and_i : (a b : Bool) → T a → T b → T (a && b)
and_i true b s t = t
and_i false b s t = s

pub and_l : (a b : Bool) → T (a && b) → T a
and_l true b t = tt
and_l false b t = t

pub and_r : (a b : Bool) → T (a && b) → T b
and_r true b t = t
and_r false b t = absurd t

pub or_l : (a b : Bool) → T a → T (a || b)
or_l true b t = tt
or_l false b t = absurd t

pub or_r : (a b : Bool) → T b → T (a || b)
or_r true b t = tt
or_r false b t = t

pub or_e : {X : Type 0} (a b : Bool) → (T a → X) → (T b → X) → T (a || b) → X
or_e true b f g t = f tt
or_e false b f g t = g t

-- What holds below n, and of n, holds below the next.
pub up_to : {P : ℕ → Type 0} (n : ℕ) → ((i : ℕ) → i < n → P i) → P n → (i : ℕ) → i < suc n → P i
up_to {P} n h here i b = elim (cases_eq n i) [ inl e ↦ subst P e here | inr ne ↦ h i (omega arith) ]
