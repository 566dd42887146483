-- An answer does not refuse and accept.
use mathlib.Core.Path.{◌≡◌}
use Prim.Native.Nat.{ℕ}
use native.Mathlib.Omega.{arith}
use Rattle.answer.specs.declared.Ground.{Ground}
use Rattle.answer.specs.declared.Place.{Place}
use Rattle.answer.specs.Answer.{Answer, Accepted, Refused}

-- Two variants are never equal: `cc` shows that 0 would be 1.
pub clash : {A : Type 0} → ◌≡◌ {A = ℕ} 0 1 → A
clash e = absurd (omega arith)

pub denies : {x : Answer} {g : Ground} {p : Place} → x ≡ Refused g p → x ≡ Accepted → ⊥
denies e f = clash (cc)
