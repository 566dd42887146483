-- How grounds are said: each is given if its condition holds, unless an earlier one is, and never otherwise.
use Rattle.std.specs.Prelude.{◌≡◌, ℕ, ◌<◌}
use Rattle.answer.specs.Answer.{Said, said, Answer}
use Rattle.answer.specs.Answer.Said.{accepted, refused}
use Rattle.answer.specs.declared.Place.{Place}

-- One ground with its number and its place: it is given exactly if its condition holds.
pub data GivenIf (Condition : Type 0) (n : ℕ) (p : Place) : Said → Type 0 where
  holds : Condition → GivenIf Condition n p (refused n p)
  fails : ¬ Condition → GivenIf Condition n p accepted

-- k is the first place at which P holds.
pub record First (P : ℕ → Type 0) (k : ℕ) : Type 0 where
  pub holds : P k
  pub first : (j : ℕ) → j < k → P j → ⊥

abbrev pub Never : (ℕ → Type 0) → Type 0
Never P = (k : ℕ) → P k → ⊥

-- One ground whose condition may hold at many places: it is given with the first of them.
pub data GivenFirst (Condition : ℕ → Type 0) (n : ℕ) (place : ℕ → Place) : Said → Type 0 where
  at_first : {k : ℕ} → First Condition k → GivenFirst Condition n place (refused n (place k))
  never : Never Condition → GivenFirst Condition n place accepted

-- Earlier grounds and then later ones, which are looked at only if none of the earlier is given.
infixr 30 ◌then◌
pub data ◌then◌ (Earlier Later : Said → Type 0) : Said → Type 0 where
  earlier : {n : ℕ} {p : Place} → Earlier (refused n p) → (Earlier then Later) (refused n p)
  later : {x : Said} → Earlier accepted → Later x → (Earlier then Later) x

-- The answer is what the grounds say, and they say nothing else.
pub record Decides (Says : Said → Type 0) (answer : Answer) : Type 0 where
  pub judged : Says (said answer)
  pub decided : {x : Said} → Says x → x ≡ said answer
