-- Grounds that tests tell decide an answer, one by one and in order.
use mathlib.Core.Path.{◌≡◌, refl, sym, ap, subst}
use mathlib.Core.Bool.{Bool, true, false, false≢true}
use Prim.Native.Nat.{ℕ, ◌<◌}
use native.Mathlib.Omega.{arith}
use Rattle.answer.specs.Answer.{Said, said, number_of, given, unless, Answer, Accepted, Refused}
use Rattle.answer.specs.Answer.Said.{accepted, refused}
use Rattle.answer.specs.Grounds.{GivenIf, holds, fails, First, Never, GivenFirst, at_first, never, ◌then◌, earlier, later, Decides}
use Rattle.answer.specs.declared.Ground.{Ground}
use Rattle.answer.specs.declared.Place.{Place}
use Rattle.answer.proofs.Denied.{clash}
use Rattle.answer.specs.Tells.{Tells}

-- One ground, whose condition a test tells.
pub ground : {C : Type 0} (b : Bool) → Tells b C → (g : Ground) (p : Place) → Decides (GivenIf C (number_of g) p) (given b g p Accepted)
ground {C} true t g p = record { judged = holds (t.0 refl); decided = go }
  where
    go : {x : Said} → GivenIf C (number_of g) p x → x ≡ refused (number_of g) p
    go (holds c) = refl
    go (fails n) = absurd (n (t.0 refl))
ground {C} false t g p = record { judged = fails (λ c. false≢true (t.1 c)); decided = go }
  where
    go : {x : Said} → GivenIf C (number_of g) p x → x ≡ accepted
    go (holds c) = absurd (false≢true (t.1 c))
    go (fails n) = refl

-- There is one first place.
first_one : (P : ℕ → Type 0) {j k : ℕ} → First P j → First P k → j ≡ k
first_one P {j} {k} a b =
    let not_before : j < k → ⊥ = λ h. b.first j h a.holds in
    let not_after : k < j → ⊥ = λ h. a.first k h b.holds in
    omega arith

-- One ground with the first place at which its condition holds, and with no such place.
module _ {P : ℕ → Type 0} (g : Ground) (place : ℕ → Place) where
  pub ground_first : {k : ℕ} → First P k → Decides (GivenFirst P (number_of g) place) (Refused g (place k))
  ground_first {k} f = record { judged = at_first f; decided = go }
    where
      go : {x : Said} → GivenFirst P (number_of g) place x → x ≡ refused (number_of g) (place k)
      go (at_first h) = ap (λ (j : ℕ). refused (number_of g) (place j)) (first_one P h f)
      go (never n) = absurd (n k f.holds)

  pub ground_never : Never P → Decides (GivenFirst P (number_of g) place) Accepted
  ground_never n = record { judged = never n; decided = go }
    where
      go : {x : Said} → GivenFirst P (number_of g) place x → x ≡ accepted
      go (at_first {k = k} h) = absurd (n k h.holds)
      go (never m) = refl

-- Grounds of which one is given, and grounds of which none is, with later ones behind them.
module _ {J K : Said → Type 0} where
  pub stops : {g : Ground} {p : Place} → Decides J (Refused g p) → Decides (J then K) (Refused g p)
  stops {g} {p} f = record { judged = earlier f.judged; decided = go }
    where
      go : {x : Said} → (J then K) x → x ≡ refused (number_of g) p
      go (earlier h) = f.decided h
      go (later h k) = let e = f.decided h in clash (cc)

  pub goes_on : {b : Answer} → Decides J Accepted → Decides K b → Decides (J then K) b
  goes_on {b} f g = record { judged = later f.judged g.judged; decided = go }
    where
      go : {x : Said} → (J then K) x → x ≡ said b
      go (earlier h) = let e = f.decided h in clash (cc)
      go (later h k) = g.decided k

  -- Grounds that one answer decides, and then those that another does.
  pub in_order : (a : Answer) {b : Answer} → Decides J a → Decides K b → Decides (J then K) (unless a b)
  in_order Accepted f g = goes_on f g
  in_order (Refused g p) f h = stops f

-- A ground before others, and before others with later ones behind them.
pub flat : (b : Bool) (g : Ground) (p : Place) (next rest : Answer) → given b g p (unless next rest) ≡ unless (given b g p next) rest
flat true g p next rest = refl
flat false g p next rest = refl

-- Three answers in order, however they are grouped.
pub regroup : (a b c : Answer) → unless (unless a b) c ≡ unless a (unless b c)
regroup Accepted b c = refl
regroup (Refused g p) b c = refl

module _ {C : Type 0} {K : Said → Type 0} (b : Bool) (t : Tells b C) (g : Ground) (p : Place) where
  pub guard : {rest : Answer} → Decides K rest → Decides (GivenIf C (number_of g) p then K) (given b g p rest)
  guard {rest} d = subst (Decides (GivenIf C (number_of g) p then K)) (sym (flat b g p Accepted rest)) (in_order (given b g p Accepted) (ground b t g p) d)

  pub guards : (next rest : Answer) → Decides K (unless next rest) → Decides (GivenIf C (number_of g) p then K) (unless (given b g p next) rest)
  guards next rest d = subst (Decides (GivenIf C (number_of g) p then K)) (flat b g p next rest) (guard d)
