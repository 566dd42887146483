-- What is answered of a run of nodes of a text is what its grounds say, and nothing else.
use mathlib.Core.Path.{◌≡◌, refl, subst}
use mathlib.Core.Bool.{true, false, false≢true}
use Prim.Native.Nat.{ℕ}
use mathlib.Core.List.{List}
use Rattle.answer.specs.Grounds.{GivenIf, Decides}
use Rattle.answer.specs.declared.Ground.TheVariants.{OutsideTree}
use Rattle.answer.specs.declared.Place.TheVariants.{Nothing}
use Rattle.answer.proofs.Grounds.{ground, stops, goes_on}
use Rattle.tree.specs.Run.{Run}
use Rattle.tree.specs.Reading.{Reading, reading}
use Rattle.tree.specs.Reading.Reading.{text_accepted, text_refused}
use Rattle.tree.proofs.Grounds.{text_decides, accepted_exactly}
use Rattle.stretch.specs.Stretch.{SomeStretch, Found, stretch_in, located_by, check_of}
use Rattle.stretch.specs.Stretch.Found.{at, nowhere}
use Rattle.stretch.specs.Grounds.{IsStretch, StretchSays}
use Rattle.stretch.proofs.Stretches.{stretches, no_stretch}

module _ (s : List ℕ) (a b : ℕ) where
  -- Ground 15, of a text that is accepted with a run: no other run spells it.
  nodes_decide : (r : Run) → reading s ≡ text_accepted r → (x : Found) → stretch_in r a b ≡ x → Decides (GivenIf (¬ IsStretch s a b) 15 Nothing) (located_by x).answer
  nodes_decide r e (at k y) f =
      let is : IsStretch s a b = record { run = r; spells = (accepted_exactly s r).0 e; stretch = (k, y, (stretches r a b k y).0 f) } in
      ground false (λ z. absurd (false≢true z), λ n. absurd (n is)) OutsideTree Nothing
  nodes_decide r e nowhere f = ground true (λ z. none, λ n. refl) OutsideTree Nothing
    where
      none : IsStretch s a b → ⊥
      none w =
          let other : reading s ≡ text_accepted w.run = (accepted_exactly s w.run).1 w.spells in
          let same : w.run ≡ r = cc in
          let found : SomeStretch r a b = subst (λ (q : Run). SomeStretch q a b) same w.stretch in
          (no_stretch r a b).0 f found.0 found.1 found.2

  pub check_decides : Decides (StretchSays s a b) (check_of s a b)
  unfolding check_of
  check_decides = go (reading s) refl
    where
      go : (x : Reading) → reading s ≡ x → Decides (StretchSays s a b) (check_of s a b)
      go (text_accepted r) e = rw (e, check_of) (goes_on (rw e at (text_decides s)) (nodes_decide r e (stretch_in r a b) refl))
      go (text_refused g k) e = rw (e, check_of) (stops (rw e at (text_decides s)))
