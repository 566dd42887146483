-- The bytes located spell the stretch, and lie where it stands in the text.
use Rattle.std.proofs.Common.{◌≡◌, refl, sym, ap, ◌∙◌, List, [], ◌∷◌, ℕ, length, arith}
use Rattle.stretch.specs.declared.search.Ends.{Ends}
use Rattle.stretch.proofs.Searches.{located_ok, located_err, part_of_lem, part_none}
use Rattle.stretch.proofs.part.Goals as goal

pub slice_bounds-result-end : goal.slice_bounds-result-end
slice_bounds-result-end c = (part_of_lem _ _ _ _ (located_ok _ _ (sym c.in-Ok.is ∙ c.locate.ensures))).inside

pub returns-in-Ok : goal.returns-in-Ok
returns-in-Ok c =
    let same = located_ok _ _ (sym c.in-Ok.is ∙ c.locate.ensures) in
    record { spells = (part_of_lem _ _ _ _ same).is; own = refl; lies = omega (arith, ap (λ (e : Ends). e.from) same) }

-- A part of no bytes is empty, wherever it lies.
nothing : (xs : List ℕ) → length xs ≡ 0 → xs ≡ []
nothing [] e = refl
nothing (x ∷ xs) e = absurd (omega (arith, e))

pub returns-in-Err : goal.returns-in-Err
returns-in-Err c =
    let none = part_none _ _ _ (located_err _ _ (sym c.in-Err.is ∙ c.locate.ensures)) in
    record { spells = nothing _ (omega arith) ∙ sym none.0; own = refl; lies = omega (arith, none.1) }
