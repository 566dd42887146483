-- One law for each way out.
use Rattle.std.proofs.Common.{refl, arith}
use mathlib.Core.Logic.{⊎_elim}
use Rattle.stretch.proofs.Scans.{scan_inside, scan_counts}
use Rattle.stretch.proofs.Searches.{search_disordered, search_few, search_wide, search_unread, search_other, search_found}
use Rattle.stretch.proofs.search.search.Goals as goal

pub returns-then-b-a : goal.returns-then-b-a
returns-then-b-a c = search_disordered _ _ _ _ c.if-b-a.true refl

pub returns-then-c-b : goal.returns-then-c-b
returns-then-c-b c = ⊎_elim (λ h. search_few _ _ _ _ _ c.scan_to-c.ensures h refl) (λ h. search_wide _ _ _ _ _ c.scan_to-c.ensures h.1 refl) c.then-c-b.either

pub slice_bounds-read-end : goal.slice_bounds-read-end
slice_bounds-read-end c = scan_inside c.args.a c.args.b c.args.text.now _ c.scan_to-c.ensures

pub returns-in_default : goal.returns-in_default
returns-in_default c = search_unread _ _ _ _ _ c.scan_to-c.ensures _ c.read.ensures c.requires c.in_default.not-Ok refl

pub overflow_add-b : goal.overflow_add-b
overflow_add-b c = omega (arith, scan_counts c.args.a c.args.b c.args.text.now _ c.scan_to-c.ensures)

pub returns-then-node_count-b : goal.returns-then-node_count-b
returns-then-node_count-b c = search_other _ _ _ _ _ c.scan_to-c.ensures _ c.read.ensures _ c.in-Ok.is c.requires (rw c.node_count.ensures.count at c.if-node_count-b.true) refl

pub returns : goal.returns
returns c = search_found _ _ _ _ _ c.scan_to-c.ensures _ c.read.ensures _ c.in-Ok.is c.if-b-a.false c.if-c-b.false c.if-to-width.false (rw c.node_count.ensures.count at c.if-node_count-b.false) refl
