-- What the inner functions of adding ask of each other: a table with room for one seed more, and the table with it.
use Rattle.std.specs.Prelude.{◌≡◌, true, List, ℕ, ◌+◌, ◌≤◌, ◌<◌, length, set, ℤ}
use Rattle.std.proofs.Math.Seq.{paste}
use Rattle.table.specs.Table.{Laid}
use Rattle.table.specs.declared.Table.{Table}

abbrev pub with_seed : Table → List ℕ → List ℕ → ℤ → Table
with_seed t qs ts z = record {
  seeds = t.seeds + 1;
  pairs = t.pairs + length qs;
  qs = paste t.qs t.pairs qs (length qs);
  ts = paste t.ts t.pairs ts (length ts);
  bounds = set t.bounds (t.seeds + 1) (t.pairs + length qs);
  scores = set t.scores t.seeds z;
  present = set t.present t.seeds true;
}

-- There is room for one seed more, of as many q as t.
pub record SeedRoom (t : Table) (qs ts : List ℕ) : Type 0 where
  pub laid : Laid t
  pub some : 1 ≤ length qs
  pub even : length ts ≡ length qs
  pub seed_room : t.seeds < 64
  pub pair_room : t.pairs + length qs ≤ 1024
