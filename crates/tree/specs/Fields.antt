-- What a tree holds, as clauses see it: how many nodes, the leftmost leaf of each, and the kind of each below the added root.
use Rattle.std.specs.Prelude.{List, ℕ}

pub record Fields : Type 0 where
  pub n : ℕ
  pub left : List ℕ
  pub kinds : List ℕ
