-- What a session holds, as clauses see it.
use Rattle.std.specs.Prelude.{ℕ}
use Rattle.tree.specs.declared.Tree.{Tree}
use Rattle.table.specs.declared.Table.{Table}

pub record SessionFields : Type 0 where
  pub q : Tree
  pub t : Tree
  pub table : Table
  pub changes : ℕ
