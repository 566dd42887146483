-- Every tree was read: what a text's reading hands over is all that there is of this type.
use Rattle.tree.specs.Fields.{Fields}
use Rattle.tree.specs.Reading.{IsTree}
use Rattle.tree.specs.declared.Tree.TheInside.{Inside}

abbrev pub fields_of : Inside → Fields
fields_of a = record { n = a.n; left = a.left; kinds = a.kinds }

abbrev pub inside_of : Fields → Inside
inside_of t = record { n = t.n; left = t.left; kinds = t.kinds }

abbrev pub WasRead : Inside → Type 0
WasRead a = IsTree (fields_of a)
