-- Every session was handed over by an opening or a later call, or is that of "." and "." beside a refusal: there are no others of this type.
use Rattle.chain.specs.Fields.{SessionFields}
use Rattle.chain.specs.View.{Sound}
use Rattle.chain.specs.declared.Session.TheInside.{Inside}

abbrev pub session_fields : Inside → SessionFields
session_fields a = record { q = a.q; t = a.t; table = a.table; changes = a.changes }

abbrev pub session_inside : SessionFields → Inside
session_inside s = record { q = s.q; t = s.t; table = s.table; changes = s.changes }

abbrev pub WasHanded : Inside → Type 0
WasHanded a = Sound (session_fields a)
