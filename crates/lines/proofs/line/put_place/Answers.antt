-- `line::put_place`: each arm knows which place it has.
use Rattle.std.proofs.Common.{ap, arith}
use Rattle.write.proofs.Puts.{puts_none}
use Rattle.lines.specs.Lines.{place_words}
use Rattle.lines.proofs.line.put_place.Goals as goal

pub put_numbered-requires : goal.put_numbered-requires
unfolding place_words
put_numbered-requires c = let room = rw c.in-ByteInQ.is at c.requires in record { fits = omega (arith, room) }

pub put_numbered-requires-in-ByteInT : goal.put_numbered-requires-in-ByteInT
unfolding place_words
put_numbered-requires-in-ByteInT c = let room = rw c.in-ByteInT.is at c.requires in record { fits = omega (arith, room) }

pub put_numbered-requires-in-Seed : goal.put_numbered-requires-in-Seed
unfolding place_words
put_numbered-requires-in-Seed c = let room = rw c.in-Seed.is at c.requires in record { fits = omega (arith, room) }

pub returns-in-ByteInQ : goal.returns-in-ByteInQ
unfolding place_words
returns-in-ByteInQ c = rw c.in-ByteInQ.is c.put_numbered.ensures

pub returns-in-ByteInT : goal.returns-in-ByteInT
unfolding place_words
returns-in-ByteInT c = rw c.in-ByteInT.is c.put_numbered-in-ByteInT.ensures

pub returns-in-Seed : goal.returns-in-Seed
unfolding place_words
returns-in-Seed c = rw c.in-Seed.is c.put_numbered-in-Seed.ensures

pub returns-in-Nothing : goal.returns-in-Nothing
unfolding place_words
returns-in-Nothing c = puts_none c.requires (ap place_words c.in-Nothing.is)
