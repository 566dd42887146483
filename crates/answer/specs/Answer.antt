-- The numbered grounds for turning a call down, and what an answer says by them.
use Rattle.std.specs.Prelude.{Bool, true, false, ℕ}
use Rattle.answer.specs.declared.Ground.{Ground}
use Rattle.answer.specs.declared.Ground.TheVariants.{TextLength, UnknownByte, ClosesNothing, NeverClosed, DeckLayout, PairIndex, PairReachedTwice, PairNeverReached, NumberNotGiven, PresenceAsAsked, ScoreRange, NoPairs, SeedLimit, PairLimit, OutsideTree, NotRising, AncestryDiffers, LastNotAncestor, BorderUnpaired, ChangeLimit, ScratchShort, OutputShort, ScoreText, ClosesOtherKind, UnlikeNodes, QueueFull}
use Rattle.answer.specs.declared.Place.{Place}

-- The number of a ground. The order in which a call meets its grounds is not that of their numbers: 24 comes after 4, and 25 between 15 and 16.
abbrev pub number_of : Ground → ℕ
-- A text has length above 255.
number_of TextLength = 1
-- A byte is neither unpaired nor a bracket.
number_of UnknownByte = 2
-- A closing bracket closes nothing.
number_of ClosesNothing = 3
-- An opening bracket is never closed.
number_of NeverClosed = 4
-- A deck is under 4 bytes, or its counts, zero byte or length break the layout.
number_of DeckLayout = 5
-- A seed's first index is 0, or an index is above K.
number_of PairIndex = 6
-- A walk reaches a pair record reached before.
number_of PairReachedTwice = 7
-- Some pair record is never reached.
number_of PairNeverReached = 8
-- A seed number was never given out.
number_of NumberNotGiven = 9
-- A withdrawn seed is withdrawn or a present one brought back.
number_of PresenceAsAsked = 10
-- A score is out of range.
number_of ScoreRange = 11
-- An added seed has no pairs.
number_of NoPairs = 12
-- The session has had 64 seeds.
number_of SeedLimit = 13
-- The pairs would pass 1,024.
number_of PairLimit = 14
-- A node number is not in its tree, or a run is not a stretch.
number_of OutsideTree = 15
-- The q or the t are not strictly rising.
number_of NotRising = 16
-- Ancestry differs between two pairs.
number_of AncestryDiffers = 17
-- The last pair is not an ancestor of all others.
number_of LastNotAncestor = 18
-- A border node is unpaired.
number_of BorderUnpaired = 19
-- The change count is 1,000,000 and the call would add to it.
number_of ChangeLimit = 20
-- The scratch is too short.
number_of ScratchShort = 21
-- The output is shorter than what is to be written.
number_of OutputShort = 22
-- A score text has another form, or stands for a score beyond the bounds.
number_of ScoreText = 23
-- A closing bracket has a partner of another kind.
number_of ClosesOtherKind = 24
-- A pair is of unlike nodes.
number_of UnlikeNodes = 25
-- A job is offered while 16 wait.
number_of QueueFull = 31

-- What a call answers: it is accepted, or refused on a ground at a place.
pub data Answer : Type 0 where
  Accepted : Answer
  Refused : Ground → Place → Answer

-- What an answer says in numbers: the call is accepted, or it is refused on the ground of this number at this place.
pub data Said : Type 0 where
  accepted : Said
  refused : ℕ → Place → Said

abbrev pub said : Answer → Said
said Accepted = accepted
said (Refused reason place) = refused (number_of reason) place

-- A ground is given if its condition holds; otherwise the later ones are looked at.
abbrev pub given : Bool → Ground → Place → Answer → Answer
given true g p later = Refused g p
given false g p later = later

abbrev pub unless : Answer → Answer → Answer
unless Accepted later = later
unless (Refused g p) later = Refused g p

-- What is chosen by an answer: the first if the call is accepted, the second if it is refused.
abbrev pub decide : {A : Type 0} → Answer → A → A → A
decide Accepted x y = x
decide (Refused g p) x y = y

-- Whether the call is accepted.
abbrev pub is_accepted : Answer → Bool
is_accepted answer = decide answer true false
