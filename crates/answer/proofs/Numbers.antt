-- No two grounds have one number, so what an answer says is all of the answer.
use mathlib.Core.Path.{◌≡◌, refl, sym, ap, ap₂, ◌∙◌}
use Prim.Native.Nat.{ℕ}
use native.Mathlib.Omega.{arith}
use mathlib.Core.List.{List, [], ◌∷◌}
use lib.ListN.{get_or}
use Rattle.answer.specs.Answer.{number_of, said, Answer, Accepted, Refused}
use Rattle.answer.specs.declared.Ground.{Ground}
use Rattle.answer.specs.declared.Ground.TheVariants.{TextLength, UnknownByte, ClosesNothing, NeverClosed, DeckLayout, PairIndex, PairReachedTwice, PairNeverReached, NumberNotGiven, PresenceAsAsked, ScoreRange, NoPairs, SeedLimit, PairLimit, OutsideTree, NotRising, AncestryDiffers, LastNotAncestor, BorderUnpaired, ChangeLimit, ScratchShort, OutputShort, ScoreText, ClosesOtherKind, UnlikeNodes, QueueFull}

-- The grounds at their numbers; no ground has number 0 or 26 to 30.
abbrev grounds : List Ground
grounds = TextLength ∷ TextLength ∷ UnknownByte ∷ ClosesNothing ∷ NeverClosed ∷ DeckLayout ∷ PairIndex ∷ PairReachedTwice ∷ PairNeverReached ∷ NumberNotGiven ∷ PresenceAsAsked ∷ ScoreRange ∷ NoPairs ∷ SeedLimit ∷ PairLimit ∷ OutsideTree ∷ NotRising ∷ AncestryDiffers ∷ LastNotAncestor ∷ BorderUnpaired ∷ ChangeLimit ∷ ScratchShort ∷ OutputShort ∷ ScoreText ∷ ClosesOtherKind ∷ UnlikeNodes ∷ TextLength ∷ TextLength ∷ TextLength ∷ TextLength ∷ TextLength ∷ QueueFull ∷ []

abbrev ground_of : ℕ → Ground
ground_of n = get_or grounds n TextLength

numbered : (g : Ground) → ground_of (number_of g) ≡ g
numbered TextLength = refl
numbered UnknownByte = refl
numbered ClosesNothing = refl
numbered NeverClosed = refl
numbered DeckLayout = refl
numbered PairIndex = refl
numbered PairReachedTwice = refl
numbered PairNeverReached = refl
numbered NumberNotGiven = refl
numbered PresenceAsAsked = refl
numbered ScoreRange = refl
numbered NoPairs = refl
numbered SeedLimit = refl
numbered PairLimit = refl
numbered OutsideTree = refl
numbered NotRising = refl
numbered AncestryDiffers = refl
numbered LastNotAncestor = refl
numbered BorderUnpaired = refl
numbered ChangeLimit = refl
numbered ScratchShort = refl
numbered OutputShort = refl
numbered ScoreText = refl
numbered ClosesOtherKind = refl
numbered UnlikeNodes = refl
numbered QueueFull = refl

pub number_injective : (g h : Ground) → number_of g ≡ number_of h → g ≡ h
number_injective g h e = sym (numbered g) ∙ ap ground_of e ∙ numbered h

pub said_injective : (a b : Answer) → said a ≡ said b → a ≡ b
said_injective Accepted Accepted e = refl
said_injective Accepted (Refused h q) e = absurd (let z : ◌≡◌ {A = ℕ} 0 1 = cc in omega arith)
said_injective (Refused g p) Accepted e = absurd (let z : ◌≡◌ {A = ℕ} 0 1 = cc in omega arith)
said_injective (Refused g p) (Refused h q) e =
    let n : number_of g ≡ number_of h = cc in
    let m : p ≡ q = cc in
    ap₂ Refused (number_injective g h n) m
