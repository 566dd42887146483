-- What reading a text must answer (document 01, "Structures as trees", grounds 1 to 4; document 02, b, ground 24).
use Rattle.std.specs.Prelude.{◌≡◌, Bool, true, cond, ℕ, suc, ◌+◌, ◌-◌, ◌≤◌, List, [], ◌∷◌, ◌++◌, map, length, get_or, set, take, replicate, eqb, ltb, Result, Ok, Err}
use Rattle.answer.specs.declared.Ground.{Ground}
use Rattle.answer.specs.declared.Ground.TheVariants.{TextLength, UnknownByte, ClosesNothing, NeverClosed, ClosesOtherKind}
use Rattle.answer.specs.declared.Place.TheVariants.{ByteInQ}
use Rattle.answer.specs.Answer.{Answer}
use Rattle.answer.specs.Answer as answer
use Rattle.character.specs.Character.{role_of, kind_of}
use Rattle.character.specs.declared.Role.{Role}
use Rattle.character.specs.declared.Role.TheVariants.{Unpaired, Opening, Closing, Refused}
use Rattle.tree.specs.Run.{Run, spell, size, lefts}
use Rattle.tree.specs.Run.Run.{end, dot, pair}
use Rattle.tree.specs.NodeKind.{kind_number, item_kinds}
use Rattle.tree.specs.NodeKind.NodeKind.{added_root}
use Rattle.tree.specs.declared.Tree.{Tree}
use Rattle.answer.specs.Refusal.{refusal_at}
use Rattle.tree.specs.declared.RefusedText.{RefusedText}

-- The bytes of a run mean what they stand for in it, whatever kind its brackets are of.
abbrev pub Meant : Run → Type 0
Meant end = Unit {0}
Meant (dot c r) = (role_of c ≡ Unpaired) × Meant r
Meant (pair o i c r) = (role_of o ≡ Opening) × Meant i × (role_of c ≡ Closing) × Meant r

-- The pairs of a run are each of one kind (document 02, b).
abbrev pub OneKind : Run → Type 0
OneKind end = Unit {0}
OneKind (dot c r) = OneKind r
OneKind (pair o i c r) = (kind_of o ≡ kind_of c) × OneKind i × OneKind r

-- A run spells a text of at most 255 bytes. The empty run spells the empty text (document 02, f).
pub record Spells (r : Run) (s : List ℕ) : Type 0 where
  pub bytes : s ≡ spell r
  pub meant : Meant r
  pub kinds : OneKind r
  pub few : length s ≤ 255

-- A text is accepted with its run, or refused on a ground at a byte.
pub data Reading : Type 0 where
  text_accepted : Run → Reading
  text_refused : Ground → ℕ → Reading

-- A call on one text names it Q.
abbrev pub text_answer : Reading → Answer
text_answer (text_accepted r) = answer.Accepted
text_answer (text_refused g k) = answer.Refused g (ByteInQ k)

-- The tree of a run: its nodes and the added root, their leftmost leaves, and the kinds of all but the root, which is the last; both with zeros up to
-- 256 numbers.
abbrev pub tree_of : Run → Tree
tree_of r = record { n = size r + 1; left = lefts r ++ replicate (255 - size r) 0; kinds = item_kinds r ++ replicate (256 - size r) 0 }

-- The run that the text "." spells: its tree stands beside a refusal.
abbrev pub single : Run
single = dot 46 end

-- What reading hands over: the tree, or the refusal with the tree of ".".
abbrev pub read_of : Reading → Result Tree RefusedText
read_of (text_accepted r) = Ok (tree_of r)
read_of (text_refused g k) = Err (record { refusal = refusal_at g (ByteInQ k); tree = tree_of single })

-- What reading answers.
abbrev pub read_answer : Result Tree RefusedText → Answer
read_answer (Ok t) = answer.Accepted
read_answer (Err refused) = answer.Refused refused.refusal.ground refused.refusal.place

-- The tree that is handed over: that of the text, or that of "." beside a refusal.
abbrev pub tree_in : Result Tree RefusedText → Tree
tree_in (Ok t) = t
tree_in (Err refused) = refused.tree

-- The leftmost leaves of a tree's nodes.
abbrev pub leaves_of : Tree → List ℕ
leaves_of t = take t.n t.left

-- The kinds of its nodes below the added root, by number.
abbrev pub kinds_below : Tree → List ℕ
kinds_below t = take (t.n - 1) t.kinds

-- The kinds of a tree's nodes, by number, that of the added root among them, which is the last; and the kind of node i.
abbrev pub node_kinds_of : Tree → List ℕ
node_kinds_of t = set t.kinds (t.n - 1) (kind_number added_root)

abbrev pub node_kind_at : Tree → ℕ → ℕ
node_kind_at t i = get_or (node_kinds_of t) i 0

-- A tree that a reading hands over.
pub record IsTree (t : Tree) : Type 0 where
  pub run : Run
  pub few : size run ≤ 255
  pub is : t ≡ tree_of run

-- A text written in dot-bracket form (document 01): what is unpaired as a dot, a bracket as a round one, and what is refused as byte 0, which is too.
abbrev pub form_byte : Role → ℕ
form_byte Unpaired = 46
form_byte Opening = 40
form_byte Closing = 41
form_byte Refused = 0

abbrev pub dot_bracket_of : List ℕ → List ℕ
dot_bracket_of s = map (λ (b : ℕ). form_byte (role_of b)) s

-- Reading a text, computed.

-- The runs that a text splits into at the closing bytes that close nothing in it. What follows the last run is the end of the text, an
-- opening byte that is never closed, or a refused byte.
pub data Runs : Type 0 where
  last : Run → Runs
  more : Run → ℕ → Runs → Runs

abbrev pub first : Runs → Run
first (last r) = r
first (more r c rs) = r

-- The runs of a text with one byte more in front.
abbrev pub onto : Role → ℕ → Runs → Runs
onto Unpaired x (last r) = last (dot x r)
onto Unpaired x (more r c rs) = more (dot x r) c rs
onto Opening x (last r) = last end
onto Opening x (more r c (last q)) = last (pair x r c q)
onto Opening x (more r c (more q d rs)) = more (pair x r c q) d rs
onto Closing x rs = more end x rs
onto Refused x rs = last end

abbrev pub runs : List ℕ → Runs
runs [] = last end
runs (c ∷ s) = onto (role_of c) c (runs s)

-- Where the first refused byte stands, or the text's length.
abbrev pub or_next : Role → ℕ → ℕ
or_next Unpaired n = suc n
or_next Opening n = suc n
or_next Closing n = suc n
or_next Refused n = 0

abbrev pub first_refused : List ℕ → ℕ
first_refused [] = 0
first_refused (c ∷ s) = or_next (role_of c) (first_refused s)

-- The length on which ground 1 turns a text down: above 255 (document 02, f, where 01 had 0 too).
unfoldable pub bad_length : ℕ → Bool
bad_length n = ltb 255 n

-- The ground at a byte that no run goes past.
abbrev pub ground_at : Role → Ground
ground_at Unpaired = NeverClosed
ground_at Opening = NeverClosed
ground_at Closing = ClosesNothing
ground_at Refused = NeverClosed

-- The run that a text begins with is all of it, or stops at a closing byte that closes nothing or an opening one that is never closed.
abbrev pub stopped : List ℕ → Run → Reading
stopped s r = cond (eqb (length (spell r)) (length s)) (text_accepted r) (text_refused (ground_at (role_of (get_or s (length (spell r)) 0))) (length (spell r)))

-- Grounds 2, 3 and 4, which are blind to the kinds of brackets.
abbrev pub blind_reading : List ℕ → Reading
blind_reading s = cond (ltb (first_refused s) (length s)) (text_refused UnknownByte (first_refused s)) (stopped s (first (runs s)))

-- Where the first closing bracket stands whose partner is of another kind, or the text's length: the text is passed byte by byte, with the kinds of
-- the brackets that are open, that of the last one first.
abbrev pub last_is : ℕ → List ℕ → Bool
last_is k [] = true
last_is k (o ∷ kinds) = eqb o k

abbrev pub without_last : List ℕ → List ℕ
without_last [] = []
without_last (o ∷ kinds) = kinds

abbrev pub pass_kind : Role → ℕ → List ℕ → (List ℕ → ℕ) → ℕ
pass_kind Unpaired k kinds rest = suc (rest kinds)
pass_kind Opening k kinds rest = suc (rest (k ∷ kinds))
pass_kind Closing k kinds rest = cond (last_is k kinds) (suc (rest (without_last kinds))) 0
pass_kind Refused k kinds rest = suc (rest kinds)

abbrev pub first_other_kind : List ℕ → List ℕ → ℕ
first_other_kind [] kinds = 0
first_other_kind (c ∷ s) kinds = pass_kind (role_of c) (kind_of c) kinds (first_other_kind s)

-- Ground 24, of a text that passed 2, 3 and 4.
abbrev pub with_kinds : List ℕ → Reading → Reading
with_kinds s (text_refused g k) = text_refused g k
with_kinds s (text_accepted r) = cond (ltb (first_other_kind s []) (length s)) (text_refused ClosesOtherKind (first_other_kind s [])) (text_accepted r)

unfoldable pub reading : List ℕ → Reading
reading s = cond (bad_length (length s)) (text_refused TextLength 0) (with_kinds s (blind_reading s))
