-- The worked examples, as rows of lists: what the definitions give, and what is wanted. First the starred ones, then those of texts without
-- structure, of WUSS characters, of nodes of each kind and of areas in both orders.
use Rattle.std.specs.Prelude.{◌≡◌, Bool, true, false, cond, List, [], ◌∷◌, map, ℕ, zero, suc, take, pos, negsuc, Result, Ok, Err}
use Rattle.answer.specs.Answer.{Said, said}
use Rattle.answer.specs.Answer.Said.{accepted, refused}
use Rattle.answer.specs.Refusal.{result_of}
use Rattle.answer.specs.declared.Place.TheVariants.{ByteInQ, ByteInT, Seed}
use Rattle.write.specs.Decimal.{bytes}
use Rattle.answer.specs.declared.Refusal.{Refusal}
use Rattle.tree.specs.Reading.{leaves_of, node_kinds_of}
use Rattle.tree.specs.declared.Tree.{Tree}
use Rattle.stretch.specs.Stretch.{check_of, part_of}
use Rattle.seed.specs.Seed.{qs, ts}
use Rattle.seed.specs.Tests.{paired}
use Rattle.seed.specs.Area.{Box}
use Rattle.seed.specs.AreaList.{bytes_of}
use Rattle.seed.specs.declared.Pair.{Pair}
use Rattle.area.specs.declared.Order.TheVariants.{RisingA, Paper}
use Rattle.best.specs.Best.{scratch_needed}
use Rattle.best.specs.declared.Best.{Best}
use Rattle.chain.specs.State.{State}
use Rattle.chain.specs.Acts.{Act, add, rescore, withdraw, best_chain, grounds, step, areas_of, areas_in, deck_of}
use Rattle.chain.specs.Opening.{opening, deck_opening}
use Rattle.chain.specs.Looking.{best_in}

-- A is `(.(.)).` and B is `(.)(.)`; A is Q and B is T.
abbrev pub A : List ℕ
A = bytes "(.(.))."

abbrev pub B : List ℕ
B = bytes "(.)(.)"

abbrev pub on_ab : State
on_ab = (opening A B).state

abbrev pub one : ℕ → ℕ → List Pair
one q t = record { q = q; t = t } ∷ []

abbrev pub two : ℕ → ℕ → ℕ → ℕ → List Pair
two q t u v = record { q = q; t = t } ∷ one u v

-- The state that a call leaves.
abbrev pub doing : State → Act → State
doing s act = step s act (grounds s act)

-- What an add says.
abbrev pub adding : State → List Pair → Said
adding s ps = said (grounds s (add ps (pos 0)))

-- The border nodes of a list in one tree that are not in it.
abbrev pub unpaired_from : List ℕ → List ℕ → ℕ → ℕ → List ℕ
unpaired_from l xs n zero = []
unpaired_from l xs n (suc more) = cond (paired l xs n) (unpaired_from l xs (suc n) more) (n ∷ unpaired_from l xs (suc n) more)

-- The total of the best chain and its numbers.
abbrev pub numbers_from : ℕ → List Bool → List ℕ
numbers_from n [] = []
numbers_from n (true ∷ bs) = n ∷ numbers_from (suc n) bs
numbers_from n (false ∷ bs) = numbers_from (suc n) bs

abbrev pub total_and_numbers : Result Best Refusal → List ℕ
total_and_numbers (Ok best) = best.total ∷ numbers_from 1 best.chain
total_and_numbers (Err refusal) = []

abbrev pub total_and_chain : State → List ℕ
total_and_chain s = total_and_numbers (result_of (grounds s (best_chain scratch_needed)) (best_in s))

-- The five seeds handed in, of which the second is turned down: the other four are numbered 1 to 4. Then seed 3 rescored to 4; then 2 withdrawn.
abbrev pub four_of_five : State → State
four_of_five s = doing (doing (doing (doing (doing s (add (one 2 1) (pos 3))) (add (one 4 3) (pos 2))) (add (one 1 0) (pos 1))) (add (one 3 1) (pos 3))) (add (one 0 2) (negsuc 0))

abbrev pub three_rescored : State
three_rescored = doing (four_of_five on_ab) (rescore 3 (pos 4))

abbrev pub two_withdrawn : State
two_withdrawn = doing three_rescored (withdraw 2)

-- An example: what the definitions give, and what is wanted.
pub data Example : Type 0 where
  says : Said → Said → Example
  lists : List ℕ → List ℕ → Example

abbrev pub starred : List Example
starred =
    lists (leaves_of on_ab.q) (0 ∷ 1 ∷ 1 ∷ 0 ∷ 4 ∷ 0 ∷ [])
    ∷ lists (leaves_of on_ab.t) (0 ∷ 0 ∷ 2 ∷ 2 ∷ 0 ∷ [])
    ∷ says (adding on_ab (two 2 0 5 4)) (refused 25 (Seed 1))
    ∷ says (adding on_ab (two 0 0 1 1)) (refused 25 (Seed 1))
    ∷ says (adding on_ab (two 0 0 4 2)) (refused 18 (Seed 1))
    ∷ says (adding on_ab (two 1 0 3 1)) accepted
    ∷ lists (bytes_of (areas_of (doing on_ab (add (two 3 1 5 4) (pos 0))) 1)) (0 ∷ 2 ∷ 0 ∷ 0 ∷ 4 ∷ 4 ∷ 2 ∷ 3 ∷ [])
    -- The stretches of the two areas.
    ∷ lists (part_of A 0 2) (bytes ".(.)")
    ∷ lists (part_of B 0 0) (bytes ".")
    ∷ lists (part_of A 4 4) (bytes ".")
    ∷ lists (part_of B 2 3) (bytes "(.)")
    ∷ lists (total_and_chain on_ab) (0 ∷ [])
    ∷ lists (total_and_chain (doing on_ab (add (one 2 1) (pos 0)))) (0 ∷ [])
    ∷ lists (total_and_chain (doing on_ab (add (one 2 1) (negsuc 0)))) (0 ∷ [])
    ∷ says (adding (doing on_ab (add (one 2 1) (pos 3))) (one 4 3)) (refused 25 (Seed 2))
    ∷ lists (total_and_chain (four_of_five on_ab)) (4 ∷ 1 ∷ 2 ∷ [])
    ∷ []

-- On two empty texts, with the seed (0, 0) of score 5, and with (0, 0) of score 7 besides; on an empty text and one with structure.
abbrev pub on_empty : State
on_empty = (opening [] []).state

abbrev pub one_on_empty : State
one_on_empty = doing on_empty (add (one 0 0) (pos 5))

abbrev pub two_on_empty : State
two_on_empty = doing one_on_empty (add (one 0 0) (pos 7))

abbrev pub on_empty_and : List ℕ → State
on_empty_and t = (opening [] t).state

abbrev pub on_empty_text : List Example
on_empty_text =
    says (said (opening [] []).answer) accepted
    ∷ lists (leaves_of on_empty.q) (0 ∷ [])
    ∷ says (adding on_empty (one 0 0)) accepted
    ∷ says (adding on_empty (one 1 0)) (refused 15 (Seed 1))
    ∷ says (adding on_empty (one 0 1)) (refused 15 (Seed 1))
    ∷ lists (total_and_chain one_on_empty) (5 ∷ 1 ∷ [])
    ∷ lists (bytes_of (areas_of one_on_empty 1)) []
    -- Both seeds take the only node.
    ∷ lists (total_and_chain two_on_empty) (7 ∷ 2 ∷ [])
    -- The deck of both, written and read back.
    ∷ lists (deck_of two_on_empty) (2 ∷ 0 ∷ 0 ∷ 2 ∷ 0 ∷ 0 ∷ 0 ∷ 5 ∷ 0 ∷ 1 ∷ 0 ∷ 0 ∷ 0 ∷ 7 ∷ 0 ∷ 2 ∷ 0 ∷ 0 ∷ 0 ∷ 0 ∷ 0 ∷ 0 ∷ 0 ∷ 0 ∷ [])
    ∷ says (said (deck_opening [] [] (deck_of two_on_empty)).answer) accepted
    ∷ lists (total_and_chain (deck_opening [] [] (deck_of two_on_empty)).state) (7 ∷ 2 ∷ [])
    -- The root alone and the dot of `.`, which are unlike, and the two roots.
    ∷ says (adding (on_empty_and (bytes ".")) (one 0 0)) (refused 25 (Seed 1))
    ∷ says (adding (on_empty_and (bytes ".")) (one 0 1)) accepted
    ∷ lists (bytes_of (areas_of (doing (on_empty_and (bytes "(.)")) (add (one 0 2) (pos 0))) 1)) []
    -- A refused opening hands over the trees of `.` all the same.
    ∷ lists (leaves_of (opening [] (bytes "(")).state.q) (0 ∷ 0 ∷ [])
    ∷ []

-- A text with all six unpaired characters and two kinds of brackets; A and B in other characters.
abbrev pub W : List ℕ
W = bytes "<<<___>>>,,(((...)))::~~--"

abbrev pub on_other : State
on_other = (opening (bytes "[:{_}]~") (bytes "<->(,)")).state

-- What the opening on a text says, with `.` as T.
abbrev pub reading_says : List ℕ → Said
reading_says q = said (opening q (bytes ".")).answer

abbrev pub in_wuss : List Example
in_wuss =
    says (reading_says (bytes "(<)")) (refused 4 (ByteInQ 0))
    ∷ says (reading_says (bytes "<)")) (refused 24 (ByteInQ 1))
    ∷ says (reading_says (bytes "(]")) (refused 24 (ByteInQ 1))
    ∷ says (reading_says (bytes "[(])")) (refused 24 (ByteInQ 2))
    ∷ says (reading_says (bytes "<(>)a")) (refused 2 (ByteInQ 4))
    ∷ says (reading_says (bytes ")<")) (refused 3 (ByteInQ 0))
    -- Q is judged by 24 before T is looked at.
    ∷ says (said (opening (bytes "<)") (bytes "(")).answer) (refused 24 (ByteInQ 1))
    ∷ says (said (opening (bytes "()") (bytes "[>")).answer) (refused 24 (ByteInT 1))
    ∷ says (said (check_of (bytes "<)") 0 0)) (refused 24 (ByteInQ 1))
    -- The stretches of a text are its own bytes.
    ∷ says (reading_says W) accepted
    ∷ lists (part_of W 0 5) (bytes "<<<___>>>")
    ∷ lists (part_of W 0 2) (bytes "___")
    ∷ lists (part_of W 6 13) (bytes ",,(((...)))")
    ∷ lists (part_of W 14 19) (bytes "::~~--")
    ∷ lists (part_of W 0 19) W
    -- The same nodes as A and B, and the same best chain.
    ∷ lists (leaves_of on_other.q) (leaves_of on_ab.q)
    ∷ lists (leaves_of on_other.t) (leaves_of on_ab.t)
    ∷ lists (total_and_chain (four_of_five on_other)) (4 ∷ 1 ∷ 2 ∷ [])
    ∷ []

-- The kinds of just the nodes of a tree; and a leaf that is a base pair against one that is an unpaired base.
abbrev pub node_kinds_in : Tree → List ℕ
node_kinds_in t = take t.n (node_kinds_of t)

abbrev pub on_pair_and_dot : State
on_pair_and_dot = (opening (bytes "()") (bytes ".")).state

abbrev pub of_each_kind : List Example
of_each_kind =
    lists (node_kinds_in on_ab.q) (0 ∷ 0 ∷ 1 ∷ 1 ∷ 0 ∷ 2 ∷ [])
    ∷ lists (node_kinds_in on_ab.t) (0 ∷ 1 ∷ 0 ∷ 1 ∷ 2 ∷ [])
    -- What the starred examples no longer cover.
    ∷ says (adding on_ab (two 0 0 2 1)) (refused 17 (Seed 1))
    ∷ says (adding on_ab (two 1 0 5 4)) (refused 19 (Seed 1))
    -- Q's node 3 is the unpaired one.
    ∷ lists (unpaired_from (leaves_of on_ab.q) (qs (two 1 0 5 4)) 0 6) (3 ∷ [])
    ∷ lists (unpaired_from (leaves_of on_ab.t) (ts (two 1 0 5 4)) 0 5) []
    -- 2 3 ties: without seed 1 it is the best chain.
    ∷ lists (total_and_chain (doing (four_of_five on_ab) (withdraw 1))) (4 ∷ 2 ∷ 3 ∷ [])
    ∷ lists (total_and_chain three_rescored) (5 ∷ 2 ∷ 3 ∷ [])
    ∷ lists (total_and_chain two_withdrawn) (4 ∷ 3 ∷ [])
    ∷ says (adding on_pair_and_dot (one 0 0)) (refused 25 (Seed 1))
    ∷ says (adding on_pair_and_dot (one 1 1)) accepted
    ∷ []

-- Areas in both orders. On `.(.).(.).` twice, the pairs (2,2) and (5,5) stand side by side under (7,7), with a gap on either side and
-- one between. On `.(.(.).).` twice, (3,3) stands under (5,5), which stands under (7,7): each of the upper two has a left gap and a right one.
abbrev pub same_twice : List ℕ → List Pair → State
same_twice q ps = doing (opening q q).state (add ps (pos 0))

abbrev pub side_by_side : State
side_by_side = same_twice (bytes ".(.).(.).") (record { q = 2; t = 2 } ∷ two 5 5 7 7)

abbrev pub one_in_another : State
one_in_another = same_twice (bytes ".(.(.).).") (record { q = 3; t = 3 } ∷ two 5 5 7 7)

-- Where the areas begin in Q.
abbrev pub beginnings : List Box → List ℕ
beginnings xs = map (λ (x : Box). x.a) xs

abbrev pub in_paper_order : List Example
in_paper_order =
    lists (beginnings (areas_in Paper side_by_side 1)) (1 ∷ 4 ∷ 6 ∷ 3 ∷ 0 ∷ [])
    ∷ lists (beginnings (areas_in RisingA side_by_side 1)) (0 ∷ 1 ∷ 3 ∷ 4 ∷ 6 ∷ [])
    ∷ lists (bytes_of (areas_in Paper side_by_side 1)) (1 ∷ 1 ∷ 1 ∷ 1 ∷ 4 ∷ 4 ∷ 4 ∷ 4 ∷ 6 ∷ 6 ∷ 6 ∷ 6 ∷ 3 ∷ 3 ∷ 3 ∷ 3 ∷ 0 ∷ 0 ∷ 0 ∷ 0 ∷ [])
    ∷ lists (beginnings (areas_in Paper one_in_another 1)) (2 ∷ 4 ∷ 1 ∷ 6 ∷ 0 ∷ [])
    ∷ lists (beginnings (areas_in RisingA one_in_another 1)) (0 ∷ 1 ∷ 2 ∷ 4 ∷ 6 ∷ [])
    -- The two areas of the starred seed are under one pair each, and stand alike in both orders.
    ∷ lists (bytes_of (areas_in Paper (doing on_ab (add (two 3 1 5 4) (pos 0))) 1)) (0 ∷ 2 ∷ 0 ∷ 0 ∷ 4 ∷ 4 ∷ 2 ∷ 3 ∷ [])
    ∷ []

-- Each holds: the two are the same.
abbrev pub Hold : List Example → Type 0
Hold [] = Unit {0}
Hold (says got wanted ∷ rest) = (got ≡ wanted) × Hold rest
Hold (lists got wanted ∷ rest) = (got ≡ wanted) × Hold rest
