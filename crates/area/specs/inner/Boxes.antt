-- Boxes of nodes whose gaps are the same: inner definitions of the code.
use Rattle.std.specs.Prelude.{Bool, not, ◌&&◌, List, ℕ, length, get_or, eqb}
use Rattle.seed.specs.Area.{Box}
use Rattle.seed.specs.AreaList.{box_row, boxes}

-- Two gaps are the same, and not 0.
unfoldable pub same_gap : ℕ → ℕ → Bool
same_gap x y = eqb x y && not (eqb x 0)

-- The nodes, by their gaps, whose gap is x; and the pairs of nodes of two trees whose gaps are the same.
unfoldable pub like : ℕ → List ℕ → ℕ → Bool
like x g i = same_gap x (get_or g i 0)

unfoldable pub meet : List ℕ → List ℕ → ℕ → ℕ → Bool
meet g h i = like (get_or g i 0) h

-- The box of such pairs that begins in row a, if one does; and those that begin in the rows below k.
unfoldable pub box_from : List ℕ → List ℕ → ℕ → List Box
box_from g h a = box_row (meet g h) (length g) (length h) a

unfoldable pub boxes_below : List ℕ → List ℕ → ℕ → List Box
boxes_below g h k = boxes (meet g h) (length g) (length h) k
