-- The plain form of a deck: the bytes of present seeds, and what writing them promises.
use Rattle.std.specs.Prelude.{◌≡◌, Result, true, cond, ℕ, ◌+◌, ◌-◌, ◌/◌, ◌%◌, ◌≤◌, ◌<◌, length, get_or, ℤ, pos, negsuc, ltb}
use mathlib.Core.List.{List, [], ◌∷◌, ◌++◌, map, flatten}
use Rattle.std.specs.Int.Signed.{mag}
use Rattle.answer.specs.declared.Refusal.{Refusal}
use Rattle.write.specs.Wrote.{Wrote}
use Rattle.seed.specs.Tab.{tab}
use Rattle.seed.specs.Pairs.{pair_of}
use Rattle.seed.specs.declared.Pair.{Pair}
use Rattle.table.specs.Rows.{Row}
use Rattle.deck.specs.Deck.{SeedRecord, PairRecord, chains_of}

-- Two's complement of 32 bits: the number that stands for a score.
unfoldable pub unsigned : ℤ → ℕ
unsigned (pos n) = n
unsigned (negsuc n) = 4294967295 - n

-- The bytes of a number, of a record, and of a deck of such records.
unfoldable pub bytes16 : ℕ → List ℕ
bytes16 n = n / 256 ∷ n % 256 ∷ []

unfoldable pub bytes32 : ℕ → List ℕ
bytes32 n = bytes16 (n / 65536) ++ bytes16 (n % 65536)

unfoldable pub seed_bytes : SeedRecord → List ℕ
seed_bytes s = bytes32 (unsigned s.score) ++ bytes16 s.first

unfoldable pub pair_bytes : PairRecord → List ℕ
pair_bytes p = p.pair.q ∷ p.pair.t ∷ bytes16 p.next

unfoldable pub deck_of_records : List SeedRecord → List PairRecord → List ℕ
deck_of_records ss ps = (length ss ∷ 0 ∷ bytes16 (length ps)) ++ flatten (map seed_bytes ss) ++ flatten (map pair_bytes ps)

-- The plain form: the pair records of the seeds one after another, the first of them number k; next is one higher each time, and zero at a
-- seed's end.
unfoldable pub plain_chain : ℕ → List Pair → List PairRecord
plain_chain k ps = tab (length ps) (λ i. record { pair = get_or ps i (pair_of 0 0); next = cond (ltb (i + 1) (length ps)) (k + i + 1) 0 })

unfoldable pub plain_pairs : ℕ → List (List Pair) → List PairRecord
plain_pairs k [] = []
plain_pairs k (c ∷ cs) = plain_chain k c ++ plain_pairs (k + length c) cs

unfoldable pub plain_seeds : ℕ → List Row → List SeedRecord
plain_seeds k [] = []
plain_seeds k (r ∷ rs) = record { score = r.score; first = k } ∷ plain_seeds (k + length r.pairs) rs

unfoldable pub plain_of : List Row → List ℕ
plain_of rows = deck_of_records (plain_seeds 1 rows) (plain_pairs 1 (chains_of rows))

-- What writing the deck of these rows promises, of its result and of the output before and after.
abbrev pub WritesPlain : List Row → List ℕ → List ℕ → Result ℕ Refusal → Type 0
WritesPlain rows before after r = Wrote (plain_of rows) before after r

-- Each of the list has P.
abbrev pub All : {A : Type 0} → (A → Type 0) → List A → Type 0
All P [] = Unit {0}
All P (x ∷ xs) = P x × All P xs

-- Rows that a deck can hold: at most 64, each present, with a pair and a score of 32 bits, and at most 1,024 pairs in all.
pub record RowInLimits (r : Row) : Type 0 where
  pub some : 0 < length r.pairs
  pub score : mag r.score < 2147483648
  pub present : r.present ≡ true

pub record InLimits (rows : List Row) : Type 0 where
  pub seeds : length rows ≤ 64
  pub pairs : length (flatten (chains_of rows)) ≤ 1024
  pub each : All RowInLimits rows
