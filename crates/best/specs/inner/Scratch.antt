-- The table on the scratch: keys in banks of 64 totals and 64 masks, over items of which masks say what stands left of them and under them.
use Rattle.std.specs.Prelude.{◌≡◌, Bool, true, false, ◌&&◌, List, ℕ, ◌+◌, ◌≤◌, ◌<◌, T, ℤ, pos, length, get_or}
use Rattle.std.specs.Int.Bits.{bit_and}
use Rattle.optimum.specs.Key.{Key, empty, ◌⊕◌, better, seed_key, in_mask}
use Rattle.optimum.specs.inner.Table.{Items, Laws, Limited, max_below, KeysUnder, KeyRow, stored, Small}
use Rattle.best.specs.Best.{scratch_needed}
use Rattle.standing.specs.Standing.{number_at}
use Rattle.standing.specs.declared.Standing.{Standing}

-- The key at place k of the bank that begins at base.
abbrev pub key_at : List ℕ → ℕ → ℕ → Key
key_at xs base k = stored (get_or xs (base + k) 0) (get_or xs (base + 64 + k) 0)

-- Where the bank begins that has each item's key with the best chain under it, and where that of the row at hand does.
abbrev pub item_bank : ℕ
item_bank = 0

abbrev pub row_bank : ℕ
row_bank = 128

-- A mask has k and no number below k.
pub record Lowest (mask k : ℕ) : Type 0 where
  pub few : k < 64
  pub has : in_mask mask k ≡ true
  pub none : (j : ℕ) → j < k → in_mask mask j ≡ false

-- Item x is in the mask of item y.
abbrev pub marked : List ℕ → ℕ → ℕ → Bool
marked masks x y = in_mask (get_or masks y 0) x

-- The score of seed i from the array that holds it.
abbrev pub score_by : List ℤ → ℕ → ℤ
score_by scores i = get_or scores i (pos 0)

-- The seeds of a list as they stand, from the arrays that hold them.
abbrev pub standing_of : ℕ → List ℕ → List ℕ → List ℕ → Standing
standing_of count numbers lefts unders = record { count = count; numbers = numbers; lefts = lefts; unders = unders }

-- The items of a list of seeds, by the masks of each.
abbrev pub items_of : Standing → List ℤ → Items
items_of s scores = record { left = marked s.lefts; under = marked s.unders; worth = λ k. seed_key (score_by scores) (number_at s.numbers k) }

-- Of the items in a mask none is better in the row at hand than one that it is left of.
pub record RowRises (xs lefts : List ℕ) (mask : ℕ) : Type 0 where
  pub long : scratch_needed ≤ length xs
  pub reach : (k : ℕ) → T (in_mask mask k) → k < length lefts
  pub rises : (j k : ℕ) → T (in_mask mask j) → T (in_mask mask k) → T (marked lefts j k) → better (key_at xs row_bank j) (key_at xs row_bank k) ≡ key_at xs row_bank k

-- The entry of item k in the row of the items in a mask: its key with the best of the row left of it.
unfoldable pub entry_of : List ℕ → List ℕ → ℕ → ℕ → Key
entry_of xs lefts row k = key_at xs item_bank k ⊕ max_below (λ j. in_mask row j && marked lefts j k) (key_at xs row_bank) k

-- What an entry takes: the banks, a row that rises as far as it is filled, and that its numbers stay in bounds.
pub record EntryRoom (xs lefts : List ℕ) (row k : ℕ) : Type 0 where
  pub few : k < 64
  pub inside : k < length lefts
  pub before : (j : ℕ) → T (marked lefts j k) → j < k
  pub rising : RowRises xs lefts (bit_and row (get_or lefts k 0))
  pub small : (t m : ℕ) → entry_of xs lefts row k ≡ stored t m → Small t m

-- What a row over the first n items takes: the banks, lefts that rise, keys no worse than the empty chain's, and that each entry stays in
-- bounds, whatever fills the row by the recurrence.
pub record RowRoom (xs lefts : List ℕ) (row n : ℕ) : Type 0 where
  pub few : n ≤ 64
  pub lefts_long : n ≤ length lefts
  pub long : scratch_needed ≤ length xs
  pub before : (j k : ℕ) → k < n → T (marked lefts j k) → j < k
  pub clipped : (k : ℕ) → k < n → better empty (key_at xs item_bank k) ≡ key_at xs item_bank k
  pub small : (d : ℕ → Key) (k : ℕ) → k < n → T (in_mask row k) → KeyRow (marked lefts) (in_mask row) (key_at xs item_bank) d k → (t m : ℕ) → key_at xs item_bank k ⊕ max_below (λ j. in_mask row j && marked lefts j k) d k ≡ stored t m → Small t m

-- The scratch held xs and holds ys, with the row over the first n items, of which the best key is given.
pub record RowFilled (xs lefts : List ℕ) (row n : ℕ) (ys : List ℕ) (best : Key) : Type 0 where
  pub long : length ys ≡ length xs
  pub row_is : KeyRow (marked lefts) (in_mask row) (key_at xs item_bank) (key_at ys row_bank) n
  pub kept : (i : ℕ) → i < row_bank → get_or ys i 0 ≡ get_or xs i 0
  pub best_is : best ≡ max_below (in_mask row) (key_at ys row_bank) n

-- What the table takes: the laws of left and under, and numbers and scores in bounds.
pub record Posed (s : Standing) (scores : List ℤ) : Type 0 where
  pub lefts_long : s.count ≤ length s.lefts
  pub unders_long : s.count ≤ length s.unders
  pub numbers_long : s.count ≤ length s.numbers
  pub before : (j k : ℕ) → k < s.count → T (marked s.lefts j k) → j < k
  pub laws : Laws (items_of s scores) s.count
  pub limited : Limited 64 (score_by scores) (number_at s.numbers) (items_of s scores).worth s.count

-- The scratch held xs and holds ys, with the keys of the first n items.
pub record ItemsFilled (S : Items) (xs : List ℕ) (n : ℕ) (ys : List ℕ) : Type 0 where
  pub long : length ys ≡ length xs
  pub filled : KeysUnder S (key_at ys item_bank) n
