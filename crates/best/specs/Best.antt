-- The best chain of a table's seeds, on a lent scratch. Seeds are numbered from 0 here.
use Rattle.std.specs.Prelude.{◌≡◌, Bool, false, cond, List, ℕ, pos, nat_abs, length, get_or, replicate, ltb, Result, Ok, Err}
use Rattle.answer.specs.declared.Ground.TheVariants.{ScratchShort}
use Rattle.answer.specs.declared.Place.TheVariants.{Nothing}
use Rattle.tree.specs.Reading.{leaves_of}
use Rattle.tree.specs.declared.Tree.{Tree}
use Rattle.seed.specs.Chain.{Chainable}
use Rattle.seed.specs.AreaList.{chainable}
use Rattle.seed.specs.Tab.{tab}
use Rattle.table.specs.Rows.{Row, row_in}
use Rattle.table.specs.Table.{rows_of}
use Rattle.table.specs.declared.Table.{Table}
use Rattle.optimum.specs.Chain.{Seeds, total, IsBest}
use Rattle.optimum.specs.Key.{Key, seed_key, in_mask}
use Rattle.optimum.specs.Best as optimum
use Rattle.answer.specs.Refusal.{refusal_at}
use Rattle.answer.specs.declared.Refusal.{Refusal}
use Rattle.best.specs.declared.Best.{Best}

-- A scratch that has fewer numbers than this is refused on ground 21.
abbrev pub scratch_needed : ℕ
scratch_needed = 256

-- The seeds to choose from, of which two are chainable as the rule says it, not by a test.
abbrev pub seeds_of : List ℕ → List ℕ → List Row → Seeds
seeds_of Q T rows = record { count = length rows; present = λ i. (row_in rows i).present; score = λ i. (row_in rows i).score; Chainable = λ i j. Chainable Q T (row_in rows i).pairs (row_in rows j).pairs }

-- The seed numbers that an answer names.
abbrev pub named : Best → ℕ → Bool
named r i = get_or r.chain i false

-- An answer names the best chain and has its total.
pub record NamesBest (S : Seeds) (r : Best) : Type 0 where
  pub chain_best : IsBest S (named r)
  pub total_is : pos r.total ≡ total S (named r)

-- The best chain by trying all chains, computed, and what the call answers.

-- The key of the best chain of the present seeds of a table, by trying all chains.
unfoldable pub key_of : List ℕ → List ℕ → List Row → Key
key_of Q T rows = optimum.best (λ i j. chainable Q T (row_in rows i).pairs (row_in rows j).pairs) (seed_key (λ i. (row_in rows i).score)) (λ i. (row_in rows i).present) (length rows)

-- What is answered of a key: its total, and for each seed number whether the chain has it.
abbrev pub best_of_key : Key → Best
best_of_key k = record { total = nat_abs k.total; chain = tab 64 (in_mask k.mask) }

-- What is answered on a scratch of so many numbers.
unfoldable pub best_of : List ℕ → List ℕ → List Row → ℕ → Result Best Refusal
best_of Q T rows room = cond (ltb room scratch_needed) (Err (refusal_at ScratchShort Nothing)) (Ok (best_of_key (key_of Q T rows)))

-- A refused call leaves the scratch as it was, and an accepted one leaves all of it zero.
unfoldable pub scratch_after : List ℕ → List ℕ
scratch_after xs = cond (ltb (length xs) scratch_needed) xs (replicate (length xs) 0)

-- What the call promises of its answer and of the scratch, which held xs and holds ys.
pub record Answered (q t : Tree) (table : Table) (xs ys : List ℕ) (r : Result Best Refusal) : Type 0 where
  pub answer : r ≡ best_of (leaves_of q) (leaves_of t) (rows_of table) (length xs)
  pub scratch : ys ≡ scratch_after xs
