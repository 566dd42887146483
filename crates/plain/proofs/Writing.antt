-- Bytes written one part after another are the parts in one, and the plain form is made of such parts.
use mathlib.Core.Path.{◌≡◌, refl, sym, ap, ◌∙◌}
use mathlib.Core.Bool.{Bool, true, false, cond}
use mathlib.Core.List.{List, [], ◌∷◌, ◌++◌, map, flatten, append_assoc}
use Prim.Native.Nat.{ℕ, zero, suc, ◌+◌, ◌*◌, ◌≤◌, ◌<◌}
use native.Mathlib.Numerals.{add-one}
use native.Mathlib.Omega.{arith}
use lib.ListN.{length, get_or, take, drop}
use lib.Seq.{sets, sets-eq, length-sets, length-take-le, take-suc, take_all}
use lib.Dec.{ltb}
use lib.IntN.{ℤ}
use borrow.Rule.Slice.PartMut.{put_mid}
use Rattle.std.proofs.lemmas.List.Edits.{paste_all}
use Rattle.std.proofs.lemmas.Slice.{put_mid-paste}
use Rattle.seed.specs.Pairs.{pair_of, pairs_of}
use Rattle.seed.specs.declared.Pair.{Pair}
use Rattle.deck.specs.Deck.{PairRecord}
use Rattle.plain.specs.Plain.{unsigned, bytes16, bytes32, seed_bytes, pair_bytes, plain_chain}
use Rattle.plain.specs.inner.Writing.{next_of, pair_part}
use Rattle.seed.proofs.PairLists.{count_first}
use Rattle.seed.proofs.Tabs.{length_tab, get_d_tab}
use Rattle.write.proofs.Sets.{sets_after}
use Rattle.deck.proofs.Lists.{map_append, flatten_append, flatten_more}

-- Bytes copied to a part of the output are stored there one after another.
pub copied : (l ys zs : List ℕ) (at k : ℕ) → ys ≡ zs → length zs ≡ k → at + length zs ≤ length l → put_mid at k l ys ≡ sets l at zs
copied l ys zs at k e n h =
    put_mid-paste at k l ys zs (length zs) e n refl
    ∙ paste_all l at zs (length zs) refl
    ∙ sym (sets-eq zs l at h ∙ append_assoc (take at l) zs (drop (at + length zs) l))

pub bytes16_length : (n : ℕ) → length (bytes16 n) ≡ 2
unfolding bytes16
bytes16_length n = refl

-- A seed record, written as its score and a number of 16 bits.
pub bytes32_length : (n : ℕ) → length (bytes32 n) ≡ 4
unfolding bytes32 bytes16
bytes32_length n = refl

pub seed_put : (l : List ℕ) (at : ℕ) (z : ℤ) (first : ℕ) {m1 m2 : List ℕ} → m1 ≡ sets l at (bytes32 (unsigned z)) → m2 ≡ sets m1 (at + 4) (bytes16 first) → m2 ≡ sets l at (seed_bytes (record { score = z; first = first }))
unfolding seed_bytes
seed_put l at z first a b = sets_after l at (bytes32 (unsigned z)) (bytes16 first) a b (omega (arith, bytes32_length (unsigned z)))

-- The bytes of records.
pub pair_part_append : (xs ys : List PairRecord) → pair_part (xs ++ ys) ≡ pair_part xs ++ pair_part ys
unfolding pair_part
pair_part_append xs ys = ap flatten (map_append pair_bytes xs ys) ∙ flatten_append (map pair_bytes xs) (map pair_bytes ys)

pair_part_more : (xs : List PairRecord) (p : PairRecord) → pair_part (xs ++ p ∷ []) ≡ pair_part xs ++ pair_bytes p
unfolding pair_part
pair_part_more xs p = ap flatten (map_append pair_bytes xs (p ∷ [])) ∙ flatten_more (map pair_bytes xs) (pair_bytes p)

pub pair_part_length : (xs : List PairRecord) → length (pair_part xs) ≡ 4 * length xs
unfolding pair_part flatten pair_bytes bytes16
pair_part_length [] = refl
pair_part_length (p ∷ xs) = omega (arith, pair_part_length xs)

-- The pair records of one seed.
pub chain_length : (k : ℕ) (ps : List Pair) → length (plain_chain k ps) ≡ length ps
unfolding plain_chain
chain_length k ps = length_tab (length ps) _

pub chain_at : (k : ℕ) (ps : List Pair) (i : ℕ) (r : PairRecord) → i < length ps → get_or (plain_chain k ps) i r ≡ record { pair = get_or ps i (pair_of 0 0); next = next_of k i (length ps) }
unfolding plain_chain
chain_at k ps i r h = get_d_tab (length ps) _ i r h

pairs_of_at : (qs ts : List ℕ) (i : ℕ) → length ts ≡ length qs → i < length qs → get_or (pairs_of qs ts) i (pair_of 0 0) ≡ pair_of (get_or qs i 0) (get_or ts i 0)
unfolding pairs_of
pairs_of_at [] ts i e h = absurd (omega arith)
pairs_of_at (q ∷ qs) [] i e h = absurd (omega arith)
pairs_of_at (q ∷ qs) (t ∷ ts) zero e h = refl
pairs_of_at (q ∷ qs) (t ∷ ts) (suc i) e h = pairs_of_at qs ts i (omega arith) (omega arith)

pub next_few : (k i n : ℕ) → i < n → next_of k i n ≤ k + n
next_few k i n h = go (ltb (i + 1) n)
  where
    go : (b : Bool) → cond b (k + i + 1) 0 ≤ k + n
    go true = omega arith
    go false = omega arith

-- One record more of the seed's that has these nodes.
module _ (k : ℕ) (qs ts : List ℕ) (same : length ts ≡ length qs) where
  abbrev chain : List PairRecord
  chain = plain_chain k (pairs_of qs ts)

  count_pairs : length (pairs_of qs ts) ≡ length qs
  count_pairs = count_first qs ts (omega arith)

  chain_size : length chain ≡ length qs
  chain_size = chain_length k (pairs_of qs ts) ∙ count_pairs

  abbrev record_at : ℕ → ℕ → PairRecord
  record_at j next = record { pair = pair_of (get_or qs j 0) (get_or ts j 0); next = next }

  chain_record : (j : ℕ) (r : PairRecord) → j < length qs → get_or chain j r ≡ record_at j (next_of k j (length qs))
  chain_record j r h = chain_at k (pairs_of qs ts) j r (rw count_pairs h) ∙ rw (pairs_of_at qs ts j same h, count_pairs)

  part_more : (j : ℕ) → j < length qs → pair_part (take (j + 1) chain) ≡ pair_part (take j chain) ++ pair_bytes (record_at j (next_of k j (length qs)))
  part_more j h =
      let r : PairRecord = record { pair = pair_of 0 0; next = 0 } in
      let l : j < length chain = rw chain_size h in
      ap (λ (x : ℕ). pair_part (take x chain)) (add-one j)
      ∙ ap pair_part (take-suc chain j r l)
      ∙ pair_part_more (take j chain) (get_or chain j r)
      ∙ ap (λ (p : PairRecord). pair_part (take j chain) ++ pair_bytes p) (chain_record j r h)

  pub chain_more : (l : List ℕ) (at j next : ℕ) {m n : List ℕ} → j < length qs → next ≡ next_of k j (length qs) → m ≡ sets l at (pair_part (take j chain)) → n ≡ sets m (at + 4 * j) (pair_bytes (record_at j next)) → n ≡ sets l at (pair_part (take (j + 1) chain))
  chain_more l at j next h f a b =
      let n : length (take j chain) ≡ j = length-take-le j chain (omega (arith, chain_size)) in
      let at_is : at + 4 * j ≡ at + length (pair_part (take j chain)) = omega (arith, pair_part_length (take j chain)) in
      sets_after l at (pair_part (take j chain)) _ a b at_is
      ∙ ap (sets l at) (ap (λ (x : ℕ). pair_part (take j chain) ++ pair_bytes (record_at j x)) f ∙ sym (part_more j h))

  pub chain_long : (l : List ℕ) (at j : ℕ) {m : List ℕ} → m ≡ sets l at (pair_part (take j chain)) → length m ≡ length l
  chain_long l at j a = ap length a ∙ length-sets l at (pair_part (take j chain))

  pub chain_all : (l : List ℕ) (at j : ℕ) {m : List ℕ} → length qs ≤ j → m ≡ sets l at (pair_part (take j chain)) → m ≡ sets l at (pair_part chain)
  chain_all l at j h a = a ∙ ap (λ (x : List PairRecord). sets l at (pair_part x)) (take_all j chain (omega (arith, chain_size)))
