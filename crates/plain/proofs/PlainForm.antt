-- The plain form by its parts: one seed more, its length, and what writing the parts one after another leaves.
use mathlib.Core.Path.{◌≡◌, refl, sym, ap, ap₂, ◌∙◌}
use mathlib.Core.List.{List, [], ◌∷◌, ◌++◌, map, flatten, append-nil, append_assoc}
use Prim.Native.Nat.{ℕ, suc, ◌+◌, ◌*◌, ◌≤◌, ◌<◌}
use native.Mathlib.Nat.{add-zero}
use native.Mathlib.Omega.{arith}
use lib.ListN.{length, length-append}
use lib.Seq.{sets}
use Rattle.std.specs.Prelude.{Ok, Err}
use Rattle.answer.specs.Refusal.{refusal_at}
use Rattle.answer.specs.declared.Ground.TheVariants.{OutputShort}
use Rattle.answer.specs.declared.Place.TheVariants.{Nothing}
use Rattle.seed.specs.declared.Pair.{Pair}
use Rattle.table.specs.Rows.{Row}
use Rattle.deck.specs.Deck.{SeedRecord, PairRecord, chains_of}
use Rattle.deck.proofs.Lists.{map_append, flatten_more}
use Rattle.write.proofs.Sets.{sets_after}
use Rattle.write.proofs.Wrote.{wrote_none, wrote_all}
use Rattle.plain.specs.Plain.{bytes16, bytes32, seed_bytes, plain_chain, plain_pairs, plain_seeds, deck_of_records, plain_of, WritesPlain}
use Rattle.plain.specs.inner.Writing.{size_of, seed_part, pair_part}
use Rattle.plain.specs.declared.size.Size.{Size}
use Rattle.plain.proofs.Writing.{chain_length, pair_part_length}

-- The seed records and the pair records with one seed more.
pub seeds_append : (k : ℕ) (rs qs : List Row) → plain_seeds k (rs ++ qs) ≡ plain_seeds k rs ++ plain_seeds (k + length (flatten (chains_of rs))) qs
unfolding plain_seeds flatten
seeds_append k [] qs = rw (add-zero k)
seeds_append k (r ∷ rs) qs =
    let e : k + length r.pairs + length (flatten (chains_of rs)) ≡ k + length (r.pairs ++ flatten (chains_of rs)) = omega (arith, length-append r.pairs (flatten (chains_of rs))) in
    ap (λ (l : List SeedRecord). record { score = r.score; first = k } ∷ l)
    (seeds_append (k + length r.pairs) rs qs ∙ ap (λ (m : ℕ). plain_seeds (k + length r.pairs) rs ++ plain_seeds m qs) e)

pub pairs_append : (k : ℕ) (cs bs : List (List Pair)) → plain_pairs k (cs ++ bs) ≡ plain_pairs k cs ++ plain_pairs (k + length (flatten cs)) bs
unfolding plain_pairs flatten
pairs_append k [] bs = rw (add-zero k)
pairs_append k (c ∷ cs) bs =
    let e : k + length c + length (flatten cs) ≡ k + length (c ++ flatten cs) = omega (arith, length-append c (flatten cs)) in
    ap (λ (l : List PairRecord). plain_chain k c ++ l) (pairs_append (k + length c) cs bs ∙ ap (λ (m : ℕ). plain_pairs (k + length c) cs ++ plain_pairs m bs) e)
    ∙ sym (append_assoc (plain_chain k c) (plain_pairs (k + length c) cs) (plain_pairs (k + length (c ++ flatten cs)) bs))

seeds_more : (k : ℕ) (rs : List Row) (r : Row) → plain_seeds k (rs ++ r ∷ []) ≡ plain_seeds k rs ++ (record { score = r.score; first = k + length (flatten (chains_of rs)) } ∷ [])
unfolding plain_seeds
seeds_more k rs r = seeds_append k rs (r ∷ [])

pub pairs_more : (k : ℕ) (cs : List (List Pair)) (c : List Pair) → plain_pairs k (cs ++ c ∷ []) ≡ plain_pairs k cs ++ plain_chain (k + length (flatten cs)) c
unfolding plain_pairs
pairs_more k cs c = pairs_append k cs (c ∷ []) ∙ ap (λ (l : List PairRecord). plain_pairs k cs ++ l) (append-nil (plain_chain (k + length (flatten cs)) c))

pub seeds_count : (k : ℕ) (rs : List Row) → length (plain_seeds k rs) ≡ length rs
unfolding plain_seeds
seeds_count k [] = refl
seeds_count k (r ∷ rs) = ap suc (seeds_count (k + length r.pairs) rs)

pub pairs_count : (k : ℕ) (cs : List (List Pair)) → length (plain_pairs k cs) ≡ length (flatten cs)
unfolding plain_pairs flatten
pairs_count k [] = refl
pairs_count k (c ∷ cs) = length-append (plain_chain k c) (plain_pairs (k + length c) cs) ∙ ap₂ (λ (x y : ℕ). x + y) (chain_length k c) (pairs_count (k + length c) cs) ∙ sym (length-append c (flatten cs))

pub seed_bytes_length : (ss : List SeedRecord) → length (flatten (map seed_bytes ss)) ≡ 6 * length ss
unfolding flatten seed_bytes bytes32 bytes16
seed_bytes_length [] = refl
seed_bytes_length (s ∷ ss) = omega (arith, seed_bytes_length ss)

pub seed_part_length : (rows : List Row) → length (seed_part rows) ≡ 6 * length rows
unfolding seed_part
seed_part_length rows = seed_bytes_length (plain_seeds 1 rows) ∙ ap (λ (n : ℕ). 6 * n) (seeds_count 1 rows)

pub seed_part_more : (rs : List Row) (r : Row) → seed_part (rs ++ r ∷ []) ≡ seed_part rs ++ seed_bytes (record { score = r.score; first = 1 + length (flatten (chains_of rs)) })
unfolding seed_part
seed_part_more rs r =
    ap (λ (l : List SeedRecord). flatten (map seed_bytes l)) (seeds_more 1 rs r)
    ∙ ap flatten (map_append seed_bytes (plain_seeds 1 rs) _)
    ∙ flatten_more (map seed_bytes (plain_seeds 1 rs)) _

-- The four bytes of the counts.
abbrev pub counts : ℕ → ℕ → List ℕ
counts s k = s ∷ 0 ∷ bytes16 k

pub plain_parts : (rows : List Row) → plain_of rows ≡ counts (length rows) (length (flatten (chains_of rows))) ++ seed_part rows ++ pair_part (plain_pairs 1 (chains_of rows))
unfolding plain_of deck_of_records seed_part pair_part
plain_parts rows = rw (seeds_count 1 rows, pairs_count 1 (chains_of rows))

counts_length : (s k : ℕ) → length (counts s k) ≡ 4
unfolding bytes16
counts_length s k = refl

front_length : (s k : ℕ) (rows : List Row) → length (counts s k ++ seed_part rows) ≡ 4 + 6 * length rows
front_length s k rows = length-append (counts s k) (seed_part rows) ∙ ap₂ (λ (x y : ℕ). x + y) (counts_length s k) (seed_part_length rows)

pub plain_length : (rows : List Row) → length (plain_of rows) ≡ 4 + 6 * length rows + 4 * length (flatten (chains_of rows))
plain_length rows =
    let k = length (flatten (chains_of rows)) in
    ap length (plain_parts rows)
    ∙ length-append (counts (length rows) k ++ seed_part rows) (pair_part (plain_pairs 1 (chains_of rows)))
    ∙ ap₂ (λ (x y : ℕ). x + y) (front_length (length rows) k rows) (pair_part_length (plain_pairs 1 (chains_of rows)) ∙ ap (λ (n : ℕ). 4 * n) (pairs_count 1 (chains_of rows)))

module _ (rows : List Row) (size : Size) (is : size ≡ size_of rows) where
  seeds_is : size.seeds ≡ length rows
  seeds_is = ap (λ (z : Size). z.seeds) is

  pairs_is : size.pairs ≡ length (flatten (chains_of rows))
  pairs_is = ap (λ (z : Size). z.pairs) is

  length_is : 4 + 6 * size.seeds + 4 * size.pairs ≡ length (plain_of rows)
  length_is = omega (arith, seeds_is, pairs_is, plain_length rows)

  pub writes_none : (out : List ℕ) → length out < 4 + 6 * size.seeds + 4 * size.pairs → WritesPlain rows out out (Err (refusal_at OutputShort Nothing))
  writes_none out h = wrote_none (plain_of rows) out (omega (arith, length_is))

  one_piece : (out m1 m2 m3 : List ℕ) → m1 ≡ sets out 0 (counts size.seeds size.pairs) → m2 ≡ sets m1 4 (seed_part rows) → m3 ≡ sets m2 (4 + 6 * size.seeds) (pair_part (plain_pairs 1 (chains_of rows))) → m3 ≡ sets out 0 (plain_of rows)
  one_piece out m1 m2 m3 a b c =
      let front = sets_after out 0 (counts size.seeds size.pairs) (seed_part rows) a b (omega (arith, counts_length size.seeds size.pairs)) in
      sets_after out 0 (counts size.seeds size.pairs ++ seed_part rows) (pair_part (plain_pairs 1 (chains_of rows))) front c (omega (arith, seeds_is, front_length size.seeds size.pairs rows))
      ∙ ap (sets out 0) (ap₂ (λ (s k : ℕ). counts s k ++ seed_part rows ++ pair_part (plain_pairs 1 (chains_of rows))) seeds_is pairs_is ∙ sym (plain_parts rows))

  pub writes_all : (out m1 m2 m3 : List ℕ) → 4 + 6 * size.seeds + 4 * size.pairs ≤ length out → m1 ≡ sets out 0 (counts size.seeds size.pairs) → m2 ≡ sets m1 4 (seed_part rows) → m3 ≡ sets m2 (4 + 6 * size.seeds) (pair_part (plain_pairs 1 (chains_of rows))) → WritesPlain rows out m3 (Ok (4 + 6 * size.seeds + 4 * size.pairs))
  writes_all out m1 m2 m3 h a b c = wrote_all (plain_of rows) out m3 _ length_is (omega (arith, length_is)) (one_piece out m1 m2 m3 a b c)
