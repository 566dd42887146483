-- The records of a deck that was put together from records are those.
use mathlib.Core.Path.{◌≡◌, refl, sym, ap, ap₂, ◌∙◌}
use mathlib.Core.List.{List, [], ◌∷◌, ◌++◌, map, flatten, append-nil, append_assoc}
use Prim.Native.Nat.{ℕ, zero, suc, ◌+◌, ◌*◌, ◌≤◌, ◌<◌}
use native.Mathlib.Nat.{add-zero, add_assoc}
use native.Mathlib.Omega.{arith}
use lib.ListN.{length, get_or, take, drop, length-append}
use lib.Seq.{get_or-append-add, split_at, length-take-le}
use lib.IntN.{ℤ, pos}
use lib.Signed.{mag}
use Rattle.seed.specs.Pairs.{pair_of}
use Rattle.deck.specs.Deck.{number16, number32, signed, SeedRecord, PairRecord, seed_record, pair_record, seed_count, zero_byte, pair_count, seed_records, pair_records}
use Rattle.plain.specs.Plain.{unsigned, bytes16, bytes32, seed_bytes, pair_bytes, deck_of_records, All}
use Rattle.deck.specs.Grounds.{Layout}
use Rattle.plain.specs.inner.Writing.{pair_part}
use Rattle.deck.proofs.Lists.{map_append, flatten_append, tab_elements}
use Rattle.plain.proofs.Scores.{signed_unsigned}
use Rattle.plain.proofs.Writing.{pair_part_length}
use Rattle.plain.proofs.PlainForm.{seed_bytes_length}

-- A record of a list, spelled in so many bytes each, in front of which stand some bytes.
module _ {A : Type 0} (spell : A → List ℕ) (front : List ℕ) (xs : List A) (back : List ℕ) where
  spelled_at : (i : ℕ) (x : A) → i < length xs → front ++ flatten (map spell xs) ++ back ≡ front ++ flatten (map spell (take i xs)) ++ (spell (get_or xs i x) ++ (flatten (map spell (drop (suc i) xs)) ++ back))
  unfolding flatten
  spelled_at i x h =
      ap (λ (l : List A). front ++ flatten (map spell l) ++ back) (split_at xs i x h)
      ∙ ap (λ (l : List ℕ). front ++ l ++ back) (ap flatten (map_append spell (take i xs) (get_or xs i x ∷ drop (suc i) xs)) ∙ flatten_append (map spell (take i xs)) (spell (get_or xs i x) ∷ map spell (drop (suc i) xs)))
      ∙ simp append_assoc

-- The numbers in a record's bytes.
score_back : (s : SeedRecord) (ys : List ℕ) → number16 (seed_bytes s ++ ys) 0 * 65536 + number16 (seed_bytes s ++ ys) 2 ≡ unsigned s.score
unfolding number16 seed_bytes bytes32 bytes16
score_back s ys = omega arith

first_back : (s : SeedRecord) (ys : List ℕ) → number16 (seed_bytes s ++ ys) 4 ≡ s.first
unfolding number16 seed_bytes bytes32 bytes16
first_back s ys = omega arith

next_back : (p : PairRecord) (ys : List ℕ) → number16 (pair_bytes p ++ ys) 2 ≡ p.next
unfolding number16 pair_bytes bytes16
next_back p ys = omega arith

-- Bytes that stand behind others.
number_behind : (xs zs : List ℕ) (j : ℕ) → number16 (xs ++ zs) (length xs + j) ≡ number16 zs j
unfolding number16
number_behind xs zs j = rw (get_or-append-add xs zs j 0, add_assoc (length xs) j 1, get_or-append-add xs zs (j + 1) 0)

number_next : (xs zs : List ℕ) → number16 (xs ++ zs) (length xs) ≡ number16 zs 0
number_next xs zs = ap (number16 (xs ++ zs)) (sym (add-zero (length xs))) ∙ number_behind xs zs 0

byte_next : (xs zs : List ℕ) → get_or (xs ++ zs) (length xs) 0 ≡ get_or zs 0 0
byte_next xs zs = ap (λ (j : ℕ). get_or (xs ++ zs) j 0) (sym (add-zero (length xs))) ∙ get_or-append-add xs zs 0 0

-- The record that stands behind some bytes.
seed_there : (xs : List ℕ) (s : SeedRecord) (ys : List ℕ) → mag s.score < 2147483648 → seed_record (xs ++ (seed_bytes s ++ ys)) (length xs) ≡ s
unfolding seed_record number32
seed_there xs s ys h =
    let zs = seed_bytes s ++ ys in
    rw (number_next xs zs, number_behind xs zs 2, number_behind xs zs 4)
    (ap₂ (λ (z : ℤ) (n : ℕ). record { score = z; first = n }) (ap signed (score_back s ys) ∙ signed_unsigned s.score h) (first_back s ys))

pair_there : (xs : List ℕ) (p : PairRecord) (ys : List ℕ) → pair_record (xs ++ (pair_bytes p ++ ys)) (length xs) ≡ p
unfolding pair_record pair_bytes
pair_there xs p ys =
    let zs = pair_bytes p ++ ys in
    rw (byte_next xs zs, get_or-append-add xs zs 1 0, number_behind xs zs 2)
    (ap (λ (n : ℕ). record { pair = p.pair; next = n }) (next_back p ys))

all_at : {A : Type 0} (P : A → Type 0) (l : List A) (i : ℕ) (d : A) → All P l → i < length l → P (get_or l i d)
all_at P [] i d a h = absurd (omega arith)
all_at P (x ∷ l) zero d a h = a.0
all_at P (x ∷ l) (suc i) d a h = all_at P l i d a.1 (omega arith)

module _ (ss : List SeedRecord) (ps : List PairRecord) where
  abbrev counts : List ℕ
  counts = length ss ∷ 0 ∷ bytes16 (length ps)

  pub seed_count_back : seed_count (deck_of_records ss ps) ≡ length ss
  unfolding seed_count deck_of_records
  seed_count_back = refl

  pub pair_count_back : pair_count (deck_of_records ss ps) ≡ length ps
  unfolding pair_count number16 deck_of_records bytes16
  pair_count_back = omega arith

  zero_back : zero_byte (deck_of_records ss ps) ≡ 0
  unfolding zero_byte deck_of_records
  zero_back = refl

  counts_size : length counts ≡ 4
  unfolding bytes16
  counts_size = refl

  front_size : (n : ℕ) → n ≤ length ss → length (counts ++ flatten (map seed_bytes (take n ss))) ≡ 4 + 6 * n
  front_size n h = length-append counts (flatten (map seed_bytes (take n ss))) ∙ omega (arith, counts_size, seed_bytes_length (take n ss), length-take-le n ss h)

  seeds_size : length (counts ++ flatten (map seed_bytes ss)) ≡ 4 + 6 * length ss
  seeds_size = length-append counts (flatten (map seed_bytes ss)) ∙ omega (arith, counts_size, seed_bytes_length ss)

  pairs_size : (qs : List PairRecord) → length (flatten (map pair_bytes qs)) ≡ 4 * length qs
  unfolding pair_part
  pairs_size qs = pair_part_length qs

  deck_length : length (deck_of_records ss ps) ≡ 4 + 6 * length ss + 4 * length ps
  unfolding deck_of_records
  deck_length = length-append (counts ++ flatten (map seed_bytes ss)) (flatten (map pair_bytes ps)) ∙ omega (arith, seeds_size, pairs_size ps)

  pub layout_back : length ss ≤ 64 → length ps ≤ 1024 → Layout (deck_of_records ss ps)
  layout_back a b =
      record {
        four = omega (arith, deck_length);
        seeds = rw seed_count_back a;
        zero = zero_back;
        pairs = rw pair_count_back b;
        exact = rw (seed_count_back, pair_count_back) deck_length;
      }

  seed_at_lem : (i : ℕ) (x : SeedRecord) → i < length ss → mag (get_or ss i x).score < 2147483648 → seed_record (deck_of_records ss ps) (4 + 6 * i) ≡ get_or ss i x
  unfolding deck_of_records
  seed_at_lem i x l f =
      ap₂ seed_record (spelled_at seed_bytes counts ss (flatten (map pair_bytes ps)) i x l) (sym (front_size i (omega arith)))
      ∙ seed_there (counts ++ flatten (map seed_bytes (take i ss))) (get_or ss i x) _ f

  pub seeds_back : All (λ (s : SeedRecord). mag s.score < 2147483648) ss → seed_records (deck_of_records ss ps) ≡ ss
  unfolding seed_records
  seeds_back f =
      let x : SeedRecord = record { score = pos 0; first = 0 } in
      tab_elements (seed_count (deck_of_records ss ps)) (λ i. seed_record (deck_of_records ss ps) (4 + 6 * i)) ss x (sym seed_count_back)
      (λ i l. let m : i < length ss = rw seed_count_back at l in seed_at_lem i x m (all_at (λ (s : SeedRecord). mag s.score < 2147483648) ss i x f m))

  pair_front_size : (i : ℕ) → i ≤ length ps → length (counts ++ flatten (map seed_bytes ss) ++ flatten (map pair_bytes (take i ps))) ≡ 4 + 6 * length ss + 4 * i
  pair_front_size i h = length-append (counts ++ flatten (map seed_bytes ss)) (flatten (map pair_bytes (take i ps))) ∙ omega (arith, seeds_size, pairs_size (take i ps), length-take-le i ps h)

  pair_at : (i : ℕ) (x : PairRecord) → i < length ps → pair_record (deck_of_records ss ps) (4 + 6 * length ss + 4 * i) ≡ get_or ps i x
  unfolding deck_of_records
  pair_at i x l =
      let front = counts ++ flatten (map seed_bytes ss) in
      ap₂ pair_record (sym (append-nil (front ++ flatten (map pair_bytes ps))) ∙ spelled_at pair_bytes front ps [] i x l) (sym (pair_front_size i (omega arith)))
      ∙ pair_there (front ++ flatten (map pair_bytes (take i ps))) (get_or ps i x) _

  pub pairs_back : pair_records (deck_of_records ss ps) ≡ ps
  unfolding pair_records
  pairs_back =
      let x : PairRecord = record { pair = pair_of 0 0; next = 0 } in
      tab_elements (pair_count (deck_of_records ss ps)) (λ i. pair_record (deck_of_records ss ps) (4 + 6 * seed_count (deck_of_records ss ps) + 4 * i)) ps x (sym pair_count_back)
      (λ i l. let m : i < length ps = rw pair_count_back at l in rw seed_count_back (pair_at i x m))
