-- How seeds stand to one another: the masks of those left of one and of those under it.
use Rattle.std.specs.Prelude.{◌≡◌, ℕ, ◌^◌, ◌<◌, ◌≤◌, Bool, true, cond, List, [], ◌∷◌, length, ◌≢◌, bit_or, slice_index}
use Rattle.seed.specs.AreaList.{left, under}
use Rattle.seed.specs.Pairs.{pair_of, pairs_of}
use Rattle.seed.specs.Seed.{last_pair}
use Rattle.seed.specs.declared.Pair.{Pair}
use Rattle.table.specs.Table.{nodes_of}
use Rattle.optimum.specs.Key.{mask_of, in_mask}
use Rattle.standing.specs.Standing.{number_at}
use Rattle.standing.specs.declared.stands.Stand.{Stand}
use Rattle.standing.specs.declared.stands.Masks.{Masks}

-- How seed s stands to seed u.
abbrev pub stand_of : List ℕ → List ℕ → List Pair → List Pair → Stand
stand_of Q T s u = record { left = left Q T s u; under = under Q T s u }

-- Which of the first n seeds stand left of seed u, and which under it.
unfoldable pub masks_of : List ℕ → List ℕ → (ℕ → List Pair) → List Pair → ℕ → Masks
masks_of Q T seed u n = record { left = mask_of (λ x. left Q T (seed x) u) n; under = mask_of (λ x. under Q T (seed x) u) n }

-- The pairs of seed i, and of the seed whose number a list has at k, from the arrays that hold them.
unfoldable pub pairs_by : List ℕ → List ℕ → List ℕ → ℕ → List Pair
pairs_by qs ts bounds i = pairs_of (nodes_of qs bounds i) (nodes_of ts bounds i)

abbrev pub seed_by : List ℕ → List ℕ → List ℕ → List ℕ → ℕ → List Pair
seed_by qs ts bounds numbers k = pairs_by qs ts bounds (number_at numbers k)

-- The last pair of each of the first m seeds of a list.
pub record Lasts (seed : ℕ → List Pair) (m : ℕ) (rq rt : List ℕ) : Type 0 where
  pub long_q : length rq ≡ 64
  pub long_t : length rt ≡ 64
  pub are : (k : ℕ) → k < m → pair_of (slice_index rq k) (slice_index rt k) ≡ last_pair (seed k)

-- A seed of one pair: the last pair of the seed at k.
abbrev pub alone : List ℕ → List ℕ → ℕ → List Pair
alone rq rt k = pair_of (slice_index rq k) (slice_index rt k) ∷ []

-- A mask, if it is on, with k and with the numbers of another mask.
unfoldable pub widened_by : ℕ → Bool → ℕ → ℕ → ℕ
widened_by mask on k more = cond on (bit_or (bit_or mask (2 ^ k)) more) mask

-- Two masks with the seed at k, as it stands, and with what its own masks tell of it.
abbrev pub masks_widened : Masks → Stand → ℕ → ℕ → ℕ → Masks
masks_widened m s k before below = record { left = widened_by m.left s.left k (bit_or before below); under = widened_by m.under s.under k below }

-- The masks of the first y seeds tell more of how seeds stand to u: what is left of a seed that stands left of u, or under it, is left of u; and
-- what is under a seed that stands under u is under u. None is both.
pub record Composed (Q T : List ℕ) (seed : ℕ → List Pair) (u : List Pair) (lefts unders : List ℕ) (y : ℕ) : Type 0 where
  pub lefts_long : y ≤ length lefts
  pub unders_long : y ≤ length unders
  pub left_left : (j k : ℕ) → k < y → in_mask (slice_index lefts k) j ≡ true → left Q T (seed k) u ≡ true → (j < y) × (left Q T (seed j) u ≡ true)
  pub under_left : (j k : ℕ) → k < y → in_mask (slice_index unders k) j ≡ true → left Q T (seed k) u ≡ true → (j < y) × (left Q T (seed j) u ≡ true)
  pub under_under : (j k : ℕ) → k < y → in_mask (slice_index unders k) j ≡ true → under Q T (seed k) u ≡ true → (j < y) × (under Q T (seed j) u ≡ true)
  pub never_both : (j : ℕ) → j < y → left Q T (seed j) u ≡ true → under Q T (seed j) u ≢ true

-- How left and under compose among the first m seeds.
pub record Lawful (Q T : List ℕ) (seed : ℕ → List Pair) (m : ℕ) : Type 0 where
  pub left_left : (x y z : ℕ) → x < m → y < m → z < m → left Q T (seed x) (seed y) ≡ true → left Q T (seed y) (seed z) ≡ true → left Q T (seed x) (seed z) ≡ true
  pub under_left : (x y z : ℕ) → x < m → y < m → z < m → under Q T (seed x) (seed y) ≡ true → left Q T (seed y) (seed z) ≡ true → left Q T (seed x) (seed z) ≡ true
  pub under_under : (x y z : ℕ) → x < m → y < m → z < m → under Q T (seed x) (seed y) ≡ true → under Q T (seed y) (seed z) ≡ true → under Q T (seed x) (seed z) ≡ true
  pub never_both : (x y : ℕ) → x < m → y < m → left Q T (seed x) (seed y) ≡ true → under Q T (seed x) (seed y) ≢ true

-- The masks of the first m seeds of a list: for each, of those before it.
pub record Related (Q T : List ℕ) (seed : ℕ → List Pair) (m : ℕ) (lefts unders : List ℕ) : Type 0 where
  pub lefts_long : length lefts ≡ 64
  pub unders_long : length unders ≡ 64
  pub are : (y : ℕ) → y < m → record { left = slice_index lefts y; under = slice_index unders y } ≡ masks_of Q T seed (seed y) y
