-- A row of pairs in memory: the array of a `PairList` as a local holds it, cut after its first pairs so that these can be lent, and joined again.
-- A walk by hand of `add_from` needed this; today's check proves that function alone, and nothing cites it.
use Prim.Native.Nat.{ℕ, zero, suc, ◌+◌}
use mathlib.Core.List.{[], ◌∷◌, List, map}
use lib.ListN.{take}
use seplogic.Ra.Ura.{Ura}
use base.Fraction.{full_share}
use package.mir.Syntax.{Ty, ty_array}
use package.mir.Val.{Val}
use base.Logic.{ent, sep}
use base.Fml.{Fml, ftrue, fsep, fat}
use types.Logic.{Logic, sem}
use types.Kit.{‵, ◌⊛◌, ◌$◌, ◌∵◌, !, qed, move, keep, drop, use1, use2, split, fsplit, fjoin, fpick, fpack, done}
use denote.RattleType.{RattleType}
use denote.Laws.{Is, shows}
use denote.Memory.{mem as lies, cell_at, part_at, part_of}
use denote.Shadow.{shadow}
use denote.Index.{row}
use denote.Array.{Array, each, array_vals, Array-Tells, Array-Makes}
use denote.Steps.{only, owned, nothing}
use denote.Struct.Steps.{spelt}
use denote.Struct.Laws as LL
use Rattle.seed.specs.declared.Pair.{Pair}
use Rattle.test_lent.specs.declared.PairList.{PairList}
use Rattle.seed.specs.contracts.Pair as T
use Rattle.seed.proofs.Pair.TheLaws as T'
use Rattle.test_lent.specs.contracts.PairList as F
use Rattle.test_lent.proofs.PairList.TheLaws as F'

abbrev pub fvals : PairList → List Val
fvals = LL.vals F.the_type F'.the_laws

abbrev pub pvals : Pair → List Val
pvals = LL.vals T.the_type T'.the_laws

-- the array as a type, and its MIR
abbrev pub Row : RattleType
Row = Array T.the_row 1025

abbrev pub row_ty : Ty
row_ty = ty_array T'.mir 1025

-- what is owned is the same, whether the structs of an array are held as tuples or as records
each_as : (xs : List Pair) (us : List Val) → shadow (each (T.the_field).row.Denot (T.the_field).row.own_val (map (T.the_field).into xs) us) → shadow (each Pair (T.the_row).own_val xs us)
each_as [] [] w = w
each_as [] (u ∷ us) w = absurd w
each_as (x ∷ xs) [] w = absurd w
each_as (x ∷ xs) (u ∷ us) w = (w.0, each_as xs us w.1)

-- the machine value of the field `pairs`, with its relation
abbrev pub aval : PairList → Val
aval d = (F'.the_laws).1.0.val d.pairs

pub is_at : (d : PairList) → Is F.the_row d (fvals d) → Is Row d.pairs (aval d ∷ [])
is_at d is = (LL.owed F.the_type F'.the_laws d _ is).1.0

module _ {M : Type 1} {𝓤 : Ura M} (𝓛 : Logic 𝓤) where
  -- a local that holds the array is an array that lies in memory, and back
  pub lie_in : (l : ℕ) (xs : List Pair) (v : Val) → Is Row xs (v ∷ []) → ent 𝓤 (sem 𝓛 (fat full_share row_ty l 0 v)) (sem 𝓛 (part_at Row full_share xs l 0))
  unfolding part_of
  lie_in l xs v is =
      qed 𝓛 (‵ (fat full_share row_ty l 0 v) ∷ []) ∵ use1 𝓛 (‵ (cell_at full_share Row.mir (v ∷ []) l 0)) (𝓛.laws.at_raw full_share row_ty l 0 v) $
      owned ! Row (Is Row) (Array-Makes 𝓛 T.the_row (LL.makes T.the_type T'.the_plain 𝓛) 1025) xs (v ∷ []) is $ move ! (1 ∷ 0 ∷ []) $ fjoin ! $
      fpack ! (List Val) (λ us. fsep (cell_at full_share Row.mir us l 0) (Row.own_val xs us)) (v ∷ []) $ done !

  pub lie_out : (l : ℕ) (xs : List Pair) → ent 𝓤 (sem 𝓛 (part_at Row full_share xs l 0)) (sem 𝓛 (fat full_share row_ty l 0 (only (array_vals pvals xs))))
  unfolding part_of
  lie_out l xs =
      qed 𝓛 (‵ (part_at Row full_share xs l 0) ∷ []) ∵ fpick ! (λ vs. fsplit ! $ spelt ! Row (Is Row) (shows 𝓛 Row) (array_vals pvals) (Array-Tells T.the_row pvals (LL.tells T.the_type T'.the_laws) 1025) full_share xs vs l 0 $
      use1 𝓛 (‵ (fat full_share row_ty l 0 (only (array_vals pvals xs)))) (𝓛.laws.raw_at full_share row_ty l 0 (only (array_vals pvals xs))) $ keep ! (0 ∷ []) $ done !)

  -- a row of elements is cut after its first k, and joined again
  abbrev size : ℕ
  size = (lies T.the_row).size

  abbrev pub after : ℕ → List Pair → ℕ → ℕ → Fml
  after zero xs b o = row T.the_row full_share xs b o
  after (suc k) [] b o = ftrue
  after (suc k) (x ∷ xs) b o = after k xs b (o + size)

  pub cuts : (k : ℕ) (xs : List Pair) (b o : ℕ) → ent 𝓤 (sem 𝓛 (row T.the_row full_share xs b o)) (sep 𝓤 (sem 𝓛 (row T.the_row full_share (take k xs) b o)) (sem 𝓛 (after k xs b o)))
  cuts zero xs b o = qed 𝓛 (‵ (row T.the_row full_share xs b o) ∷ []) ∵ nothing ! $ done !
  cuts (suc k) [] b o = qed 𝓛 (‵ ftrue ∷ []) ∵ nothing ! $ done !
  cuts (suc k) (x ∷ xs) b o =
      qed 𝓛 (‵ (row T.the_row full_share (x ∷ xs) b o) ∷ []) ∵ fsplit ! $ move ! (1 ∷ []) $ use1 𝓛 (‵ (row T.the_row full_share (take k xs) b (o + size)) ⊛ ‵ (after k xs b (o + size))) (cuts k xs b (o + size)) $
      split ! $ move ! (2 ∷ 0 ∷ []) $ fjoin ! $ done !

  pub joins : (k : ℕ) (xs : List Pair) (b o : ℕ) → ent 𝓤 (sep 𝓤 (sem 𝓛 (row T.the_row full_share (take k xs) b o)) (sem 𝓛 (after k xs b o))) (sem 𝓛 (row T.the_row full_share xs b o))
  joins zero xs b o = qed 𝓛 (‵ ftrue ∷ ‵ (row T.the_row full_share xs b o) ∷ []) ∵ drop ! $ done !
  joins (suc k) [] b o = qed 𝓛 (‵ ftrue ∷ ‵ ftrue ∷ []) ∵ drop ! $ done !
  joins (suc k) (x ∷ xs) b o =
      qed 𝓛 (‵ (row T.the_row full_share (x ∷ take k xs) b o) ∷ ‵ (after k xs b (o + size)) ∷ []) ∵ fsplit ! $ move ! (1 ∷ 2 ∷ []) $ use2 𝓛 (‵ (row T.the_row full_share xs b (o + size))) (joins k xs b (o + size)) $
      move ! (1 ∷ 0 ∷ []) $ fjoin ! $ done !
