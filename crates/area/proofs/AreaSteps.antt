-- What one step of the code that lists areas does to its counts and searches.
use Rattle.std.proofs.Common.{Ok, Err}
use mathlib.Core.Path.{◌≡◌, refl, sym, ap, ◌∙◌}
use mathlib.Core.Bool.{Bool, true, false, not, cond, false≢true}
use mathlib.Core.Logic.{inl, inr}
use mathlib.Core.List.{List, [], ◌∷◌, ◌++◌}
use Prim.Native.Nat.{ℕ, zero, suc, ◌+◌, ◌*◌, ◌-◌, ◌≤◌, ◌<◌}
use native.Mathlib.Omega.{arith}
use native.Mathlib.Decide.{ℕ_discrete}
use native.Mathlib.Numerals.{add-one}
use lib.ListN.{length, get_or, length-append}
use lib.Dec.{eqb}
use lib.Seq.{sets}
use borrow.Author.Tests.{eq-eqb, ne_eqb, lt-ltb, le-ltb, le-leb, lt-leb}
use Rattle.answer.specs.declared.Ground.TheVariants.{OutputShort}
use Rattle.answer.specs.declared.Place.TheVariants.{Nothing}
use Rattle.answer.specs.Refusal.{refusal_at}
use Rattle.write.specs.Puts.{Puts, Room}
use Rattle.write.proofs.Puts.{puts_as, puts_none, puts_output, puts_length, puts_both, room_last}
use Rattle.write.proofs.Wrote.{output_all, output_none}
use Rattle.tree.proofs.Leaves.{lt_or_le}
use Rattle.seed.specs.Area.{Box}
use Rattle.seed.specs.AreaList.{first_below, last_below, column, box_at, begins, box_row, boxes, bytes_of}
use Rattle.area.specs.inner.Boxes.{same_gap, like, meet, box_from, boxes_below}
use Rattle.area.specs.Listed.{listed_of, ListedRight}

-- Two gaps compared.
pub meets_not : (x y : ℕ) → (x ≡ y → ⊥) → same_gap x y ≡ false
unfolding same_gap
meets_not x y h = rw (ne_eqb x y h)

pub meets_if : (x y : ℕ) → x ≡ y → same_gap x y ≡ not (eqb x 0)
unfolding same_gap
meets_if x y h = rw (eq-eqb x y h)

pub like_is : (x : ℕ) (g : List ℕ) (i : ℕ) → like x g i ≡ same_gap x (get_or g i 0)
unfolding like
like_is x g i = refl

meets_turned : (x y : ℕ) → same_gap x y ≡ same_gap y x
meets_turned x y =
    elim (ℕ_discrete x y) [
      | yes e ↦ rw e
      | no e ↦ meets_not x y e ∙ sym (meets_not y x (λ f. e (sym f)))
    ]

-- The nodes that fit node c of T are those with its gap.
column_like : (g h : List ℕ) (c : ℕ) → column (meet g h) c ≡ like (get_or h c 0) g
unfolding column meet like
column_like g h c = λ k i. meets_turned (get_or g i 0) (get_or h c 0) k

-- Whether a box begins in row a, whose first column is c.
module _ (g h : List ℕ) (a c : ℕ) where
  pub begins_out : length h ≤ c → begins (meet g h) (length h) a c ≡ false
  unfolding begins
  begins_out u = rw (le-ltb c (length h) u)

  pub begins_first : c < length h → a ≡ 0 → begins (meet g h) (length h) a c ≡ true
  unfolding begins
  begins_first u e = let z : a ≤ 0 = omega arith in rw (lt-ltb c (length h) u, le-ltb 0 a z)

  pub begins_by : c < length h → (a ≡ 0 → ⊥) → begins (meet g h) (length h) a c ≡ not (same_gap (get_or g (a - 1) 0) (get_or h c 0))
  unfolding begins meet like
  begins_by u e = let z : 0 < a = omega arith in rw (lt-ltb c (length h) u, lt-ltb 0 a z)

pub begins_in : (g h : List ℕ) (a c : ℕ) → begins (meet g h) (length h) a c ≡ true → c < length h
begins_in g h a c e = elim (lt_or_le c (length h)) [ inl u ↦ u | inr u ↦ absurd (false≢true (sym (begins_out g h a c u) ∙ e)) ]

-- The box of a row, where c is its first column.
module _ (g h : List ℕ) (a c : ℕ) (first : c ≡ first_below (like (get_or g a 0) h) (length h)) where
  pub row_none : begins (meet g h) (length h) a c ≡ false → box_from g h a ≡ []
  unfolding box_from box_row meet
  row_none e = rw (← first, e)

  row_one :
      (b d : ℕ)
      → begins (meet g h) (length h) a c ≡ true
      → b ≡ last_below (like (get_or h c 0) g) (length g)
      → d ≡ last_below (like (get_or g a 0) h) (length h)
      → box_from g h a ≡ record { a = a; b = b; c = c; d = d } ∷ []
  unfolding box_from box_row box_at meet
  row_one b d e eb ed = rw (← first, e, ed, eb, ← column_like g h c)

  pub row_skipped : {at : ℕ} {o : List ℕ} → Room (bytes_of (box_from g h a)) at o → begins (meet g h) (length h) a c ≡ false → Puts (bytes_of (box_from g h a)) at o o at
  unfolding bytes_of
  row_skipped room e = puts_none room (ap bytes_of (row_none e))

  module _ (e : begins (meet g h) (length h) a c ≡ true) where
    pub row_length : length (box_from g h a) ≡ 1
    row_length = ap length (row_one _ _ e refl refl)

    pub row_written :
        (b d : ℕ)
        → b ≡ last_below (like (get_or h c 0) g) (length g)
        → d ≡ last_below (like (get_or g a 0) h) (length h)
        → {at : ℕ} {o after : List ℕ} {next : ℕ}
        → Puts (a ∷ b ∷ c ∷ d ∷ []) at o after next
        → Puts (bytes_of (box_from g h a)) at o after next
    unfolding bytes_of
    row_written b d eb ed put = puts_as (ap bytes_of (sym (row_one b d e eb ed))) put

-- The bytes of boxes.
pub bytes_append : (xs ys : List Box) → bytes_of (xs ++ ys) ≡ bytes_of xs ++ bytes_of ys
unfolding bytes_of
bytes_append [] ys = refl
bytes_append (x ∷ xs) ys = ap (λ (r : List ℕ). x.a ∷ x.b ∷ x.c ∷ x.d ∷ r) (bytes_append xs ys)

pub bytes_length : (xs : List Box) → length (bytes_of xs) ≡ length xs * 4
unfolding bytes_of
bytes_length [] = refl
bytes_length (x ∷ xs) = omega (arith, bytes_length xs)

-- The boxes of the rows below a, and one row more.
module _ (g h : List ℕ) where
  pub below_next : (a : ℕ) → boxes_below g h (a + 1) ≡ boxes_below g h a ++ box_from g h a
  unfolding boxes_below box_from boxes
  below_next a = rw add-one

  from_few : (a : ℕ) → length (box_from g h a) ≤ 1
  unfolding box_from box_row
  from_few a = pick (begins (meet g h) (length h) a (first_below (meet g h a) (length h)))
    where
      pick : (b : Bool) → length (cond b (box_at (meet g h) (length g) (length h) a (first_below (meet g h a) (length h)) ∷ []) []) ≤ 1
      pick true = omega arith
      pick false = omega arith

  below_few : (a : ℕ) → length (boxes_below g h a) ≤ a
  unfolding boxes_below boxes box_from
  below_few zero = omega arith
  below_few (suc a) = omega (arith, length-append (boxes_below g h a) (box_from g h a), below_few a, from_few a)

  below_grow : (a n : ℕ) → a ≤ n → length (boxes_below g h a) ≤ length (boxes_below g h n)
  unfolding boxes_below boxes box_from
  below_grow a zero le = let z : a ≡ 0 = omega arith in rw z (omega arith)
  below_grow a (suc n) le =
      elim (lt_or_le n a) [
        | inl u ↦ let z : a ≡ suc n = omega arith in rw z (omega arith)
        | inr u ↦ omega (arith, below_grow a n u, length-append (boxes_below g h n) (box_from g h n))
      ]

  pub count_none : 0 ≡ length (boxes_below g h 0)
  unfolding boxes_below boxes
  count_none = refl

  pub count_small : (a k : ℕ) → k ≡ length (boxes_below g h a) → k ≤ a
  count_small a k e = omega (arith, below_few a)

  pub count_room : (a k r : ℕ) → k ≡ length (boxes_below g h a) → r ≡ length (box_from g h a) → k + r ≤ a + 1
  count_room a k r e f = omega (arith, below_few a, from_few a)

  pub count_next : (a k r : ℕ) → k ≡ length (boxes_below g h a) → r ≡ length (box_from g h a) → k + r ≡ length (boxes_below g h (a + 1))
  count_next a k r e f = omega (arith, ap length (below_next a), length-append (boxes_below g h a) (box_from g h a))

  pub count_all : (a n k : ℕ) → k ≡ length (boxes_below g h a) → a ≡ n → k ≡ length (boxes_below g h n)
  count_all a n k e f = e ∙ ap (λ (x : ℕ). length (boxes_below g h x)) f

-- The boxes of the rows below a are written.
pub write_start : (g h : List ℕ) {o : List ℕ} → Puts (bytes_of (boxes_below g h 0)) 0 o o 0
unfolding boxes_below boxes bytes_of
write_start g h = puts_none (record { fits = omega arith }) refl

module _ (g h : List ℕ) {o₀ : List ℕ} (room : Room (bytes_of (boxes_below g h (length g))) 0 o₀) (a : ℕ) {at : ℕ} {o : List ℕ} (put : Puts (bytes_of (boxes_below g h a)) 0 o₀ o at) where
  split : bytes_of (boxes_below g h (a + 1)) ≡ bytes_of (boxes_below g h a) ++ bytes_of (box_from g h a)
  split = ap bytes_of (below_next g h a) ∙ bytes_append (boxes_below g h a) (box_from g h a)

  -- What has room for all has room for those of the first rows.
  room_below : (n : ℕ) → n ≤ length g → Room (bytes_of (boxes_below g h n)) 0 o₀
  room_below n u = record { fits = omega (arith, room.fits, bytes_length (boxes_below g h n), bytes_length (boxes_below g h (length g)), below_grow g h n (length g) u) }

  module _ (u : a < length g) where
    pub write_room : Room (bytes_of (box_from g h a)) at o
    write_room = room_last (room_below (a + 1) (omega arith)) put split

    pub write_next : {after : List ℕ} {next : ℕ} → Puts (bytes_of (box_from g h a)) at o after next → Puts (bytes_of (boxes_below g h (a + 1))) 0 o₀ after next
    write_next = puts_both (room_below (a + 1) (omega arith)) put split

  pub write_length : a ≤ length g → length o ≡ length o₀
  write_length u = puts_length (room_below a u) put

  pub write_all : a ≡ length g → o ≡ sets o₀ 0 (bytes_of (boxes_below g h (length g)))
  write_all e = puts_output room (puts_as (ap (λ (n : ℕ). bytes_of (boxes_below g h n)) e) put)

-- The answer, by whether the output has room.
module _ (xs : List Box) (o : List ℕ) (k : ℕ) (e : k ≡ length xs) where
  pub list_refused : length o < k * 4 → ListedRight xs o (Err (refusal_at OutputShort Nothing)) o
  unfolding listed_of
  list_refused h =
      let g : length o < length (bytes_of xs) = omega (arith, bytes_length xs) in
      record { answer = rw (lt-leb _ _ g); output = output_none (bytes_of xs) o g }

  pub list_accepted : (after : List ℕ) → k * 4 ≤ length o → after ≡ sets o 0 (bytes_of xs) → ListedRight xs o (Ok k) after
  unfolding listed_of
  list_accepted after h f =
      let g : length (bytes_of xs) ≤ length o = omega (arith, bytes_length xs) in
      record { answer = rw (le-leb _ _ g, e); output = output_all (bytes_of xs) o g f }
