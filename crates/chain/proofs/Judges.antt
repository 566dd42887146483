-- What the judges of seed numbers, presence and the change count answer, and what an accepted call knows.
use mathlib.Core.Path.{◌≡◌, refl, sym, ap, ◌∙◌}
use mathlib.Core.Bool.{Bool, true, false, not, beq}
use mathlib.Core.List.{List}
use Prim.Native.Nat.{ℕ, ◌-◌, ◌≤◌, ◌<◌}
use lib.ListN.{length, get_or}
use lib.IntN.{ℤ}
use lib.Dec.{leb}
use borrow.Author.Tests.{leb-true, leb-false, not-false}
use Rattle.answer.specs.Answer.{given, Answer, Accepted, Refused}
use Rattle.answer.specs.declared.Ground.{Ground}
use Rattle.answer.specs.declared.Ground.TheVariants.{NumberNotGiven, PresenceAsAsked}
use Rattle.answer.specs.declared.Place.{Place}
use Rattle.answer.specs.declared.Place.TheVariants.{Nothing}
use Rattle.answer.proofs.Given.{not_given}
use Rattle.answer.proofs.Denied.{denies}
use Rattle.answer.proofs.Tells.{both_true}
use Rattle.seed.specs.declared.Pair.{Pair}
use Rattle.table.specs.Rows.{no_row, given_out, row_of, with_row, with_presence, summary_of, in_range}
use Rattle.table.specs.Table.{rows_of}
use Rattle.table.specs.declared.Summary.{Summary}
use Rattle.table.specs.declared.Table.{Table}
use Rattle.table.proofs.Tables.{rows_length}
use Rattle.chain.specs.State.{State, changed, count_answer}
use Rattle.chain.specs.Acts.{add, rescore, of_number, add_answer, move_answer, rescore_answer, grounds, after, moving}

-- Two that are not alike are opposite.
beq_other : (a b : Bool) → beq a b ≡ false → a ≡ not b
beq_other true true e = e
beq_other true false e = refl
beq_other false true e = refl
beq_other false false e = sym e

-- A seed number that was given out.
pub record Given (seeds k : ℕ) : Type 0 where
  pub low : 1 ≤ k
  pub high : k ≤ seeds

pub given_out_lem : (seeds k : ℕ) → not (given_out seeds k) ≡ false → Given seeds k
unfolding given_out
given_out_lem seeds k e =
    let t = both_true (leb 1 k) (leb k seeds) (not-false (given_out seeds k) e) in
    record { low = leb-true 1 k t.0; high = leb-true k seeds t.1 }

pub count_room : (changes : ℕ) → count_answer changes ≡ Accepted → changes < 1000000
unfolding count_answer
count_room changes e = leb-false 1000000 changes (not_given _ _ _ _ e).0

-- Ground 9, by the table's field and by its rows.
pub number_refused : (t : Table) (k : ℕ) → given_out t.seeds k ≡ false → Refused NumberNotGiven Nothing ≡ given (not (given_out (length (rows_of t)) k)) NumberNotGiven Nothing Accepted
number_refused t k e = rw (rows_length t, e)

pub number_accepted : (t : Table) (k : ℕ) → given_out t.seeds k ≡ true → Accepted ≡ given (not (given_out (length (rows_of t)) k)) NumberNotGiven Nothing Accepted
number_accepted t k e = rw (rows_length t, e)

-- Ground 9 before others: it is given, or it is passed.
module _ (s : State) (k : ℕ) where
  pub number_first : {g : Ground} {p : Place} → Refused g p ≡ of_number s k Accepted → (later : Answer) → Refused g p ≡ of_number s k later
  number_first {g} {p} e later = go (not (given_out (length s.rows) k)) e
    where
      go : (b : Bool) → Refused g p ≡ given b NumberNotGiven Nothing Accepted → Refused g p ≡ given b NumberNotGiven Nothing later
      go true f = f
      go false f = absurd (denies {x = Refused g p} refl f)

  module _ (passed : Accepted ≡ of_number s k Accepted) where
    pub number_given_out : not (given_out (length s.rows) k) ≡ false
    number_given_out = (not_given _ _ _ _ (sym passed)).0

    pub number_known : Given (length s.rows) k
    number_known = given_out_lem (length s.rows) k number_given_out

    pub number_passed : (later : Answer) → later ≡ of_number s k later
    number_passed later = rw number_given_out

    -- Ground 10 of such a number, by what its row says.
    module _ (to : Bool) {row : Summary} (e : row ≡ summary_of (get_or s.rows (k - 1) no_row)) where
      as_asked : {b : Bool} → beq row.present to ≡ b → beq (row_of s.rows k).present to ≡ b
      unfolding row_of
      as_asked f = ap (λ (r : Summary). beq r.present to) (sym e) ∙ f

      pub presence_refused : beq row.present to ≡ true → Refused PresenceAsAsked Nothing ≡ move_answer s k to
      presence_refused f = rw (as_asked f) (number_passed _)

      pub presence_passed : beq row.present to ≡ false → count_answer s.changes ≡ move_answer s k to
      presence_passed f = rw (as_asked f) (number_passed _)

-- An accepted call passed the grounds of its own, and these are all that it must pass.
pub add_passed : (s : State) (ps : List Pair) (z : ℤ) → grounds s (add ps z) ≡ Accepted → add_answer s ps z ≡ Accepted
unfolding grounds
add_passed s ps z e = e

pub add_passes : (s : State) (ps : List Pair) (z : ℤ) → add_answer s ps z ≡ Accepted → grounds s (add ps z) ≡ Accepted
unfolding grounds
add_passes s ps z e = e

pub rescore_passed : (s : State) (k : ℕ) (z : ℤ) → grounds s (rescore k z) ≡ Accepted → rescore_answer s k z ≡ Accepted
unfolding grounds
rescore_passed s k z e = e

-- Withdrawing and bringing back, by what the seed is to be: what they answer, and what they leave.
pub by_moving : (s : State) (k : ℕ) (to : Bool) → move_answer s k to ≡ grounds s (moving k to)
unfolding grounds
by_moving s k true = refl
by_moving s k false = refl

pub after_moving : (s : State) (k : ℕ) (to : Bool) → changed s (with_row s.rows k (with_presence (row_of s.rows k) to)) ≡ after (moving k to) s
after_moving s k true = refl
after_moving s k false = refl

-- What an accepted rescoring and an accepted moving know.
pub record Rescorable (s : State) (k : ℕ) (z : ℤ) : Type 0 where
  pub number : Given (length s.rows) k
  pub ranged : in_range z ≡ true
  pub room : s.changes < 1000000

pub rescorable : (s : State) (k : ℕ) (z : ℤ) → rescore_answer s k z ≡ Accepted → Rescorable s k z
rescorable s k z e =
    let a = not_given _ _ _ _ e in
    let b = not_given _ _ _ _ a.1 in
    record { number = given_out_lem (length s.rows) k a.0; ranged = not-false (in_range z) b.0; room = count_room s.changes b.1 }

pub record Movable (s : State) (k : ℕ) (to : Bool) : Type 0 where
  pub number : Given (length s.rows) k
  pub was : (row_of s.rows k).present ≡ not to
  pub room : s.changes < 1000000

pub movable : (s : State) (k : ℕ) (to : Bool) → move_answer s k to ≡ Accepted → Movable s k to
movable s k to e =
    let a = not_given _ _ _ _ e in
    let b = not_given (beq (row_of s.rows k).present to) _ _ _ a.1 in
    record { number = given_out_lem (length s.rows) k a.0; was = beq_other (row_of s.rows k).present to b.0; room = count_room s.changes b.1 }
