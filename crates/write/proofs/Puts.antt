-- Bytes put one after another from a place of an output on, where there is room for them.
use mathlib.Core.Path.{◌≡◌, refl, sym, ap, ap₂, subst, ◌∙◌}
use mathlib.Core.Bool.{Bool, true, false}
use mathlib.Core.List.{List, [], ◌++◌}
use Prim.Native.Nat.{ℕ, ◌+◌, ◌-◌, ◌≤◌, ◌<◌}
use lib.Dec.{leb}
use native.Mathlib.Omega.{arith}
use lib.ListN.{length, length-append}
use lib.Seq.{sets, sets-eq, length-sets, paste, take-length}
use borrow.Author.Tests.{le-leb, lt-leb, leb-true, leb-false}
use Rattle.write.specs.Puts.{put_of, behind_of, Puts, Room}
use Rattle.write.proofs.Sets.{sets_append, sets_after}

-- So many bytes fit behind a place that is within.
pub room_behind : (at size room : ℕ) → at ≤ room → leb size (room - at) ≡ leb (at + size) room
room_behind at size room h = go (leb size (room - at)) refl
  where
    go : (b : Bool) → leb size (room - at) ≡ b → b ≡ leb (at + size) room
    go true e = sym (le-leb (at + size) room (omega (arith, leb-true size (room - at) e)))
    go false e = sym (lt-leb (at + size) room (omega (arith, leb-false size (room - at) e)))

-- Without room nothing is put.
pub puts_not : (bytes : List ℕ) (at : ℕ) (out : List ℕ) → length out < at + length bytes → Puts bytes at out out at
unfolding put_of behind_of
puts_not bytes at out h = record { leaves = rw (lt-leb _ _ h); behind = rw (lt-leb _ _ h) }

-- A word that was copied whole is put.
pub puts_word : (word : List ℕ) (at : ℕ) (out : List ℕ) (i : ℕ) {after : List ℕ} → at + length word ≤ length out → i ≡ length word → after ≡ paste out at word i → Puts word at out after (at + i)
unfolding put_of behind_of
puts_word word at out i h e f = record { leaves = f ∙ rw (e, le-leb _ _ h, take-length word); behind = rw (e, le-leb _ _ h) }

-- Bytes that are the same are put alike.
pub puts_as : {a b : List ℕ} {at : ℕ} {out after : List ℕ} {next : ℕ} → a ≡ b → Puts a at out after next → Puts b at out after next
puts_as {at = at} {out = out} {after = after} {next = next} e = subst (λ (bytes : List ℕ). Puts bytes at out after next) e

-- With room the bytes are stored there, and the place behind them is answered.
module _ {bytes : List ℕ} {at : ℕ} {out after : List ℕ} {next : ℕ} (room : Room bytes at out) where
  pub puts_by : after ≡ sets out at bytes → next ≡ at + length bytes → Puts bytes at out after next
  unfolding put_of behind_of
  puts_by e f = record {
    leaves = e ∙ rw (le-leb _ _ room.fits) (sets-eq bytes out at room.fits);
    behind = f ∙ rw (le-leb _ _ room.fits);
  }

  module _ (put : Puts bytes at out after next) where
    pub puts_output : after ≡ sets out at bytes
    unfolding put_of
    puts_output = put.leaves ∙ rw (le-leb _ _ room.fits) (sym (sets-eq bytes out at room.fits))

    pub puts_place : next ≡ at + length bytes
    unfolding behind_of
    puts_place = put.behind ∙ rw (le-leb _ _ room.fits)

    pub puts_length : length after ≡ length out
    puts_length = ap length puts_output ∙ length-sets out at bytes

pub puts_none : {bytes : List ℕ} {at : ℕ} {out : List ℕ} → Room bytes at out → bytes ≡ [] → Puts bytes at out out at
puts_none {bytes} {at} {out} room none = puts_by room (ap (sets out at) (sym none)) (omega (arith, ap length none))

-- Bytes put in two steps: the room for each, and what both put together.
module _ {s : List ℕ} {at : ℕ} {out : List ℕ} (room : Room s at out) {a : List ℕ} where
  pub room_first : (b : List ℕ) → s ≡ a ++ b → Room a at out
  room_first b split = record { fits = omega (arith, room.fits, ap length split, length-append a b) }

  module _ {out' : List ℕ} {at' : ℕ} (put : Puts a at out out' at') {b : List ℕ} (split : s ≡ a ++ b) where
    pub room_last : Room b at' out'
    room_last =
        let first = room_first b split in
        record { fits = omega (arith, room.fits, ap length split, length-append a b, puts_place first put, puts_length first put) }

    pub puts_both : {out'' : List ℕ} {at'' : ℕ} → Puts b at' out' out'' at'' → Puts s at out out'' at''
    puts_both then =
        let first = room_first b split in
        puts_by room
        (sets_after out at a b (puts_output first put) (puts_output room_last then) (puts_place first put) ∙ ap (sets out at) (sym split))
        (omega (arith, puts_place first put, puts_place room_last then, ap length split, length-append a b))

-- Of the whole s, this rest is still to be put.
pub record Left (s : List ℕ) (at : ℕ) (out rest : List ℕ) (at' : ℕ) (out' : List ℕ) : Type 0 where
  pub output : sets out' at' rest ≡ sets out at s
  pub place : at' + length rest ≡ at + length s

module _ {s : List ℕ} {at : ℕ} {out rest : List ℕ} {at' : ℕ} {out' : List ℕ} (left : Left s at out rest at' out') where
  pub left_length : length out' ≡ length out
  left_length = omega (arith, ap length left.output, length-sets out at s, length-sets out' at' rest)

  module _ (room : Room s at out) where
    pub left_room : Room rest at' out'
    left_room = record { fits = omega (arith, room.fits, left.place, left_length) }

    pub left_less : {a b out'' : List ℕ} {at'' : ℕ} → rest ≡ a ++ b → Puts a at' out' out'' at'' → Left s at out b at'' out''
    left_less {a} {b} split put =
        let first = room_first left_room {a = a} b split in
        record {
          output =
              ap₂ (λ (l : List ℕ) (n : ℕ). sets l n b) (puts_output first put) (puts_place first put)
              ∙ sets_append out' at' a b
              ∙ ap (sets out' at') (sym split)
              ∙ left.output;
          place = omega (arith, puts_place first put, left.place, ap length split, length-append a b);
        }

    pub left_none : rest ≡ [] → Puts s at out out' at'
    left_none none = puts_by room (ap (sets out' at') (sym none) ∙ left.output) (omega (arith, left.place, ap length none))
