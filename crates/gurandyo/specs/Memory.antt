-- The memory that the program works on (document 01, "Printed lines"), and what it leaves there to be printed.
use Rattle.std.specs.Prelude.{◌≡◌, List, ℕ, ◌≤◌, length, take}
use Rattle.best.specs.Best.{scratch_needed}
use Rattle.lines.specs.Lines.{lines_room}
use Rattle.report.specs.Input.{most_read}
use Rattle.report.specs.Report.{lines_of}

-- Scratch enough for the best chain, and an output that holds every report.
pub record RoomFor (scratch out : List ℕ) : Type 0 where
  pub works : scratch_needed ≤ length scratch
  pub holds : lines_room ≤ length out

-- The input is as long as what is read at most, and there is room for its report.
pub record Lent (input scratch out : List ℕ) : Type 0 where
  pub reads : length input ≡ most_read
  pub room : RoomFor scratch out

-- The first n bytes of the output are these.
pub record Starts (out : List ℕ) (n : ℕ) (bytes : List ℕ) : Type 0 where
  pub within : n ≤ length out
  pub are : take n out ≡ bytes

-- A run of the program: the output starts with the lines of some first bytes of the input. Which were read no contract of `io` says.
pub record Ran (input out : List ℕ) : Type 0 where
  pub read : ℕ
  pub printed : ℕ
  pub within : read ≤ length input
  pub starts : Starts out printed (lines_of (take read input))
