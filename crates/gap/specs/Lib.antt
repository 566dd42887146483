pub mod GapNumbers
