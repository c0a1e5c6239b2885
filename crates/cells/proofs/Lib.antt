-- Tests of every cell.
pub mod Zeros
