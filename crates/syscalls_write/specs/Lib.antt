-- What writing the file of an open ruleset rests on.
pub mod Ready
