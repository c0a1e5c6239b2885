-- Laws for the code of tree calls with a log.
pub mod Cases
pub mod Full
