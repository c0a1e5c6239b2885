-- Document 02, W14, the second half: what a move would gain, and that EXDEV is never needless.
pub mod Gain
pub mod Claim
