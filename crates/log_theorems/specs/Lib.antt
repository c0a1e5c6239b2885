-- Demand 3 after document 02, W11: replays among the calls.
pub mod Claim
