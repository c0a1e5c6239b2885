-- Every call in one type, demand 3, how its rights are tied to answers, what comes back when threads end, which layer a refusal names, and how many entries an access reads.
pub mod Calls
pub mod Claim
pub mod Granted
pub mod Ended
pub mod Named
pub mod Read
