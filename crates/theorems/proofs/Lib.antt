-- What holds of all calls.
pub mod Kept
pub mod Naming
pub mod Chains
pub mod Stays
pub mod Ports
pub mod Reach
pub mod Links
pub mod Shut
pub mod Contained
pub mod Steps
pub mod Denied
pub mod Assembly
pub mod Demand3
pub mod Granted
pub mod Ended
pub mod Named
pub mod Read
