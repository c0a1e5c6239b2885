-- How a path or a port is judged.
pub mod Rules
pub mod Judge
pub mod Domain
pub mod Blame
pub mod Read
