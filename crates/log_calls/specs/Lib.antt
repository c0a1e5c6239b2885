-- A log as code has it, and what the code of tree calls comes to.
pub mod Logs
