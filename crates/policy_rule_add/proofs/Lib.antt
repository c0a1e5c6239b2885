-- Calls on sound tables with names.
pub mod Sound
pub mod Rules
