-- The calls on rulesets keep sound tables sound.
pub mod Rows
pub mod Create
pub mod Rules
pub mod Add
