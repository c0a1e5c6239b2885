-- Restrict: when it is refused, in document 01's order, and what it does.
pub mod Restrict
