-- The starred cases, proved.
pub mod Proved
