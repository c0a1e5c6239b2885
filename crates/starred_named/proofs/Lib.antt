-- The starred cases with names, proved.
pub mod Scan
pub mod Proved
