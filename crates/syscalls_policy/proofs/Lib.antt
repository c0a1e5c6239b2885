-- What an application answers and reports.
pub mod Meant
