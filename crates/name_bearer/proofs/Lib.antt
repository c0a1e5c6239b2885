-- Laws for the scan of a directory's names.
pub mod Bearing
