-- Laws for the code that looks at names.
pub mod Scans
