-- What the test by chains tells.
pub mod Told
