-- The rows of the table of names, as the test reads them.
pub mod Form
