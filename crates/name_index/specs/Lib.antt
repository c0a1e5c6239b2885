-- A name as it stands in the table.
pub mod Row
