-- The order of entries by their directories and rows.
pub mod Order
