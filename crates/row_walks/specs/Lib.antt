-- What layers hold against a request, by the rows of its entries.
pub mod Rows
