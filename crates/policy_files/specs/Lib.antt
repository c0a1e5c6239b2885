-- What the reader of a file tells of one field.
pub mod Next
