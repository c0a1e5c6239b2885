-- Policy files: fields, the grammar, what a name means, and what a ruleset's part says.
pub mod Fields
pub mod Front
pub mod Grammar
pub mod Files
pub mod Find
pub mod Meaning
