-- The laws of right sets and kinds.
pub mod Laws
