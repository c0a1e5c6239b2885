-- Fields of changes as bytes, and their room.
pub mod Fields
