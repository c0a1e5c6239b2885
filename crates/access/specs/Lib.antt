-- The words of the field: rights, kinds, error numbers, levels, limits.
pub mod Rights
pub mod Kinds
pub mod Errno
pub mod Reply
pub mod Limits
