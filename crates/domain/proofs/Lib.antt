-- The laws of the calls on threads and layers.
pub mod Choices
pub mod Changes
