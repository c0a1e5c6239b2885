-- The laws of writing a policy file.
pub mod Examples
pub mod Lists
pub mod Strict
pub mod Rising
pub mod Bytes
pub mod Reading
pub mod Chosen
pub mod Keys
pub mod Agreed
