-- Where what a name means lies.
pub mod Within
