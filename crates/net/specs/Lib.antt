-- Port requests.
pub mod Port
