-- What create's passed tests tell, and what it leaves.
pub mod Creating
