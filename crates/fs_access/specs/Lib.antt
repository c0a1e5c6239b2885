-- Access requests.
pub mod Access
