pub mod Sessions
pub mod Issues
pub mod Limits
pub mod Calls
pub mod Cores
pub mod Reuse
pub mod Turns
