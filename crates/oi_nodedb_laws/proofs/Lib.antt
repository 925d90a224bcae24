pub mod Apart
pub mod Keeping
pub mod Loaded
pub mod Places
pub mod Stopped
pub mod Stores
pub mod Sure
pub mod Values
