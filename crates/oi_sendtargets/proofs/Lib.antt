pub mod Reading
pub mod Writing
pub mod Once
pub mod ReadBack
