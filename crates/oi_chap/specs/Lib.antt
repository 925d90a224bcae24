pub mod Chap
pub mod Streams
