pub mod Bytewise
pub mod Feeding
pub mod Framing
pub mod Steps
pub mod Streams
