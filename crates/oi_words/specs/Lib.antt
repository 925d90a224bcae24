pub mod Options
pub mod Parses
pub mod Tool
pub mod Words
