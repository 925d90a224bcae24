pub mod Answers
pub mod Connections
pub mod Ends
pub mod Example
pub mod Generations
pub mod Numbers
pub mod Stays
pub mod Tags
