pub mod Answers
pub mod Chap
pub mod Grown
pub mod Logins
pub mod Names
pub mod Runs
pub mod Texts
