pub mod Courses
pub mod Events
pub mod Feeding
pub mod Runs
pub mod Shown
pub mod Steps
pub mod Targets
pub mod Turns
