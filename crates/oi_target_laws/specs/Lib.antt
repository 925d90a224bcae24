pub mod Arrivals
pub mod Conflicts
pub mod Histories
pub mod Logins
pub mod Numbers
pub mod Owners
pub mod Turned
pub mod Within
