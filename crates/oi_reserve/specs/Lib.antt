pub mod Access
pub mod Orders
pub mod Outcomes
pub mod Reports
pub mod Tables
