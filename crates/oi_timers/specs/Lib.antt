pub mod Agenda
pub mod Ping
pub mod Timers
