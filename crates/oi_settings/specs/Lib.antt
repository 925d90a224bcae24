pub mod KeyOrder
pub mod Keys
pub mod Pairs
pub mod Schema
pub mod Texts
