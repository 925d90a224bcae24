pub mod Segments
pub mod Table
pub mod Widths
pub mod Wire
