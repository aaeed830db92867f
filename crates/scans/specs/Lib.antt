pub mod Marks
pub mod Scan
pub mod Ends
pub mod Plain
pub mod Notes
