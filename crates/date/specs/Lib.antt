pub mod Numbers
pub mod Months
pub mod Reading
pub mod Writing
pub mod Ordering
pub mod Calendar
