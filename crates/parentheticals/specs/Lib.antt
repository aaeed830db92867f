pub mod Fields
pub mod Matching
pub mod Records
pub mod Inner
pub mod Answers
