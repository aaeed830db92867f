pub mod Strict
pub mod Tests
