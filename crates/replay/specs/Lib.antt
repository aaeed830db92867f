pub mod Headers
pub mod Hex
pub mod Pattern
