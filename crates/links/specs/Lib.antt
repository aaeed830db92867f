pub mod Links
pub mod Exactly
