pub mod Text
pub mod Classes
pub mod Masks
pub mod Names
pub mod Utf8
pub mod Reading
