pub mod Order
pub mod Spelling
pub mod Table
pub mod Search
pub mod Lookup
