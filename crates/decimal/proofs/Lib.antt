-- The laws that the crates above use.
pub mod Laws
