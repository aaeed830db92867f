-- Laws: what the crates above use of unescaping.
pub mod Laws
pub mod Runs
mod Writing
