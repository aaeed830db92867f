-- Exactly: which records are listed.
mod Laws
pub mod Exactly
