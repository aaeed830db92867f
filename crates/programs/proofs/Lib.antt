mod Asked
pub mod Gathering
mod Digits
mod Listed
