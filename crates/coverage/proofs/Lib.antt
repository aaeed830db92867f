mod Tilings
mod Account
mod Bytes
mod Passes
mod Told
mod Counts
mod Laid
mod TwoComments
mod Checks
pub mod Theorem
