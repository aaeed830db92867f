mod Grammar
mod Texts
mod States
mod Passes
mod Within
mod Telling
mod Checks
pub mod Theorem
mod Names
pub mod Tests
