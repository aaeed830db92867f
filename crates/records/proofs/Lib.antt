pub mod Laws
pub mod ProducedLaws
pub mod Laying
pub mod Answers
pub mod Texts
pub mod Over
pub mod Both
