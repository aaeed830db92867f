-- Laws: what the crates above use of tables.
pub mod Laws
mod OrderLaws
mod SpellingLaws
mod TableLaws
mod SearchLaws
