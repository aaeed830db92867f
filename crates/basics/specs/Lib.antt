pub mod Choice
pub mod Member
