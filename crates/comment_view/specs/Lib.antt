pub mod View
pub mod Unescaping
