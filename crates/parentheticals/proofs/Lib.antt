mod FieldLaws
mod Inside
mod Authors
mod Candidates
pub mod Lies
pub mod Listing
pub mod SpanAlone
pub mod Coincide
