-- The laws of dates; the public ones are for the crates above.
mod NumberLaws
mod MonthLaws
mod WritingLaws
pub mod ReadingLaws
pub mod OrderingLaws
pub mod RoundTrip
