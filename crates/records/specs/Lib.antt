pub mod Answer
pub mod Records
pub mod Over
pub mod Produced
