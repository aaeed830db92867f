pub mod Buffers
pub mod Input
pub mod Output
pub mod Lines
pub mod Arguments
