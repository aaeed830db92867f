pub mod Hex
pub mod Rooms
