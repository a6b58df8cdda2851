pub mod Closed
pub mod Emitting
