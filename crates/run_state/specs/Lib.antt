pub mod Sending
pub mod Segments
pub mod Running
