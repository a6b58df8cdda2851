pub mod Memory
pub mod Numbers
pub mod Standard
pub mod Streams
pub mod Text
