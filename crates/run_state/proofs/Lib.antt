pub mod Counting
pub mod Memory
pub mod Segments
pub mod Running
pub mod Putting
pub mod Replacing
