pub mod Blanks
pub mod Filling
pub mod Ports
pub mod Reading
pub mod Sounding
