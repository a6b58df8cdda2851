pub mod Greatest
pub mod Ways
pub mod Ringing
pub mod Flooding
pub mod Numbering
pub mod Switching
pub mod Unique
