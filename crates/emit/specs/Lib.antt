pub mod Tables
pub mod Addressed
pub mod Blocks
pub mod Layouts
pub mod Limits
pub mod Sized
pub mod Totals
