pub mod Needs
pub mod Cells
pub mod Preferred
pub mod Tables
pub mod Fits
pub mod Allocations
pub mod Items
