pub mod Masks
pub mod Sizes
pub mod Members
pub mod Staying
pub mod Steps
pub mod Visits
pub mod Successors
