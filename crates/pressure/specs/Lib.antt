pub mod Boundaries
pub mod Regions
pub mod Rings
pub mod Floods
pub mod Pressures
