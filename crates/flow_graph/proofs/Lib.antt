pub mod Edges
pub mod Flooding
pub mod Forming
