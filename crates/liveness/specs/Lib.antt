pub mod Liveness
pub mod Sets
pub mod Lives
pub mod Surviving
pub mod Pressures
pub mod Sweeps
pub mod Orders
