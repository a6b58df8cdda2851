pub mod Simulation
pub mod Stretching
pub mod Waiting
pub mod Ports
pub mod Histories
pub mod Settling
pub mod Moves
