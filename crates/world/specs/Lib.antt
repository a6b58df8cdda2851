pub mod Channels
pub mod WorldState
pub mod Opening
pub mod Views
