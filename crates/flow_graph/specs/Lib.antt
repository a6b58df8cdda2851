pub mod Paths
pub mod Flows
pub mod Floods
