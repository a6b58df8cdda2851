pub mod ValidPlans
pub mod Faults
pub mod Finding
pub mod Moving
pub mod Rows
pub mod Flat
