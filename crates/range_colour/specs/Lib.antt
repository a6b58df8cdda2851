pub mod FirstFits
pub mod Groups
pub mod PlacedPlans
pub mod Settling
pub mod Fits
pub mod Regional
