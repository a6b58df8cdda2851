pub mod Faults
pub mod Forms
pub mod Headers
pub mod Sound
pub mod Views
