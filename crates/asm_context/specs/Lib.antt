pub mod Faults
pub mod Forms
pub mod Places
pub mod Programs
pub mod Said
pub mod Spelt
pub mod Views
