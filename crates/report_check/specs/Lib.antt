pub mod Facts
pub mod Checks
