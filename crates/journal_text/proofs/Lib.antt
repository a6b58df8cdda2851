mod Chains
mod Parting
mod Numerals
mod FirstLines
mod Spelling
pub mod Telling
pub mod Progress
pub mod Reading
mod Fronts
