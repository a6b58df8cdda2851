pub mod Benches
pub mod Endings
pub mod Moving
pub mod Sharing
pub mod Trying
