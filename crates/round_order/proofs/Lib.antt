pub mod Unplugging
pub mod Rounds
pub mod Starts
