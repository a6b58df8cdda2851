pub mod Words
pub mod Lines
pub mod Answers
pub mod Calls
pub mod Silences
pub mod Preparing
pub mod Written
