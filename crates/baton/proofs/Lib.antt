pub mod Lists
pub mod Own
pub mod Lawful
pub mod Steps
pub mod Sharing
pub mod Gathering
