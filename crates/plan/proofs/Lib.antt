pub mod Entries
pub mod Lists
pub mod Places
pub mod Checked
pub mod Enough
pub mod Flattened
