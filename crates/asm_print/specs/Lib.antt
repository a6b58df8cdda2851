pub mod Rows
pub mod Canonical
pub mod Typed
pub mod Again
