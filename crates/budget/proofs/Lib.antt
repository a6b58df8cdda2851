pub mod Keys
pub mod Picking
pub mod Choosing
pub mod Rows
pub mod Beating
pub mod Needs
pub mod Preferring
