pub mod Walks
pub mod Tables
pub mod Keeping
pub mod Lasting
pub mod Settling
