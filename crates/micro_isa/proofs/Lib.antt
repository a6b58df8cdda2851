pub mod Mapped
pub mod Appearing
mod Deciding
pub mod Laws
pub mod Words
pub mod Pieced
