pub mod Meaning
pub mod Texts
pub mod Spellings
pub mod Hyphens
pub mod Command
