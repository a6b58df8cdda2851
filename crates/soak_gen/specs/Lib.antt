pub mod Draws
pub mod Drafts
pub mod Bundles
