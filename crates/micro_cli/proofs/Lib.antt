pub mod Replies
pub mod Preparing
pub mod Finishing
