pub mod Ending
pub mod Forming
pub mod Judging
pub mod Spelling
pub mod Walking
