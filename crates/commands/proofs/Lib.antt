pub mod Reporting
pub mod GivenBack
pub mod Telling
pub mod Preparing
pub mod Worked
pub mod Replaying
pub mod Soaking
