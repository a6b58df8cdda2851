pub mod StatusCodes
pub mod Reports
pub mod Tells
pub mod Allocating
pub mod Openings
pub mod GivenBack
pub mod Soaks
pub mod Journals
