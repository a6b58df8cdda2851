pub mod Views
pub mod Law
pub mod Passes
pub mod Lending
