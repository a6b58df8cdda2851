pub mod Orders
pub mod Fitting
pub mod Costs
pub mod Best
pub mod Choices
