pub mod Costs
pub mod MoveSteps
pub mod ParallelMove
pub mod Remaining
pub mod Tally
pub mod Within
