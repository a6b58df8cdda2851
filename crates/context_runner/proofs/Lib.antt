pub mod Turning
pub mod Pumping
pub mod Going
pub mod Contexts
pub mod SharedTurns
pub mod Ends
