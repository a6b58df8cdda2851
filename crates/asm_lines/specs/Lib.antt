pub mod Cutting
pub mod Faults
pub mod Heads
pub mod Numbers
pub mod Sections
pub mod Tables
pub mod Verdicts
