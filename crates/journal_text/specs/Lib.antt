pub mod Entries
pub mod Parting
pub mod Reading
pub mod Journals
pub mod Lines
pub mod Firsts
pub mod Faults
