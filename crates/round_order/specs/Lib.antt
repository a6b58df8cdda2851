pub mod Openings
pub mod Journals
pub mod RoundRuns
