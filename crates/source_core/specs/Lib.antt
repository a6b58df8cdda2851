pub mod SourceState
