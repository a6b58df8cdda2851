pub mod EngineState
