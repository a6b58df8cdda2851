pub mod Edges
pub mod Words
pub mod Located
pub mod Emitted
