pub mod SegmentLemmas
pub mod Opening
pub mod Ports
