pub mod Opening
pub mod Confined
pub mod SegmentLemmas
pub mod MayRun
pub mod Elsewhere
pub mod Ports
