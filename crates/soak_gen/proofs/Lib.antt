mod Bundling
mod Drafting
mod Forming
mod Numbering
mod Ordering
