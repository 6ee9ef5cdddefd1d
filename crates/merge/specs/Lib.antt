pub mod Buckets
pub mod Merged
pub mod Source
pub mod Steps
