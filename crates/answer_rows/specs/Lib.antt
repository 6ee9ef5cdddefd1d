pub mod Glyphs
pub mod Clusters
pub mod Spans
pub mod Chunks
