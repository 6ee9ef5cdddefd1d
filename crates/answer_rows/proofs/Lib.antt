pub mod Puts
pub mod GlyphsLeft
pub mod RowMost
pub mod ClusterRows
pub mod SpanRows
pub mod ChunkRows
