-- Laws that the proofs cite. Assumes nothing.
pub mod Behind
pub mod Chunk
