-- Laws that the proofs cite. Assumes nothing.
pub mod Tests
