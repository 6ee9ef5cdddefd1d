-- Laws of the sorted order. Assumes nothing.
pub mod Cases
pub mod Insertion
pub mod Ascending
pub mod Permuted
