pub mod Marks
pub mod Sums
pub mod Answer
pub mod Given
pub mod Marked
