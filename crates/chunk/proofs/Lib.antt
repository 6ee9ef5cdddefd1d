pub mod Checked
pub mod Spans
pub mod Merging
pub mod NotRefused
pub mod Adjusted
pub mod Placed
pub mod RowLength
pub mod Still
