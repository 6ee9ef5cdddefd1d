pub mod Backwards
pub mod Shifts
