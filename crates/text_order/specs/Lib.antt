pub mod Keys
pub mod Ordered
