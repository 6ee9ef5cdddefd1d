pub mod Keeps
pub mod Tests
