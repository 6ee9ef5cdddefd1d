pub mod Orders
pub mod Passing
pub mod Places
pub mod Tests
pub mod Verdicts
