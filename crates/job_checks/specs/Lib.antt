pub mod Walk
pub mod Verdict
pub mod Checks
