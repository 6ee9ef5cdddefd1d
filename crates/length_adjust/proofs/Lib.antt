-- Laws of step 6. Assumes nothing.
pub mod Walks
pub mod Passed
pub mod Bytes
pub mod Search
pub mod Places
pub mod Kept
pub mod Steps
pub mod Cases
pub mod Firsts
pub mod Taking
