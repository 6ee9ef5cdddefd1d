pub mod Signed
pub mod Places
pub mod Patterns
pub mod Digits
pub mod Padded
pub mod Splice
mod HighFirst
