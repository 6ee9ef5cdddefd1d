pub mod Checked
pub mod Steps
pub mod Returned
pub mod Called
