pub mod Window
pub mod Scroll
pub mod Words
pub mod State
pub mod Refusal
pub mod Called
