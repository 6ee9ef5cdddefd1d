pub mod Record
pub mod Same
