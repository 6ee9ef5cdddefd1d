-- What is computed from the definitions, as tables, and the loops of the code.
pub mod Compute
pub mod Seen
pub mod Jobs
pub mod Fields
pub mod Label
pub mod Printed
pub mod Traps
pub mod Looked
pub mod Refusals
pub mod Asked
pub mod NearLabel
pub mod Constants
pub mod Loops
