-- Laws of the clusters' shifts and marks along the text order. Assumes nothing.
pub mod TextOrder
pub mod Shifting
pub mod Marking
pub mod Ends
