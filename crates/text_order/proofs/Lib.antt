-- Laws of the text order, and of the numbers of characters along it. Assumes nothing.
pub mod Entries
pub mod TextKeys
pub mod AnyOrder
pub mod KeyPlaces
pub mod Keys
pub mod Order
pub mod Numbers
