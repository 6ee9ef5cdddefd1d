pub mod Walks
pub mod PaddedRows
pub mod ByNumber
