pub mod Bound
pub mod Few
pub mod Letters
pub mod Rows
pub mod View
