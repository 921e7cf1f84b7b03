pub mod Changes
pub mod Counts
pub mod Lengths
pub mod Stack
