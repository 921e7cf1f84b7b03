mod Copies
mod Filling
pub mod Fitting
pub mod Giving
mod Laying
mod Moving
mod Outcomes
pub mod Parsing
mod Placing
pub mod Reading
pub mod Regaining
mod Showing
pub mod Texts
pub mod Walk
mod Working
mod Writing
