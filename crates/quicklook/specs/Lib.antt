pub mod Captions
pub mod Pictures
pub mod Shown
