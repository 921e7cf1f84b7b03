pub mod Files
pub mod Table
pub mod View
