pub mod Count
pub mod Ground
