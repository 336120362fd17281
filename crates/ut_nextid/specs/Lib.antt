pub mod NextIds
