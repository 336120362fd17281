pub mod Reads
pub mod Shot
pub mod Answered
pub mod Laws
