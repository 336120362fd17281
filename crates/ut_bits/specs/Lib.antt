pub mod Bits
pub mod Coded
pub mod Places
pub mod Words
