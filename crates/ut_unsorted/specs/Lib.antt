pub mod Coded
pub mod FirstSeen
pub mod Hashed
pub mod HeldKeys
pub mod Posted
pub mod Rising
