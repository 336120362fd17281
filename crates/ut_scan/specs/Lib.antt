pub mod Coded
pub mod Finds
pub mod PartProbes
pub mod Probes
pub mod Seeks
pub mod StageRows
pub mod Tallies
