pub mod BitLemmas
pub mod KeptLemmas
pub mod WordsLemmas
pub mod ScanLemmas
