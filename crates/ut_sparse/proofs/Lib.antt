pub mod FrequentLemmas
pub mod SparseLemmas
pub mod ScanLemmas
pub mod ReadLemmas
