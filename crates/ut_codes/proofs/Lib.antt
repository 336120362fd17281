pub mod SizeLemmas
pub mod FormLemmas
