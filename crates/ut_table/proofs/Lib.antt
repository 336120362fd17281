pub mod DecodedLemmas
pub mod StampedLemmas
pub mod PlaceLemmas
pub mod ChangeLemmas
pub mod RestampLemmas
pub mod EndLemmas
pub mod FilledLemmas
pub mod ReadLemmas
pub mod StageLemmas
mod CopyLemmas
pub mod CloseLemmas
pub mod ResortedLemmas
pub mod SwitchLemmas
pub mod FlagLemmas
pub mod SizeLemmas
pub mod SortLemmas
pub mod CompiledLemmas
pub mod OrderLemmas
pub mod PartLemmas
pub mod FindsLemmas
pub mod ScanLemmas
pub mod LentLemmas
pub mod NumberedLemmas
pub mod CodedLemmas
pub mod TallyLemmas
mod FlatLemmas
