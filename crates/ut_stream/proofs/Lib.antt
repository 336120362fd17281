pub mod FeedLemmas
pub mod FrontLemmas
pub mod HeardLemmas
pub mod StreamLemmas
