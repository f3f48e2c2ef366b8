pub mod DeviceLemmas
pub mod DistinctLemmas
