-- What the proofs of several functions of src/maps/ use.
pub mod KeptCuts
pub mod RecentLemmas
pub mod KeptPairLemmas
pub mod RunTakes
pub mod JoinTakes
pub mod MergeIterLemmas
