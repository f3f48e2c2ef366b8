-- What the proofs of several functions use.
pub mod ChainLemmas
pub mod CountLemmas
pub mod LagLemmas
pub mod ListLemmas
pub mod MoveLemmas
pub mod PlaceLemmas
pub mod RelinkLemmas
pub mod StatusLemmas
pub mod StoredLemmas
pub mod VacateLemmas
