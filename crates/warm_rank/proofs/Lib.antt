pub mod BehindLemmas
pub mod LaterCountLemmas
mod Examples
pub mod KeyLemmas
pub mod EvictionLemmas
pub mod FallingLemmas
pub mod LoopPartLemmas
pub mod OutrankedLemmas
pub mod DistanceLemmas
pub mod RaisedLemmas
pub mod RelistLemmas
pub mod SetKeyLemmas
pub mod SlotLemmas
pub mod SortLemmas
pub mod WarmUpLemmas
pub mod WinnerLemmas
pub mod VacantLemmas
pub mod VictimLemmas
