pub mod BoolLemmas
pub mod EngineRefusals
pub mod FilledPinLemmas
pub mod ListLemmas
