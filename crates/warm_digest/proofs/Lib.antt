pub mod CachedLemmas
mod Examples
pub mod ExchangeLemmas
pub mod FitLemmas
pub mod MarkLemmas
