mod Examples
pub mod AppendLemmas
mod DrawnLineLemmas
