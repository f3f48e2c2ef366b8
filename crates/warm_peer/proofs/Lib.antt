pub mod AnswerLemmas
pub mod ChunkExamples
pub mod ChunkLemmas
pub mod Examples
mod FitLemmas
mod RoundExamples
pub mod RoundLemmas
pub mod SinceLemmas
