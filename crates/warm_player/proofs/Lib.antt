pub mod SplitLemmas
pub mod LeadingDigitLemmas
pub mod NumberLemmas
pub mod NumberWordLemmas
pub mod HexReadingLemmas
pub mod HexDigitLemmas
pub mod NumberPairLemmas
pub mod FieldLemmas
pub mod StreamLemmas
pub mod DeviceCountLemmas
pub mod FrequentLineLemmas
mod CommandTableLemmas
mod WorkerRequestLemmas
mod RunLemmas
mod Examples
mod ScheduleExamples
