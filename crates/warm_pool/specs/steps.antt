-- What the steps of a call do, which no caller sees. Each file has the steps of the calls in the file
-- of its name.
pub mod Flushes
pub mod Pinning
pub mod Refreshing
pub mod Retiring
pub mod WritingBack
pub mod Zeroing
pub mod Filling
pub mod Forgetting
