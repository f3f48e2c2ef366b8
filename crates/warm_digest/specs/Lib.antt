pub mod BucketDigests
pub mod CachedDigests
pub mod Exchange
pub mod Hashing
