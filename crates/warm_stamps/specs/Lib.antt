pub mod Buckets
pub mod Bytes
pub mod Distinct
pub mod Laws
pub mod Replicas
pub mod Stamps
