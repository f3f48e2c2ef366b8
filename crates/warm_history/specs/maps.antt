-- How a history uses its maps: what their pairs mean, and how their buckets merge.
pub mod KeptPairs
pub mod Merges
