pub mod Counters
pub mod DeviceLists
pub mod FdParts
pub mod Statuses
pub mod Values
