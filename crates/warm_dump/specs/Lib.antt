pub mod Dumps
pub mod Faults
pub mod Progress
pub mod Laws
pub mod Reading
pub mod Writing
