pub mod Handles
pub mod Ownership
pub mod VisitHandles
