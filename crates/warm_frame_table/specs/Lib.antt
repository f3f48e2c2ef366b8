pub mod Frames
pub mod FrameSteps
pub mod Places
pub mod Selection
pub mod Lending
pub mod stored
