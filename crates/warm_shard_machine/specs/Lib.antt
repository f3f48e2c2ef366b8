pub mod ToldDevices
pub mod Entering
pub mod ShardSteps
pub mod Visits
pub mod Laws
pub mod Pins
