pub mod SetupFaults
pub mod SetupView
pub mod Setups
pub mod Words
pub mod WordsView
pub mod Endings
