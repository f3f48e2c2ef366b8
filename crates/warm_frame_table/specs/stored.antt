-- How frames are stored: the definitions of the private functions.
pub mod Parts
pub mod Tied
pub mod PageTable
pub mod Chains
pub mod Statuses
pub mod Lending
