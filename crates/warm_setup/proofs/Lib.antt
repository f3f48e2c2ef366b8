pub mod Examples
pub mod DeviceArrayLemmas
pub mod TableWalkLemmas
pub mod SubcommandLemmas
pub mod SubcommandMatchLemmas
