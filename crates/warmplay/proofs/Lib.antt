pub mod DeviceCountLemmas
