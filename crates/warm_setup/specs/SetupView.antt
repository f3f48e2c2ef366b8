-- The values of the readers of a setup, in terms of the definitions.
use Rattle.std.specs.Prelude.{Vec}
use Rattle.std.specs.Global.{Global}
use Rattle.warm_world.specs.Sizes.{Sizes, IsSetup}
use Rattle.warm_setup.specs.declared.setup.DeviceKeys.{DeviceKeys}
use Rattle.warm_setup.specs.declared.setup.SetupKeys.{SetupKeys}
use Rattle.warm_setup.specs.declared.setup.DeviceSpec.{DeviceSpec}
use Rattle.warm_setup.specs.Setups.{DeviceFields, Settings}

-- the fields of a device's table that the reader has read
abbrev pub device_fields_of : DeviceKeys → DeviceFields
device_fields_of keys = record { pages = keys.pages; path = keys.path }

-- the settings that the reader has read
abbrev pub settings_of : SetupKeys → Settings
settings_of keys = record {
  sizes = record {
    replicas = keys.replicas;
    workers = keys.workers;
    buffer = keys.buffer;
    frames = keys.frames;
    page_size = keys.page_size;
  };
  devices = keys.devices.items;
}

-- the numbers make a valid setup
abbrev pub AreWithin : SetupKeys → Type 0
AreWithin keys = IsSetup (settings_of keys).sizes

-- a setup and its devices
abbrev pub setup_and_devices : Sizes × Vec DeviceSpec Global → Settings
setup_and_devices read = record { sizes = read.0; devices = read.1.items }
