use Rattle.std.proofs.Common.{◌≡◌}
use Rattle.toml.specs.View.{members_view}
use Rattle.warm_setup.specs.SetupView.{device_fields_of}
use Rattle.warm_setup.specs.Setups.{key_by_key, with_device_key, no_fields}
use Rattle.warm_setup.proofs.setup.device_keys.Given as goal

abbrev pub invariant-loop-key : goal.invariant-loop-key
invariant-loop-key l =
    key_by_key with_device_key (device_fields_of l.keys) (members_view l.key-iterator)
    ≡ key_by_key with_device_key no_fields (members_view l.table.entries)
