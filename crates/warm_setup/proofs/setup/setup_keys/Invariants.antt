use Rattle.std.proofs.Common.{◌≡◌}
use Rattle.toml.specs.View.{members_view}
use Rattle.warm_setup.specs.SetupView.{settings_of, AreWithin}
use Rattle.warm_setup.specs.Setups.{key_by_key, with_key, setup_of}
use Rattle.warm_setup.proofs.setup.setup_keys.Given as goal

abbrev pub invariant-loop-key : goal.invariant-loop-key
invariant-loop-key l =
    (key_by_key with_key (settings_of l.keys) (members_view l.key-iterator)
    ≡ setup_of (members_view l.table.entries))
    × AreWithin l.keys
