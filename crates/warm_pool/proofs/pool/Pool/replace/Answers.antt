use Rattle.std.proofs.Common.{sym, ◌∙◌}
use Rattle.warm_frame_table.specs.declared.selection.Devices.TheVariants.{One}
use Rattle.warm_pool.proofs.HandingBackLemmas.{handed_down}
use Rattle.warm_pool.proofs.RetireLemmas.{way_clean, way_unfixed, retire_view, retire_ranked, elsewhere_retired, others_retired}
use Rattle.warm_pool.proofs.pool.Pool.replace.Goals as goal

pub install_device-requires-clause-clean : goal.install_device-requires-clause-clean
install_device-requires-clause-clean g c = way_clean _ _ c.args.dev _ c.in-Ok.ensures.way

pub install_device-requires-clause-unfixed : goal.install_device-requires-clause-unfixed
install_device-requires-clause-unfixed g c = way_unfixed _ _ c.args.dev _ c.in-Ok.ensures.way

pub install_device-requires-clause-sized : goal.install_device-requires-clause-sized
install_device-requires-clause-sized g c = sym c.page_size.ensures ∙ c.in-Ok.ensures.way.size ∙ sym c.in-Ok.ensures.way.down.same.0

pub returns-in-Ok-clause-ranked : goal.returns-in-Ok-clause-ranked
returns-in-Ok-clause-ranked g c = λ h ranked. retire_ranked _ _ c.args.dev _ h c.install_device.ensures.retired (c.prepare_retire.ensures.ranked h ranked)

pub returns-in-Ok-clause-done : goal.returns-in-Ok-clause-done
returns-in-Ok-clause-done g c = record {
  retires = record {
    retired = retire_view _ _ _ c.args.dev _ _ c.in-Ok.ensures.way c.page_size.ensures c.install_device.ensures.retired;
    elsewhere = elsewhere_retired c.args.self.now c.prepare_retire.new.self c.install_device.new.self c.args.dev _ c.prepare_retire.ensures.elsewhere c.install_device.ensures.retired;
    others = others_retired c.args.self.now c.prepare_retire.new.self c.install_device.new.self c.args.dev _ c.prepare_retire.ensures.others c.install_device.ensures.retired;
  };
  handed_back = handed_down (One c.args.dev) _ _ c.args.dev _ c.in-Ok.ensures.way.down c.install_device.ensures.handed_back;
}

pub returns-in-Err-clause-refused : goal.returns-in-Err-clause-refused
returns-in-Err-clause-refused g c = record {
  cause = c.in-Err.ensures.refused (g.D.PageDevice.state c.args.device) (sym c.page_size.ensures);
  unchanged = c.in-Err.ensures.unchanged;
  stopped = c.in-Err.ensures.stopped;
  elsewhere = c.in-Err.ensures.elsewhere;
  others = c.in-Err.ensures.others;
  once = c.in-Err.ensures.once;
}
