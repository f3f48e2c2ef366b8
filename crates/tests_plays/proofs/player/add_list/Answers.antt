use Rattle.warm_world.proofs.DeviceListLemmas.{one_more}
use Rattle.tests_plays.proofs.player.add_list.Goals as goal

pub returns : goal.returns
returns g c = one_more _ _ _ _ _ c.in_ok-push.ensures.items c.requires.few c.requires.one
