use Rattle.std.proofs.Common.{◌≡◌, ◌<◌, List, length, set, sym, ap, subst, ◌∙◌, arith}
use Rattle.std.specs.Fn.{FnOnceReturnsAt}
use Rattle.warm_visits.specs.ShardNumbers.{shard_of}
use Rattle.warm_concurrent.specs.Attached.{AreOf, AttachedView, ShardTurn, no_pass, shard_pass}
use Rattle.warm_concurrent.specs.Looking.{LooksAt}
use Rattle.warm_shard_machine.specs.Visits.{Shows}
use Rattle.warm_concurrent.proofs.LookLemmas.{is_here, looked}
use Rattle.warm_concurrent.proofs.PassLemmas.{answered, may}
use Rattle.warm_shards.proofs.Places.{read_at}
use Rattle.warm_concurrent.proofs.shared.SharedShards.look.Goals as goal

pub unreachable-requires : goal.unreachable-requires
unreachable-requires g c =
    let turns = c.self.inside.turns.items in
    let old = c.attached.inside.passes.items in
    let page = c.args.page in
    let i = c.shard_of-number.result in
    let n = c.index_mut.result.now in
    let p = c.try_visit.new.pass in
    let are : AreOf turns old = subst (λ (ts : List ShardTurn). AreOf ts old) (sym c.self.view_is) (subst (λ (v : AttachedView). AreOf c.args.self.now v.passes) (sym c.attached.view_is) c.requires.passes) in
    let size : c.len-count.result ≡ length turns = omega (arith, c.len-count.ensures, c.self.inside.turns.ok.0) in
    let lt : i < length turns = omega (arith, c.shard_of-number.ensures.below, size) in
    let is : n ≡ shard_pass old i = read_at old i n n no_pass (omega (arith, lt, are.count)) c.index_mut.ensures.value in
    let own : shard_of (length turns) page ≡ i = ap (λ k. shard_of k page) (sym size) ∙ sym c.shard_of-number.ensures.value in
    let made = c.in-Ok-Foreign.ensures.visited in
    is_here (λ t. Shows (λ bytes. FnOnceReturnsAt g.F.FnOnce c.args.f bytes t)) (length turns) i page c.in-Ok-Foreign.field-0 made.0 made.1 c.in-Ok-Foreign.field-0-is made.2.0 made.2.1
    (may turns old i p are lt n made.0 made.1 c.self.invariant.0 is made.3) own

pub returns-in-Ok-Given-clause-looked : goal.returns-in-Ok-Given-clause-looked
returns-in-Ok-Given-clause-looked g c =
    let turns = c.self.inside.turns.items in
    let old = c.attached.inside.passes.items in
    let page = c.args.page in
    let i = c.shard_of-number.result in
    let n = c.index_mut.result.now in
    let p = c.try_visit.new.pass in
    let are : AreOf turns old = subst (λ (ts : List ShardTurn). AreOf ts old) (sym c.self.view_is) (subst (λ (v : AttachedView). AreOf c.args.self.now v.passes) (sym c.attached.view_is) c.requires.passes) in
    let size : c.len-count.result ≡ length turns = omega (arith, c.len-count.ensures, c.self.inside.turns.ok.0) in
    let lt : i < length turns = omega (arith, c.shard_of-number.ensures.below, size) in
    let is : n ≡ shard_pass old i = read_at old i n n no_pass (omega (arith, lt, are.count)) c.index_mut.ensures.value in
    let at : i ≡ shard_of (length c.args.self.now) page = c.shard_of-number.ensures.value ∙ ap (λ k. shard_of k page) (size ∙ ap (λ (ts : List ShardTurn). length ts) c.self.view_is) in
    let given = c.in-Ok-Given.given in
    let made = c.in-Ok-Given.ensures.visited in
    let seen = looked (λ t bytes. FnOnceReturnsAt g.F.FnOnce c.args.f bytes t) old i page (set old i p) given c.in-Ok-Given.field-0 made.0 made.1 c.in-Ok-Given.field-0-is made.2.0 made.2.1
    (answered turns old i p are lt n made.0 made.1 is made.3) in
    rw c.in-Ok-Given.field-0-is
    (subst (λ (v : AttachedView). LooksAt v.passes (shard_of (length c.args.self.now) page) page (λ bytes. FnOnceReturnsAt g.F.FnOnce c.args.f bytes given) (set old i p)) c.attached.view_is (subst (λ k. LooksAt old k page (λ bytes. FnOnceReturnsAt g.F.FnOnce c.args.f bytes given) (set old i p)) at seen))
