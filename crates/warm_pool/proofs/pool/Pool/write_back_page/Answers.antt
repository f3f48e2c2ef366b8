use Rattle.std.proofs.Common.{Some, refl, sym, ◌∙◌, rules}
use Rattle.warm_pool.proofs.FlushLemmas.{handed_on}
use Rattle.warm_pool.proofs.PageWriteBackLemmas.{found_dirty, found_clean, found_none, cleans_page, page_fails, cleans_ranked, fails_ranked}
use Rattle.warm_pool.proofs.FrameChoiceLemmas.{pool_seen, place_seen, found_there, found_nowhere, of_ok, of_err}
use Rattle.warm_pool.proofs.WriteBackLemmas.{cleans_view}
use Rattle.warm_pool.specs.declared.fault.PoolFault.TheVariants.{Fault}
use Rattle.warm_pool.proofs.pool.Pool.write_back_page.Goals as goal

pub is_dirty-requires : goal.is_dirty-requires
is_dirty-requires g c = found_there c.self.invariant c.args.page c.in-Some.at c.in-Some.ensures

pub clean_at-requires : goal.clean_at-requires
clean_at-requires g c = found_there (pool_seen c.self.view_is c.self.invariant) c.args.page c.in-Some.at (place_seen c.self.view_is c.args.page (Some c.in-Some.at) c.in-Some.ensures)

pub returns-in_err-map_err-clause-ranked : goal.returns-in_err-map_err-clause-ranked
returns-in_err-map_err-clause-ranked g c = fails_ranked c.args.self.now c.clean_at.new.self c.in-Some.at (of_err c.clean_at.result c.in_err-map_err.ensures.variant c.clean_at.ensures.failed)

pub returns-clause-ranked : goal.returns-clause-ranked
returns-clause-ranked g c =
    let was = found_dirty c.self.view_is c.self.invariant c.args.page c.in-Some.at c.in-Some.ensures (sym c.is_dirty.ensures ∙ c.if-not-is_dirty.false) in
    cleans_ranked c.args.self.now c.clean_at.new.self c.in-Some.at was.there (of_ok c.clean_at.result c.in_ok-map_err.ensures.variant c.clean_at.ensures.down)

pub returns-in_default-clause-done : goal.returns-in_default-clause-done
returns-in_default-clause-done g c = record {
  same = refl;
  written = (found_none c.self.view_is c.args.page (found_nowhere c.self.invariant c.args.page c.in_default.ensures), refl);
  unflushed = λ k. refl;
}

pub returns-then-not-is_dirty-clause-done : goal.returns-then-not-is_dirty-clause-done
returns-then-not-is_dirty-clause-done g c = record {
  same = refl;
  written = (found_clean c.self.view_is c.self.invariant c.args.page c.in-Some.at c.in-Some.ensures (sym c.is_dirty.ensures ∙ c.if-not-is_dirty.true), refl);
  unflushed = λ k. refl;
}

pub returns-in_err-map_err-clause-refused : goal.returns-in_err-map_err-clause-refused
returns-in_err-map_err-clause-refused g c = handed_on c.from_residual.result Fault _ (search rules) (record {
  cause = (
    refl,
    page_fails c.args.self.now c.clean_at.new.self c.args.page c.in-Some.at c.clean_at.result (found_dirty c.self.view_is c.self.invariant c.args.page c.in-Some.at c.in-Some.ensures (sym c.is_dirty.ensures ∙ c.if-not-is_dirty.false))
        c.in_err-map_err.ensures.variant c.clean_at.ensures.failed c.clean_at.ensures.wrote,
  );
  unflushed = c.clean_at.ensures.unflushed;
})

pub returns-clause-done : goal.returns-clause-done
returns-clause-done g c =
    let was = found_dirty c.self.view_is c.self.invariant c.args.page c.in-Some.at c.in-Some.ensures (sym c.is_dirty.ensures ∙ c.if-not-is_dirty.false) in
    let down = of_ok c.clean_at.result c.in_ok-map_err.ensures.variant c.clean_at.ensures.down in record {
      same = cleans_view c.args.self.now c.clean_at.new.self c.in-Some.at down;
      written = cleans_page c.args.self.now c.clean_at.new.self c.args.page c.in-Some.at c.clean_at.result was c.in_ok-map_err.ensures.variant c.clean_at.ensures.down c.clean_at.ensures.wrote;
      unflushed = c.clean_at.ensures.unflushed;
    }
