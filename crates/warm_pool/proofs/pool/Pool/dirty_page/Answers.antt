use Rattle.std.proofs.Common.{sym, ◌∙◌}
use Rattle.warm_pool.proofs.DirtyPageLemmas.{dirty_page_is, clean_page_is}
use Rattle.warm_pool.proofs.pool.Pool.dirty_page.Goals as goal

pub returns-then-not-is_dirty : goal.returns-then-not-is_dirty
returns-then-not-is_dirty g c = clean_page_is c.self.view_is c.args.at (sym c.is_dirty.ensures ∙ c.if-not-is_dirty.true)

pub returns : goal.returns
returns g c = dirty_page_is c.self.view_is c.self.invariant c.args.at c.requires (sym c.is_dirty.ensures ∙ c.if-not-is_dirty.false) c.page.result c.page.ensures
