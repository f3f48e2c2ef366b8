use Rattle.std.proofs.Common.{refl, rules}
use Rattle.warm_maps.specs.contracts.walk.fn.write_along.retain as closure
use Rattle.warm_maps.proofs.AlongLemmas.{written_along}
use Rattle.warm_maps.proofs.walk.write_along.Goals as goal

pub returns-clause-entries : goal.returns-clause-entries
returns-clause-entries c = (written_along _ (λ f. (closure.captures f).left.now) (λ f k v b w g called. (search rules, search rules, search rules)) _ c.args.pairs.now c.args.map.now.entries c.retain.new.self.entries refl c.requires.run c.requires.rise c.requires.there c.retain.ensures.filtered).0

pub returns-clause-len : goal.returns-clause-len
returns-clause-len c = (written_along _ (λ f. (closure.captures f).left.now) (λ f k v b w g called. (search rules, search rules, search rules)) _ c.args.pairs.now c.args.map.now.entries c.retain.new.self.entries refl c.requires.run c.requires.rise c.requires.there c.retain.ensures.filtered).1
