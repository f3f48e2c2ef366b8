use Rattle.std.proofs.Common.{ap, ◌∙◌, sym, subst, refl, Some, ◌++◌}
use Rattle.std.specs.Map.{lookup, set_value}
use Rattle.std.specs.BTreeMap.{is_at}
use Rattle.std.proofs.lemmas.Map.Steps.{set_value_same}
use Rattle.warm_maps.specs.declared.bucket_map.Change.TheVariants.{New}
use Rattle.warm_maps.specs.BucketMaps.{ChangesAt}
use Rattle.warm_maps.specs.PageHists.{hist_stamps, known_stamps, latest_of}
use Rattle.warm_maps.proofs.RecordLemmas.{set_there}
use Rattle.warm_maps.proofs.page_map.record_likely_known.Goals as goal

-- the page is there, and its value is unchanged
pub returns-in-Some-clause-ok : goal.returns-in-Some-clause-ok
returns-in-Some-clause-ok g c = λ page.
    let cmp = g.K.Ord.cmp in
    let through = c.get_mut.follows.holds c.merge_into.new.known in
    let old = c.args.map.now.entries in
    let key = c.args.key in
    let h = c.merge_into.new.known in
    let was = c.in-Some.known.now in (
      h,
      c.merge_into.ensures.now ∙ ap (λ k. latest_of (hist_stamps c.args.more.now ++ known_stamps k)) c.in-Some.ensures.value,
      through.0 ∙ set_there cmp g.met.K.Ord.total key h was old c.get_mut.ensures.ordered (sym c.in-Some.ensures.value),
      through.0
          ∙ ap (set_value (is_at (cmp key)) old) (c.merge_into.ensures.same c.if-merge_into.false)
          ∙ set_value_same (is_at (cmp key)) old was (sym c.in-Some.ensures.value),
    )

-- it is there, and changes
pub returns-then-merge_into-clause-ok : goal.returns-then-merge_into-clause-ok
returns-then-merge_into-clause-ok g c = λ page.
    let cmp = g.K.Ord.cmp in
    let through = c.get_mut.follows.holds c.merge_into.new.known in
    let old = c.args.map.now.entries in
    let h = c.merge_into.new.known in
    let was = c.in-Some.known.now in
    let differs = c.merge_into.ensures.differs c.if-merge_into.true in (
      h,
      c.merge_into.ensures.now ∙ ap (λ k. latest_of (hist_stamps c.args.more.now ++ known_stamps k)) c.in-Some.ensures.value,
      through.0 ∙ set_there cmp g.met.K.Ord.total c.args.key h was old c.get_mut.ensures.ordered (sym c.in-Some.ensures.value),
      (refl, ap (λ x. Some x) c.merge_into.ensures.before ∙ c.in-Some.ensures.value, λ same. differs (cc)),
    )

-- it is new
pub record_new-requires : goal.record_new-requires
record_new-requires g c = ap (λ m. lookup (is_at (g.K.Ord.cmp c.args.key)) m.entries) c.get_mut.follows.holds-at-none ∙ sym c.in_default.ensures.value

pub returns-clause-ok : goal.returns-clause-ok
returns-clause-ok g c =
    let kept = ap (λ m. m.entries) c.get_mut.follows.holds-at-none in
    let more = c.args.more.now in
    subst (λ es. ChangesAt g.K.Ord.cmp es c.args.key more (Some New) more c.record_new.new.map.entries) kept c.in_ok-record_new.ensures.ok
