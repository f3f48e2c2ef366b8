-- The entries of a bucket, which its map has.
use Rattle.std.proofs.Common.{◌≡◌, ℕ, Bool, true, false, cond, List, [], ◌∷◌, ◌==◌, ◌&&◌, ap, sym, refl, ◌∙◌, None, Some, ◌+◌}
use Rattle.std.specs.Ordering.{is_lt, is_le, nat_cmp}
use Rattle.std.specs.BTreeMap.Range.{entries_between}
use Rattle.std.specs.declared.ops.Bound.TheVariants.{Included, Excluded}
use Rattle.std.specs.declared.cmp.Ordering.TheVariants.{Greater}
use Rattle.warm_stamps.specs.declared.PageId.{PageId}
use Rattle.warm_stamps.specs.Buckets.{page_bucket}
use Rattle.warm_stamps.specs.Stamps.{page_cmp}
use Rattle.warm_maps.specs.declared.hist.Entry.{Entry}
use Rattle.warm_maps.specs.BucketMaps.{HoldsBucket}
use Rattle.warm_maps.specs.LaterPages.{after_page, is_next_in_bucket, later_of_bucket}
use Rattle.warm_maps.specs.MapKeys.{first_key}
use Rattle.warm_maps.specs.MapPairs.{MapPairs, as_entries}
use Rattle.warm_maps.proofs.BucketParts.{from_first_on}
use Rattle.warm_maps.proofs.BucketSteps.{AllIn}
use Rattle.warm_maps.proofs.MapKeyOrder.{above, at_most, in_bucket}
use Rattle.warm_maps.proofs.MapPairLemmas.{AreKeys, between}

-- all pairs of a bucket lie between its first key and the next bucket's
all_between : (b : ℕ) (m : MapPairs) → AllIn b m
    → entries_between nat_cmp (Included (first_key b)) (Excluded (first_key (b + 1))) m ≡ m
all_between b [] all = refl
all_between b (e ∷ m) all =
    let from : is_le (nat_cmp (first_key b) e.0) ≡ true = at_most (first_key b) e.0 all.0.0 in
    let to : nat_cmp (first_key (b + 1)) e.0 ≡ Greater = above (first_key (b + 1)) e.0 all.0.1 in
    rw (from, to) (ap (λ t. e ∷ t) (all_between b m all.1))

pub entries_of_bucket : (b : ℕ) (m pairs : MapPairs) → AllIn b m → HoldsBucket b m pairs
    → AreKeys pairs → as_entries m ≡ later_of_bucket b None (as_entries pairs)
entries_of_bucket b m pairs inside holds are =
    ap as_entries (sym (all_between b m inside))
    ∙ ap as_entries (holds _ (from_first_on b))
    ∙ between (Included (first_key b)) (Excluded (first_key (b + 1))) (is_next_in_bucket b None) pairs (in_bucket b) are

-- those after a page
pub after_in_bucket : (b : ℕ) (last : PageId) (es : List Entry)
    → after_page last (later_of_bucket b None es) ≡ later_of_bucket b (Some last) es
after_in_bucket b last [] = refl
after_in_bucket b last (e ∷ es) = cases (page_bucket e.page == b) (is_lt (page_cmp last e.page)) refl (after_in_bucket b last es)
  where
    cases : (own later : Bool) → is_lt (page_cmp last e.page) ≡ later
        → after_page last (later_of_bucket b None es) ≡ later_of_bucket b (Some last) es
        → after_page last (cond (own && true) (e ∷ later_of_bucket b None es)
        (later_of_bucket b None es))
        ≡ cond (own && later) (e ∷ later_of_bucket b (Some last) es)
        (later_of_bucket b (Some last) es)
    cases true true is rest = rw is (ap (λ t. e ∷ t) rest)
    cases true false is rest = rw is rest
    cases false later is rest = rest
