use Rattle.std.proofs.Common.{ℕ, ◌≡◌, ◌<◌, ◌≤◌, ◌&&◌, Bool, true, false, refl, ap, sym, ◌∙◌, arith}
use Rattle.std.specs.Ordering.{nat_cmp, is_lt}
use Rattle.std.specs.Cmp.{nat_cmp_is}
use Rattle.std.specs.declared.cmp.Ordering.TheVariants.{Less, Equal, Greater}
use Rattle.std.specs.BTreeMap.Range.{entries_between}
use Rattle.std.specs.declared.ops.Bound.TheVariants.{Excluded, Unbounded}
use Rattle.warm_stamps.proofs.DistinctLemmas.{by_cases}
use Rattle.std.proofs.lemmas.Cmp.{ranked}
use Rattle.warm_stamps.specs.Stamps.{page_cmp}
use Rattle.warm_maps.specs.MapKeys.{full_key, key_in}
use Rattle.warm_maps.specs.MapPairs.{as_entries}
use Rattle.warm_maps.specs.NearPairs.{widened, IsFar}
use Rattle.warm_maps.proofs.BucketParts.{whole_map}
use Rattle.warm_maps.proofs.NearKeys.{page_near, near_before, far_after, past_far}
use Rattle.warm_maps.proofs.NearParts.{range_after, range_far_after, all_after, after_both}
use Rattle.warm_maps.proofs.bucket_map.BucketMap.pairs_after.Goals as goal

always : (b : Bool) → (b && true) ≡ b
always true = refl
always false = refl

-- no near key is past the last of all
past_last : (k : ℕ) → k < 18446744073709551616 → is_lt (nat_cmp 18446744073709551615 k) ≡ false
past_last k small = by_cases (nat_cmp k 18446744073709551615) _
    (λ less. let lt : k < 18446744073709551615 = ranked k 18446744073709551615 Less (sym less) in ap is_lt (sym (nat_cmp_is 18446744073709551615 k Greater lt)))
    (λ tied. let same : k ≡ 18446744073709551615 = ranked k 18446744073709551615 Equal (sym tied) in ap (λ j. is_lt (nat_cmp 18446744073709551615 j)) same)
    (λ more. let lt : 18446744073709551615 < k = ranked k 18446744073709551615 Greater (sym more) in absurd (omega (arith, lt, small)))

pub returns-then-last-lt-NEAR_DEVICES : goal.returns-then-last-lt-NEAR_DEVICES
returns-then-last-lt-NEAR_DEVICES c =
    let b = c.args.number in
    let last = c.args.last in
    let m = c.args.self.now in
    after_both last (widened b m.near.entries) m.far.entries (widened b c.near_after.result) c.range.result c.near_after.ensures
    (ap as_entries (c.range.ensures.between tt ∙ whole_map m.far.entries) ∙ all_after (IsFar b) last (λ k far. far_after b last k c.if-last-lt-NEAR_DEVICES.true far) m.far.entries c.requires.map.far)

pub returns : goal.returns
returns c =
    let b = c.args.number in
    let last = c.args.last in
    let m = c.args.self.now in
    let high : 64 ≤ last.dev = c.if-last-lt-NEAR_DEVICES.false in
    let fits : last.no < 18446744073709551616 = omega arith in
    after_both last (widened b m.near.entries) m.far.entries (widened b c.range-2.result) c.range-3.result
    (ap (λ t. as_entries (widened b t)) (c.range-2.ensures.between tt)
    ∙ ap (λ k. as_entries (widened b (entries_between nat_cmp (Excluded k) Unbounded m.near.entries))) c.new.ensures
    ∙ range_after (full_key b) (λ k. k < 18446744073709551616) (Excluded 18446744073709551615) last
    (λ k small. always (is_lt (nat_cmp 18446744073709551615 k)) ∙ past_last k small ∙ sym (near_before b last k high small) ∙ ap (λ q. is_lt (page_cmp last q)) (sym (page_near b k small))) m.near.entries c.requires.map.near)
    (ap as_entries (c.range-3.ensures.between tt)
    ∙ ap (λ k. as_entries (entries_between nat_cmp (Excluded k) Unbounded m.far.entries)) c.key_in.ensures
    ∙ range_far_after (IsFar b) (Excluded (key_in b last)) last (λ k far. always (is_lt (nat_cmp (key_in b last) k)) ∙ past_far b last k fits far) m.far.entries c.requires.map.far)
