-- Keys in half the room: the fields of a key, side by side.
use Rattle.std.specs.Prelude.{◌≡◌, ◌≢◌, ◌==◌, cond}
use Rattle.std.specs.Ordering.{nat_cmp, on, then_cmp}
use Rattle.std.specs.declared.cmp.Ordering.{Ordering}
use Rattle.warm_stamps.specs.declared.Stamp.{Stamp}
use Rattle.warm_stamps.specs.declared.PageId.{PageId}
use Rattle.warm_stamps.specs.Replicas.{IsReplica}
use Rattle.warm_stamps.specs.Stamps.{stamp_at}
use Rattle.warm_rank.specs.declared.RankKey.{RankKey}
use Rattle.warm_rank.specs.declared.RankKey.TheVariants.{Never, Once, Twice}
use Rattle.warm_rank.specs.declared.flat_key.Fields.{Fields}

-- the key that has these fields
abbrev pub key_of_fields : Fields → RankKey
key_of_fields f =
    let page : PageId = record { dev = f.dev; no = f.no } in
    let older : Stamp = stamp_at f.older_time f.older_replica in
    cond (f.stamps == 0) (Never page)
    (cond (f.stamps == 1) (Once older page)
    (Twice older (stamp_at f.later_time f.later_replica) page))

-- the fields of a key: how many stamps are known, the older one, the later one, and the page; a
-- stamp that isn't known is 0
abbrev pub fields_of : RankKey → Fields
fields_of (Never p) =
    record {
      older_time = 0;
      stamps = 0;
      older_replica = 0;
      later_replica = 0;
      dev = p.dev;
      later_time = 0;
      no = p.no;
    }
fields_of (Once a p) =
    record {
      older_time = a.time;
      stamps = 1;
      older_replica = a.replica;
      later_replica = 0;
      dev = p.dev;
      later_time = 0;
      no = p.no;
    }
fields_of (Twice a' a p) =
    record {
      older_time = a'.time;
      stamps = 2;
      older_replica = a'.replica;
      later_replica = a.replica;
      dev = p.dev;
      later_time = a.time;
      no = p.no;
    }

-- these are the fields of a key whose replicas there may be
pub record AreFields (f : Fields) : Type 0 where
  pub again : fields_of (key_of_fields f) ≡ f
  pub older : f.stamps ≢ 0 → IsReplica f.older_replica
  pub later : f.stamps ≢ 0 → f.stamps ≢ 1 → IsReplica f.later_replica

-- field by field
abbrev pub fields_cmp : Fields → Fields → Ordering
fields_cmp =
    then_cmp (on (λ f. f.stamps) nat_cmp)
    (then_cmp (on (λ f. f.older_time) nat_cmp)
    (then_cmp (on (λ f. f.older_replica) nat_cmp)
    (then_cmp (on (λ f. f.later_time) nat_cmp)
    (then_cmp (on (λ f. f.later_replica) nat_cmp)
    (then_cmp (on (λ f. f.dev) nat_cmp)
    (on (λ f. f.no) nat_cmp))))))
