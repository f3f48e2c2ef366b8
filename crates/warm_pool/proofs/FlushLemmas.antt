-- Devices that are flushed one after the other.
use Rattle.std.proofs.Common.{◌≡◌, ◌≢◌, ℕ, zero, suc, ◌+◌, ◌<◌, cond, Bool, true, false, IsTrue, List, [], ◌∷◌, ◌++◌, length, map, set, get_or, Result, Ok, Err, IsOk, OnOk, OnErr, IfOk, IfErr, IsErrAnd, refl, sym, ap, ◌∙◌, subst, inl, inr, arith, get_or-set_same, get_or-set_other}
use Rattle.std.proofs.lemmas.List.{length-set, get_or-map, map-set, set-get_or}
use Rattle.std.proofs.lemmas.Bool.{cases_eq}
use Rattle.warm_devices.specs.Calls.{DeviceCalls, one_call}
use Rattle.warm_devices.specs.Device.{DeviceState, SameShape, CountsFault, CountsCall}
use Rattle.warm_devices.specs.declared.fault.DeviceFault.{DeviceFault}
use Rattle.warm_devices.specs.declared.fault.DeviceFault.TheVariants.{Flush}
use Rattle.warm_pool.specs.State.{nth_device, no_device}
use Rattle.warm_pool.specs.steps.Flushes.{IsFlushed, FlushFails, DeviceFlush, FlushedTo, FlushStops, NoneWaits}

-- the same device
pub same_shape : (d : DeviceState) → SameShape d d
same_shape d = record { pages = refl; page_size = refl; honest = refl; unfailing = refl }

module _ (n : ℕ) (old mid new : List DeviceState) (after : DeviceState) (to : FlushedTo n old mid)
    (lt : n < length old) (becomes : new ≡ set mid n after) where
  here : nth_device new n ≡ after
  here = ap (λ ds. nth_device ds n) becomes ∙ get_or-set_same mid n after no_device (subst (λ m. n < m) (sym to.count) lt)

  others : (k : ℕ) → k ≢ n → nth_device new k ≡ nth_device mid k
  others k ne = ap (λ ds. nth_device ds k) becomes ∙ get_or-set_other mid n k after no_device ne

  same_count : length new ≡ length old
  same_count = ap length becomes ∙ length-set mid n after ∙ to.count

  before : (k : ℕ) → k < n → IsFlushed (nth_device old k) (nth_device new k)
  before k less = subst (λ d. IsFlushed (nth_device old k) d) (sym (others k (omega arith))) (to.done k less)

  later : (k : ℕ) → n < k → nth_device new k ≡ nth_device old k
  later k more = others k (omega arith) ∙ to.rest k (omega arith)

  -- one device more
  pub flushed_more : IsFlushed (nth_device mid n) after → FlushedTo (n + 1) old new
  flushed_more flushed = record {
    count = same_count;
    done = λ k less. elim (cases_eq k n) [
      | inl e ↦ subst (λ m. IsFlushed (nth_device old m) (nth_device new m)) (sym e) (subst (λ d. IsFlushed (nth_device old n) d) (sym here) (subst (λ d. IsFlushed d after) (to.rest n (omega arith)) flushed))
      | inr ne ↦ before k (omega arith)
    ];
    rest = λ k le. later k (omega arith);
  }

  -- or one that fails
  pub flush_stops : FlushFails (nth_device mid n) after → FlushStops old new
  flush_stops failed = record {
    device = n;
    there = lt;
    count = same_count;
    done = before;
    fails = subst (λ d. FlushFails (nth_device old n) d) (sym here) (subst (λ d. FlushFails d after) (to.rest n (omega arith)) failed);
    rest = later;
  }

-- the device that was read from a list
pub nth_read : {A : Type 0} (f : A → DeviceState) (xs : List A) (i : ℕ) (x : A) → i < length xs
    → x ≡ get_or xs i x → nth_device (map f xs) i ≡ f x
nth_read f xs i x lt is = get_or-map f xs i x no_device lt ∙ ap f (sym is)

-- the calls of a device that is settled, by whether it was unflushed
abbrev calls_if : DeviceState → Bool → DeviceCalls
calls_if d waiting = cond waiting (one_call Flush d.calls) d.calls

-- a flushed device needs no flush
pub needs_none : {A : Type 0} (f : A → DeviceState) (xs : List A) (i : ℕ) (x : A) → i < length xs
    → x ≡ get_or xs i x → (f x).waiting ≡ false → DeviceFlush (map f xs) (map f xs) i (Ok tt)
needs_none f xs i x lt is quiet =
    let nth : nth_device (map f xs) i ≡ f x = nth_read f xs i x lt is in
    record {
      after = f x;
      becomes = sym (ap (λ d. set (map f xs) i d) (sym nth) ∙ set-get_or (map f xs) i no_device);
      done = subst (λ d. IsFlushed d (f x)) (sym nth) (record { shape = same_shape (f x); contents = refl; failures = refl; calls = ap (calls_if (f x)) (sym quiet); waiting = quiet });
      failed = tt;
    }

-- a device that answered an error isn't unfailing
pub may_fail : (unfailing : Bool) (fault : DeviceFault) (result : Result (Unit {0}) DeviceFault)
    → result ≡ Err fault → (IsTrue unfailing → IsOk result) → unfailing ≡ false
may_fail false fault result e ok = refl
may_fail true fault result e ok = absurd (never fault (subst IsOk e (ok refl)))
  where
    never : (fault : DeviceFault) → IsOk (let r : Result (Unit {0}) DeviceFault = Err fault in r)
        → ⊥
    never fault h = absurd (cc)

-- what the flush of a device does to the list
pub flushes : {A : Type 0} (f : A → DeviceState) (xs : List A) (i : ℕ) (x y z : A)
    (result : Result (Unit {0}) DeviceFault) → i < length xs → x ≡ get_or xs i x → y ≡ get_or xs i y
    → (f x).waiting ≡ true → SameShape (f y) (f z) → CountsFault Flush result (f y) (f z)
    → CountsCall Flush (f y) (f z)
    → (IsTrue (f y).unfailing → IsOk result)
    → OnOk result ((f z).waiting ≡ false) → OnErr result ((f z).waiting ≡ (f y).waiting)
    → (f z).contents ≡ (f y).contents → DeviceFlush (map f xs) (map f (set xs i z)) i result
flushes f xs i x y z (Ok done) lt is_x is_y waits shape counts calls never flushed kept contents =
    let nth : nth_device (map f xs) i ≡ f y = nth_read f xs i y lt is_y in
    let waited : (f y).waiting ≡ true = ap (λ d. d.waiting) (sym nth ∙ nth_read f xs i x lt is_x) ∙ waits in
    record {
      after = f z;
      becomes = map-set f xs i z;
      done = subst (λ d. IsFlushed d (f z)) (sym nth) (record { shape = shape; contents = contents; failures = counts; calls = calls ∙ ap (calls_if (f y)) (sym waited); waiting = flushed });
      failed = tt;
    }
flushes f xs i x y z (Err fault) lt is_x is_y waits shape counts calls never flushed kept contents =
    let nth : nth_device (map f xs) i ≡ f y = nth_read f xs i y lt is_y in
    let waited : (f y).waiting ≡ true = ap (λ d. d.waiting) (sym nth ∙ nth_read f xs i x lt is_x) ∙ waits in
    record {
      after = f z;
      becomes = map-set f xs i z;
      done = tt;
      failed = subst (λ d. FlushFails d (f z)) (sym nth) (record { may = may_fail (f y).unfailing fault (Err fault) refl never; shape = shape; contents = contents; failures = counts.1; calls = calls ∙ ap (calls_if (f y)) (sym waited); waiting = kept ∙ waited });
    }

-- the last of flushed devices, and those before it
last_of : {A : Type 0} (f : A → DeviceState) (front : List A) (x : A)
    → NoneWaits (map f (front ++ x ∷ [])) → (f x).waiting ≡ false
last_of f [] x none = none 0
last_of f (y ∷ front) x none = last_of f front x (λ k. none (suc k))

front_of : {A : Type 0} (f : A → DeviceState) (front : List A) (x : A)
    → NoneWaits (map f (front ++ x ∷ [])) → NoneWaits (map f front)
front_of f [] x none k = refl
front_of f (y ∷ front) x none zero = none 0
front_of f (y ∷ front) x none (suc k) = front_of f front x (λ j. none (suc j)) k

pub none_last : {A : Type 0} (f : A → DeviceState) (xs front : List A) (x : A)
    → xs ≡ front ++ x ∷ [] → NoneWaits (map f xs) → (f x).waiting ≡ false
none_last f xs front x is none = last_of f front x (subst (λ ys. NoneWaits (map f ys)) is none)

pub none_front : {A : Type 0} (f : A → DeviceState) (xs front : List A) (x : A)
    → xs ≡ front ++ x ∷ [] → NoneWaits (map f xs) → NoneWaits (map f front)
none_front f xs front x is none = front_of f front x (subst (λ ys. NoneWaits (map f ys)) is none)

pub on_err : {T E : Type 0} (result : Result T E) (P : Type 0) → P → OnErr result P
on_err (Ok x) P is = tt
on_err (Err e) P is = is

-- an error that is passed on
pub handed_on : {T E : Type 0} (r : Result T E) (e : E) (P : E → Type 0) → IsErrAnd r (λ y. y ≡ e)
    → P e → IfErr r P
handed_on (Ok x) e P is p = tt
handed_on (Err y) e P is p = subst P (sym is) p

-- what follows from the clause of an outcome
pub if_ok : {T E : Type 0} (P Q : T → Type 0) (r : Result T E) → IfOk r P → ((x : T) → P x → Q x)
    → IfOk r Q
if_ok P Q (Ok x) is follows = follows x is
if_ok P Q (Err e) is follows = tt

pub if_err : {T E : Type 0} (P Q : E → Type 0) (r : Result T E) → IfErr r P → ((e : E) → P e → Q e)
    → IfErr r Q
if_err P Q (Ok x) is follows = tt
if_err P Q (Err e) is follows = follows e is
