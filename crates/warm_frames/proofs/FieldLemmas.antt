-- A field that is read is the field that was written, and what was written is read again.
use Rattle.std.proofs.Common.{◌≡◌, ℕ, zero, suc, ◌^◌, ◌<◌, ◌≤◌, Bool, true, false, cond, ltb, List, [], ◌∷◌, ◌++◌, length, take, drop, Option, None, Result, Ok, Err, refl, sym, ap, subst, ◌∙◌, append_assoc, arith}
use Rattle.std.specs.Int.{Width, w16, w32, w64, byte_len, from_be_bytes, to_be_bytes}
use Rattle.std.specs.Ordering.{is_lt}
use Rattle.std.specs.declared.cmp.Ordering.{Ordering}
use Rattle.std.specs.declared.cmp.Ordering.TheVariants.{Less, Equal, Greater}
use Rattle.std.proofs.lemmas.Bool.{ltb-false, le-ltb}
use Rattle.std.proofs.lemmas.Bool.Decides.{nat_tests}
use Rattle.std.proofs.lemmas.List.{take_at, drop_at, take-append-drop, length-append, length-take}
use Rattle.std.proofs.lemmas.Nat.{be_bytes_2, be_bytes_4, be_bytes_8, from_be_bytes-to_be_bytes_2, from_be_bytes-to_be_bytes_4, from_be_bytes-to_be_bytes_8}
use Rattle.warm_stamps.specs.declared.Stamp.{Stamp}
use Rattle.warm_stamps.specs.declared.PageId.{PageId}
use Rattle.warm_stamps.specs.Bytes.{bytes_of_stamp, stamp_of, bytes_of_page, page_from_bytes, narrow_bytes_of_page, page_of_narrow, IsReplica, IsStamp, IsPage}
use Rattle.warm_stamps.specs.Stamps.{stamp_cmp}
use Rattle.warm_stamps.proofs.ByteLemmas.{IsBytes, IsBytes-take, IsBytes-drop, stamp_again, stamp_spelled, IsStamp-of, page_again, page_spelled, IsPage-of, narrow_again, narrow_spelled, IsNarrow-of, IsPage-of_narrow}
use Rattle.warm_history.specs.PageHist.{PageHist}
use Rattle.warm_history.specs.PageHist.TheVariants.{Once, Twice}
use Rattle.warm_history.specs.Entry.{Entry}
use Rattle.warm_history.specs.Carried.{comes_after}
use Rattle.warm_frames.specs.declared.format.Format.{Format}
use Rattle.warm_frames.specs.declared.format.Format.TheVariants.{Narrow, Wide}
use Rattle.warm_frames.specs.declared.fault.FrameFault.{FrameFault}
use Rattle.warm_frames.specs.declared.fault.FrameFault.TheVariants.{BadLength, BadStamp, BadOrder}
use Rattle.warm_frames.specs.Entries.{hist_bytes, page_bytes_in, entry_bytes_in, IsHist, IsEntry}
use Rattle.warm_frames.specs.Reading.{◌>>=◌, front_at, number_at, byte_at, want, is_replica, stamp_in, two_in, hist_at, read_page, entry_at, written_entry_at}

-- ---- steps

abbrev pub done : {A : Type 0} → A → Result A FrameFault
done x = Ok x

-- the value of a step that did not fail
pub bind_ok : {A B : Type 0} (r : Result A FrameFault) (f : A → Result B FrameFault) (y : B)
    → (r >>= f) ≡ Ok y → (x : A) × (r ≡ Ok x) × (f x ≡ Ok y)
bind_ok (Ok x) f y e = (x, refl, e)
bind_ok (Err d) f y e = absurd cc

-- a test that did not fail
pub want_ok : {B : Type 0} (b : Bool) (fault : FrameFault) (f : Bool → Result B FrameFault) (y : B)
    → (want b fault >>= f) ≡ Ok y → (b ≡ true) × (f true ≡ Ok y)
want_ok true fault f y e = (refl, e)
want_ok false fault f y e = absurd cc

pub guard_ok : {A : Type 0} (b : Bool) (fault : FrameFault) (x y : A)
    → cond b (Err fault) (Ok x) ≡ Ok y → (b ≡ false) × (x ≡ y)
guard_ok true fault x y e = absurd cc
guard_ok false fault x y e = (refl, cc)

pub chosen_ok : {A : Type 0} (b : Bool) (fault : FrameFault) (x y : A)
    → cond b (Ok x) (Err fault) ≡ Ok y → (b ≡ true) × (x ≡ y)
chosen_ok true fault x y e = (refl, cc)
chosen_ok false fault x y e = absurd cc

pub ok_is : {A : Type 0} (x y : A) → done x ≡ done y → x ≡ y
ok_is x y e = cc

-- what a reader took from the front
pub record Takes (bytes text rest : List ℕ) : Type 0 where
  pub parts : bytes ≡ text ++ rest
  pub rest_fits : IsBytes rest

pub Takes-then : (a x b y c : List ℕ) → Takes a x b → Takes b y c → Takes a (x ++ y) c
Takes-then a x b y c p q = record { parts = p.parts ∙ ap (λ (t : List ℕ). x ++ t) q.parts ∙ sym (append_assoc x y c); rest_fits = q.rest_fits }

-- ---- this many bytes

pub record TakesSome (n : ℕ) (bytes text rest : List ℕ) : Type 0 where
  pub taken : Takes bytes text rest
  pub len : length text ≡ n
  pub fits : IsBytes text

pub front_takes : (n : ℕ) (short : FrameFault) (bytes : List ℕ) (x : List ℕ × List ℕ)
    → IsBytes bytes → front_at n short bytes ≡ Ok x → TakesSome n bytes x.0 x.1
front_takes n short bytes x fits e =
    let g = guard_ok (ltb (length bytes) n) short (take n bytes, drop n bytes) x e in
    let long : n ≤ length bytes = ltb-false _ _ g.0 in
    let made : TakesSome n bytes (take n bytes) (drop n bytes) = record {
      taken = record { parts = sym (take-append-drop n bytes); rest_fits = IsBytes-drop n bytes fits };
      len = omega (arith, length-take n bytes);
      fits = IsBytes-take n bytes fits;
    } in
    subst (λ (p : List ℕ × List ℕ). TakesSome n bytes p.0 p.1) g.1 made

pub front_again : (n : ℕ) (short : FrameFault) (text rest : List ℕ) → length text ≡ n
    → front_at n short (text ++ rest) ≡ Ok (text, rest)
front_again n short text rest len =
    let long : ltb (length (text ++ rest)) n ≡ false = le-ltb _ _ (omega (arith, length-append text rest)) in
    rw (long, take_at text rest n len, drop_at text rest n len) refl

pub IsBytes-later : (b : ℕ) (bytes : List ℕ) → IsBytes (b ∷ bytes) → IsBytes bytes
IsBytes-later b bytes fits i = fits (suc i)

pub byte_takes : (short : FrameFault) (bytes : List ℕ) (x : ℕ × List ℕ) → IsBytes bytes
    → byte_at short bytes ≡ Ok x → Takes bytes (x.0 ∷ []) x.1
byte_takes short [] x fits e = absurd cc
byte_takes short (b ∷ bytes) x fits e =
    subst (λ (p : ℕ × List ℕ). Takes (b ∷ bytes) (p.0 ∷ []) p.1) (ok_is (b, bytes) x e) (record { parts = refl; rest_fits = IsBytes-later b bytes fits })

-- ---- numbers

pub record IsWide (w : Width) (limit : ℕ) : Type 0 where
  pub len : (n : ℕ) → length (to_be_bytes w n) ≡ byte_len w
  pub back : (bytes : List ℕ) → length bytes ≡ byte_len w → IsBytes bytes
      → to_be_bytes w (from_be_bytes w bytes) ≡ bytes
  pub again : (n : ℕ) → n < limit → from_be_bytes w (to_be_bytes w n) ≡ n
  pub below : (bytes : List ℕ) → IsBytes bytes → from_be_bytes w bytes < limit

pub wide16 : IsWide w16 (2 ^ 16)
wide16 = record {
  len = λ n. refl;
  back = λ bytes len fits. be_bytes_2 bytes _ len fits refl;
  again = λ n lt. from_be_bytes-to_be_bytes_2 n lt;
  below = λ bytes fits. omega (arith, fits 0, fits 1);
}

pub wide32 : IsWide w32 (2 ^ 32)
wide32 = record {
  len = λ n. refl;
  back = λ bytes len fits. be_bytes_4 bytes _ len fits refl;
  again = λ n lt. from_be_bytes-to_be_bytes_4 n lt;
  below = λ bytes fits. omega (arith, fits 0, fits 1, fits 2, fits 3);
}

pub wide64 : IsWide w64 (2 ^ 64)
wide64 = record {
  len = λ n. refl;
  back = λ bytes len fits. be_bytes_8 bytes _ len fits refl;
  again = λ n lt. from_be_bytes-to_be_bytes_8 n lt;
  below = λ bytes fits. omega (arith, fits 0, fits 1, fits 2, fits 3, fits 4, fits 5, fits 6, fits 7);
}

pub number_takes : (w : Width) (limit : ℕ) (short : FrameFault) (wide : IsWide w limit)
    (bytes : List ℕ) (x : ℕ × List ℕ) → IsBytes bytes → number_at w short bytes ≡ Ok x
    → Takes bytes (to_be_bytes w x.0) x.1 × (x.0 < limit)
number_takes w limit short wide bytes x fits e =
    let g = guard_ok (ltb (length bytes) (byte_len w)) short (from_be_bytes w (take (byte_len w) bytes), drop (byte_len w) bytes) x e in
    let long : byte_len w ≤ length bytes = ltb-false _ _ g.0 in
    let front-fits = IsBytes-take (byte_len w) bytes fits in
    let front : to_be_bytes w (from_be_bytes w (take (byte_len w) bytes)) ≡ take (byte_len w) bytes = wide.back (take (byte_len w) bytes) (omega (arith, length-take (byte_len w) bytes)) front-fits in
    let made : Takes bytes (to_be_bytes w (from_be_bytes w (take (byte_len w) bytes))) (drop (byte_len w) bytes) = record {
      parts = rw front (sym (take-append-drop (byte_len w) bytes));
      rest_fits = IsBytes-drop (byte_len w) bytes fits;
    } in
    subst (λ (p : ℕ × List ℕ). Takes bytes (to_be_bytes w p.0) p.1 × (p.0 < limit)) g.1 (made, wide.below (take (byte_len w) bytes) front-fits)

pub number_again : (w : Width) (limit : ℕ) (short : FrameFault) (wide : IsWide w limit) (n : ℕ)
    (rest : List ℕ) → n < limit → number_at w short (to_be_bytes w n ++ rest) ≡ Ok (n, rest)
number_again w limit short wide n rest lt =
    let len = wide.len n in
    let long : ltb (length (to_be_bytes w n ++ rest)) (byte_len w) ≡ false = le-ltb _ _ (omega (arith, length-append (to_be_bytes w n) rest)) in
    rw (long, take_at (to_be_bytes w n) rest (byte_len w) len, drop_at (to_be_bytes w n) rest (byte_len w) len, wide.again n lt) refl

-- ---- stamps

pub replica_is : (n : ℕ) → is_replica n ≡ true → IsReplica n
replica_is n e = grind (arith, nat_tests)

pub replica_true : (n : ℕ) → IsReplica n → is_replica n ≡ true
replica_true n h = grind (arith, nat_tests)

pub stamp_takes : (ten : List ℕ) (s : Stamp) → length ten ≡ 10 → IsBytes ten → stamp_in ten ≡ Ok s
    → (ten ≡ bytes_of_stamp s) × IsStamp s
stamp_takes ten s len fits e =
    let g = chosen_ok (is_replica (stamp_of ten).replica) BadStamp (stamp_of ten) s e in
    subst (λ (t : Stamp). (ten ≡ bytes_of_stamp t) × IsStamp t) g.1 (sym (stamp_spelled ten len fits), IsStamp-of ten fits (replica_is _ g.0))

pub stamp_in_again : (s : Stamp) → IsStamp s → stamp_in (bytes_of_stamp s) ≡ Ok s
stamp_in_again s fits =
    ap (λ (t : Stamp). cond (is_replica t.replica) (Ok t) (Err BadStamp)) (stamp_again s fits) ∙ rw (replica_true s.replica fits.replica) refl

pub less_is : (o : Ordering) → is_lt o ≡ true → o ≡ Less
less_is Less e = refl
less_is Equal e = absurd cc
less_is Greater e = absurd cc

pub less_true : (o : Ordering) → o ≡ Less → is_lt o ≡ true
less_true o e = ap is_lt e

-- ---- what is kept of a page

two_takes : (later earlier : List ℕ) (h : PageHist) → length later ≡ 10 → length earlier ≡ 10
    → IsBytes later → IsBytes earlier → two_in later earlier ≡ Ok h
    → (2 ∷ (later ++ earlier) ≡ hist_bytes h) × IsHist h
unfolding two_in
two_takes later earlier h len1 len2 fits1 fits2 e =
    let a = bind_ok (stamp_in later) (λ last. stamp_in earlier >>= λ prev. want (is_lt (stamp_cmp prev last)) BadStamp >>= λ older. Ok (Twice (record { last = last; prev = prev }))) h e in
    let b = bind_ok (stamp_in earlier) (λ prev. want (is_lt (stamp_cmp prev a.0)) BadStamp >>= λ older. Ok (Twice (record { last = a.0; prev = prev }))) h a.2 in
    let g = want_ok (is_lt (stamp_cmp b.0 a.0)) BadStamp (λ older. Ok (Twice (record { last = a.0; prev = b.0 }))) h b.2 in
    let t1 = stamp_takes later a.0 len1 fits1 a.1 in
    let t2 = stamp_takes earlier b.0 len2 fits2 b.1 in
    let both : later ++ earlier ≡ bytes_of_stamp a.0 ++ bytes_of_stamp b.0 = λ i. t1.0 i ++ t2.0 i in
    let made : PageHist = Twice (record { last = a.0; prev = b.0 }) in
    subst (λ (k : PageHist). (2 ∷ (later ++ earlier) ≡ hist_bytes k) × IsHist k) (ok_is made h g.1)
    (ap (λ (w : List ℕ). 2 ∷ w) both, (t1.1, t2.1, less_is _ g.0))

pub record TakesHist (tag : ℕ) (bytes : List ℕ) (x : PageHist × List ℕ) : Type 0 where
  pub taken : Takes (tag ∷ bytes) (hist_bytes x.0) x.1
  pub fits : IsHist x.0

pub hist_takes : (tag : ℕ) (bytes : List ℕ) (x : PageHist × List ℕ) → IsBytes bytes
    → hist_at tag bytes ≡ Ok x → TakesHist tag bytes x
unfolding hist_at
hist_takes zero bytes x fits e = absurd cc
hist_takes (suc zero) bytes x fits e =
    let a = bind_ok (front_at 10 BadLength bytes) (λ last. stamp_in last.0 >>= λ stamp. Ok (Once stamp, last.1)) x e in
    let b = bind_ok (stamp_in a.0.0) (λ stamp. Ok (Once stamp, a.0.1)) x a.2 in
    let t = front_takes 10 BadLength bytes a.0 fits a.1 in
    let s = stamp_takes a.0.0 b.0 t.len t.fits b.1 in
    let made : PageHist × List ℕ = (Once b.0, a.0.1) in
    subst (TakesHist 1 bytes) (ok_is made x b.2) (record {
      taken = record { parts = ap (λ (w : List ℕ). 1 ∷ w) (t.taken.parts ∙ ap (λ (w : List ℕ). w ++ a.0.1) s.0); rest_fits = t.taken.rest_fits };
      fits = s.1;
    })
hist_takes (suc (suc zero)) bytes x fits e =
    let a = bind_ok (front_at 10 BadLength bytes) (λ last. front_at 10 BadLength last.1 >>= λ prev. two_in last.0 prev.0 >>= λ two. Ok (two, prev.1)) x e in
    let b = bind_ok (front_at 10 BadLength a.0.1) (λ prev. two_in a.0.0 prev.0 >>= λ two. Ok (two, prev.1)) x a.2 in
    let d = bind_ok (two_in a.0.0 b.0.0) (λ two. Ok (two, b.0.1)) x b.2 in
    let t1 = front_takes 10 BadLength bytes a.0 fits a.1 in
    let t2 = front_takes 10 BadLength a.0.1 b.0 t1.taken.rest_fits b.1 in
    let two = two_takes a.0.0 b.0.0 d.0 t1.len t2.len t1.fits t2.fits d.1 in
    let both = Takes-then bytes a.0.0 a.0.1 b.0.0 b.0.1 t1.taken t2.taken in
    let made : PageHist × List ℕ = (d.0, b.0.1) in
    subst (TakesHist 2 bytes) (ok_is made x d.2) (record {
      taken = record { parts = ap (λ (w : List ℕ). 2 ∷ w) both.parts ∙ ap (λ (w : List ℕ). w ++ b.0.1) two.0; rest_fits = both.rest_fits };
      fits = two.1;
    })
hist_takes (suc (suc (suc tag))) bytes x fits e = absurd cc

-- the number of stamps, and the stamps
abbrev pub hist_tag : PageHist → ℕ
hist_tag (Once last) = 1
hist_tag (Twice two) = 2

abbrev pub stamps_bytes : PageHist → List ℕ
stamps_bytes (Once last) = bytes_of_stamp last
stamps_bytes (Twice two) = bytes_of_stamp two.last ++ bytes_of_stamp two.prev

pub hist_bytes-tag : (h : PageHist) → hist_bytes h ≡ hist_tag h ∷ stamps_bytes h
hist_bytes-tag (Once last) = refl
hist_bytes-tag (Twice two) = refl

pub hist_again : (h : PageHist) (rest : List ℕ) → IsHist h
    → hist_at (hist_tag h) (stamps_bytes h ++ rest) ≡ Ok (h, rest)
unfolding hist_at two_in
hist_again (Once last) rest fits = rw (front_again 10 BadLength (bytes_of_stamp last) rest refl, stamp_in_again last fits) refl
hist_again (Twice two) rest fits =
    let regrouped : (bytes_of_stamp two.last ++ bytes_of_stamp two.prev) ++ rest ≡ bytes_of_stamp two.last ++ (bytes_of_stamp two.prev ++ rest) = append_assoc (bytes_of_stamp two.last) (bytes_of_stamp two.prev) rest in
    ap (hist_at 2) regrouped ∙ rw (front_again 10 BadLength (bytes_of_stamp two.last) (bytes_of_stamp two.prev ++ rest) refl, front_again 10 BadLength (bytes_of_stamp two.prev) rest refl, stamp_in_again two.last fits.0, stamp_in_again two.prev fits.1, fits.2) refl

-- ---- pages

-- the page has a number that the format can hold
abbrev pub IsNarrowIn : Format → PageId → Type 0
IsNarrowIn Narrow p = p.no < 2 ^ 32
IsNarrowIn Wide p = Unit {0}

pub record TakesPage (format : Format) (bytes : List ℕ) (x : PageId × List ℕ) : Type 0 where
  pub taken : Takes bytes (page_bytes_in format x.0) x.1
  pub fits : IsPage x.0
  pub narrow : IsNarrowIn format x.0

page_takes : (format : Format) (bytes : List ℕ) (x : PageId × List ℕ) → IsBytes bytes
    → read_page format bytes ≡ Ok x → TakesPage format bytes x
unfolding read_page
page_takes Narrow bytes x fits e =
    let a = bind_ok (front_at 6 BadLength bytes) (λ six. Ok (page_of_narrow six.0, six.1)) x e in
    let t = front_takes 6 BadLength bytes a.0 fits a.1 in
    let page = page_of_narrow a.0.0 in
    let made : PageId × List ℕ = (page, a.0.1) in
    subst (TakesPage Narrow bytes) (ok_is made x a.2) (record {
      taken = record { parts = t.taken.parts ∙ ap (λ (w : List ℕ). w ++ a.0.1) (sym (narrow_spelled a.0.0 t.len t.fits)); rest_fits = t.taken.rest_fits };
      fits = IsPage-of_narrow a.0.0 t.fits;
      narrow = (IsNarrow-of a.0.0 t.fits).no;
    })
page_takes Wide bytes x fits e =
    let a = bind_ok (front_at 10 BadLength bytes) (λ ten. Ok (page_from_bytes ten.0, ten.1)) x e in
    let t = front_takes 10 BadLength bytes a.0 fits a.1 in
    let page = page_from_bytes a.0.0 in
    let made : PageId × List ℕ = (page, a.0.1) in
    subst (TakesPage Wide bytes) (ok_is made x a.2) (record {
      taken = record { parts = t.taken.parts ∙ ap (λ (w : List ℕ). w ++ a.0.1) (sym (page_spelled a.0.0 t.len t.fits)); rest_fits = t.taken.rest_fits };
      fits = IsPage-of a.0.0 t.fits;
      narrow = tt;
    })

page_at_again : (format : Format) (p : PageId) (rest : List ℕ) → IsPage p → IsNarrowIn format p
    → read_page format (page_bytes_in format p ++ rest) ≡ Ok (p, rest)
unfolding read_page
page_at_again Narrow p rest fits narrow = rw (front_again 6 BadLength (narrow_bytes_of_page p) rest refl, narrow_again p (record { dev = fits.dev; no = narrow })) refl
page_at_again Wide p rest fits narrow = rw (front_again 10 BadLength (bytes_of_page p) rest refl, page_again p fits) refl

-- ---- entries

pub record TakesEntry (format : Format) (before : Option PageId) (bytes : List ℕ)
    (x : Entry × List ℕ) : Type 0 where
  pub taken : Takes bytes (entry_bytes_in format x.0) x.1
  pub fits : IsEntry x.0
  pub narrow : IsNarrowIn format x.0.page
  pub greater : comes_after before x.0.page ≡ true

pub entry_takes : (format : Format) (before : Option PageId) (bytes : List ℕ) (x : Entry × List ℕ)
    → IsBytes bytes → entry_at format before bytes ≡ Ok x → TakesEntry format before bytes x
unfolding entry_at
entry_takes format before bytes x fits e =
    let a = bind_ok (read_page format bytes) (λ page. want (comes_after before page.0) BadOrder >>= λ greater. byte_at BadLength page.1 >>= λ tag. hist_at tag.0 tag.1 >>= λ hist. Ok (record { page = page.0; hist = hist.0 }, hist.1)) x e in
    let page = a.0.0 in
    let g = want_ok (comes_after before page) BadOrder (λ greater. byte_at BadLength a.0.1 >>= λ tag. hist_at tag.0 tag.1 >>= λ hist. Ok (record { page = page; hist = hist.0 }, hist.1)) x a.2 in
    let b = bind_ok (byte_at BadLength a.0.1) (λ tag. hist_at tag.0 tag.1 >>= λ hist. Ok (record { page = page; hist = hist.0 }, hist.1)) x g.1 in
    let d = bind_ok (hist_at b.0.0 b.0.1) (λ hist. Ok (record { page = page; hist = hist.0 }, hist.1)) x b.2 in
    let t1 = page_takes format bytes a.0 fits a.1 in
    let t2 = byte_takes BadLength a.0.1 b.0 t1.taken.rest_fits b.1 in
    let t3 = hist_takes b.0.0 b.0.1 d.0 t2.rest_fits d.1 in
    let later : Takes a.0.1 (hist_bytes d.0.0) d.0.1 = record { parts = t2.parts ∙ t3.taken.parts; rest_fits = t3.taken.rest_fits } in
    let made : Entry × List ℕ = (record { page = page; hist = d.0.0 }, d.0.1) in
    subst (TakesEntry format before bytes) (ok_is made x d.2) (record {
      taken = Takes-then bytes (page_bytes_in format page) a.0.1 (hist_bytes d.0.0) d.0.1 t1.taken later;
      fits = record { page = t1.fits; hist = t3.fits };
      narrow = t1.narrow;
      greater = g.0;
    })

pub entry_again : (format : Format) (before : Option PageId) (e : Entry) (rest : List ℕ) → IsEntry e
    → IsNarrowIn format e.page → comes_after before e.page ≡ true
    → entry_at format before (entry_bytes_in format e ++ rest) ≡ Ok (e, rest)
unfolding entry_at
entry_again format before e rest fits narrow greater =
    let text = page_bytes_in format e.page in
    let tagged : hist_bytes e.hist ++ rest ≡ hist_tag e.hist ∷ (stamps_bytes e.hist ++ rest) = ap (λ (w : List ℕ). w ++ rest) (hist_bytes-tag e.hist) in
    let regrouped : entry_bytes_in format e ++ rest ≡ text ++ (hist_tag e.hist ∷ (stamps_bytes e.hist ++ rest)) = append_assoc text (hist_bytes e.hist) rest ∙ ap (λ (w : List ℕ). text ++ w) tagged in
    ap (entry_at format before) regrouped ∙ rw (page_at_again format e.page (hist_tag e.hist ∷ (stamps_bytes e.hist ++ rest)) fits.page narrow, greater, hist_again e.hist rest fits.hist) refl

-- what is written of an entry is read
pub written_again : (before : Option PageId) (e : Entry) (rest : List ℕ) → IsEntry e
    → comes_after before e.page ≡ true
    → written_entry_at before (entry_bytes_in Wide e ++ rest) ≡ Ok (e, rest)
written_again before e rest fits greater = entry_again Wide before e rest fits tt greater

-- nothing is no entry
pub nothing_written : written_entry_at None [] ≡ Err BadLength
unfolding entry_at read_page
nothing_written = refl
