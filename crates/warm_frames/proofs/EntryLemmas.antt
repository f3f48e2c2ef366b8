-- Entries that are scanned, or read, one after the other.
use Rattle.std.proofs.Common.{◌≡◌, ℕ, suc, ◌+◌, ◌-◌, ◌<◌, ◌≤◌, List, [], ◌∷◌, ◌++◌, length, take, get_or, Option, Some, Result, Ok, Err, refl, sym, ap, ◌∙◌, append_assoc, arith}
use Rattle.std.specs.List.{AllByRecursion}
use Rattle.std.proofs.lemmas.List.{append-nil, take_more}
use Rattle.warm_stamps.specs.declared.PageId.{PageId}
use Rattle.warm_history.specs.Entry.{Entry}
use Rattle.warm_frames.specs.declared.format.Format.{Format}
use Rattle.warm_frames.specs.declared.fault.FrameFault.{FrameFault}
use Rattle.warm_frames.specs.Reading.{◌>>=◌, entry_at, entries_at}

-- what holds of items and of one more holds of all
all_and_one : {A : Type 0} (P : A → Type 0) (xs : List A) (x : A) → AllByRecursion P xs → P x
    → AllByRecursion P (xs ++ x ∷ [])
all_and_one P [] x all one = (one, tt)
all_and_one P (y ∷ xs) x all one = (all.0, all_and_one P xs x all.1 one)

-- what holds of the first i items and of the next
pub all_so_far : {A : Type 0} (P : A → Type 0) (xs : List A) (i : ℕ) (x : A) → i < length xs
    → x ≡ get_or xs i x → AllByRecursion P (take i xs) → P x → AllByRecursion P (take (i + 1) xs)
all_so_far P xs i x lt is all one = rw (take_more xs i x lt, ← is) (all_and_one P (take i xs) x all one)

-- what was read before, and what is still read
abbrev pub with_front : List Entry → Result (List Entry × List ℕ) FrameFault
    → Result (List Entry × List ℕ) FrameFault
with_front front read = read >>= λ x. Ok (front ++ x.0, x.1)

regroup : (front : List Entry) (e : Entry) (read : Result (List Entry × List ℕ) FrameFault)
    → with_front front (read >>= λ x. Ok (e ∷ x.0, x.1)) ≡ with_front (front ++ e ∷ []) read
regroup front e (Ok x) = ap (λ (es : List Entry). Ok (es, x.1)) (simp append_assoc)
regroup front e (Err f) = refl

-- one more entry was read
pub reads_on : (format : Format) (front : List Entry) (count i : ℕ) (before : Option PageId)
    (bytes : List ℕ) (e : Entry) (after : List ℕ) (total : Result (List Entry × List ℕ) FrameFault)
    → i < count → entry_at format before bytes ≡ Ok (e, after)
    → with_front front (entries_at format (count - i) before bytes) ≡ total
    → with_front (front ++ e ∷ []) (entries_at format (count - (i + 1)) (Some e.page) after) ≡ total
unfolding entries_at
reads_on format front count i before bytes e after total lt h so_far =
    let k : count - i ≡ suc (count - (i + 1)) = omega arith in
    let one : with_front front (entries_at format (count - i) before bytes) ≡ with_front (front ++ e ∷ []) (entries_at format (count - (i + 1)) (Some e.page) after) = rw (k, h) (regroup front e (entries_at format (count - (i + 1)) (Some e.page) after)) in
    sym one ∙ so_far

-- an entry has a fault
pub reads_fault : (format : Format) (front : List Entry) (count i : ℕ) (before : Option PageId)
    (bytes : List ℕ) (fault : FrameFault) (total : Result (List Entry × List ℕ) FrameFault)
    → i < count → entry_at format before bytes ≡ Err fault
    → with_front front (entries_at format (count - i) before bytes) ≡ total → total ≡ Err fault
unfolding entries_at
reads_fault format front count i before bytes fault total lt h so_far =
    let k : count - i ≡ suc (count - (i + 1)) = omega arith in
    let one : with_front front (entries_at format (count - i) before bytes) ≡ Err fault = rw (k, h) refl in
    sym so_far ∙ one

-- all were read
pub reads_all : (format : Format) (front : List Entry) (count i : ℕ) (before : Option PageId)
    (bytes : List ℕ) (total : Result (List Entry × List ℕ) FrameFault) → count ≤ i
    → with_front front (entries_at format (count - i) before bytes) ≡ total
    → total ≡ Ok (front, bytes)
unfolding entries_at
reads_all format front count i before bytes total le so_far =
    let k : count - i ≡ 0 = omega arith in
    let one : with_front front (entries_at format (count - i) before bytes) ≡ Ok (front, bytes) = rw k (ap (λ (es : List Entry). Ok (es, bytes)) (append-nil front)) in
    sym so_far ∙ one
