-- Frames as they are stored: their pages, their statuses and the rest of each, in lists of one
-- length.
use Rattle.std.proofs.Common.{◌≡◌, ◌≢◌, ℕ, zero, suc, ◌<◌, List, [], ◌∷◌, length, map, set, get_or, replicate, Option, Some, None, refl, sym, ◌∙◌, ap, subst, arith}
use Rattle.std.proofs.lemmas.List.{set-get_or, length-set, length-replicate, get_or_read}
use Rattle.warm_stamps.specs.declared.PageId.{PageId}
use Rattle.warm_rank.specs.declared.RankKey.{RankKey}
use Rattle.warm_rank.specs.Keys.{key_cmp}
use Rattle.warm_rank.specs.Slots.{key_at}
use Rattle.warm_rank.specs.Behind.{IsBehind, AreRepaired}
use Rattle.warm_frame_table.specs.declared.frame.Status.{Status}
use Rattle.warm_frame_table.specs.Frames.{FrameState, FramesState, nth_frame, fresh_frame, eviction_key, pages_held}
use Rattle.warm_frame_table.specs.FrameSteps.{changed_at}
use Rattle.warm_frame_table.specs.stored.Parts.{FrameBody, rank_in, frame_of, frames_of, fresh_body, unused_status}
use Rattle.warm_frame_table.specs.stored.Tied.{AreTied, LagsBehind}
use Rattle.warm_frame_table.proofs.ListLemmas.{at_set}
use Rattle.warm_frame_table.proofs.LagLemmas.{IsUpdated, fresh_lag, all_behind, all_repaired}

-- the frames of a pool whose pages have this size
abbrev pub kept : ℕ → List (Option PageId) → List Status → List FrameBody → FramesState
kept size pages statuses bodies = record { page_size = size; frames = frames_of pages statuses bodies }

-- one frame of them
abbrev pub frame_kept : List (Option PageId) → List Status → List FrameBody → ℕ → FrameState
frame_kept pages statuses bodies i = frame_of (get_or pages i None) (get_or statuses i unused_status) (get_or bodies i (fresh_body []))

count : (ps : List (Option PageId)) (ss : List Status) (bs : List FrameBody) → length ss ≡ length ps
    → length bs ≡ length ps
    → length (frames_of ps ss bs) ≡ length ps
count [] ss bs h k = refl
count (p ∷ ps) [] bs h k = absurd (omega arith)
count (p ∷ ps) (s ∷ ss) [] h k = absurd (omega arith)
count (p ∷ ps) (s ∷ ss) (b ∷ bs) h k = ap suc (count ps ss bs (omega arith) (omega arith))

nth : (ps : List (Option PageId)) (ss : List Status) (bs : List FrameBody) (i : ℕ) → i < length ps
    → length ss ≡ length ps → length bs ≡ length ps
    → nth_frame (frames_of ps ss bs) i ≡ frame_kept ps ss bs i
nth [] ss bs i l h k = absurd (omega arith)
nth (p ∷ ps) [] bs i l h k = absurd (omega arith)
nth (p ∷ ps) (s ∷ ss) [] i l h k = absurd (omega arith)
nth (p ∷ ps) (s ∷ ss) (b ∷ bs) zero l h k = refl
nth (p ∷ ps) (s ∷ ss) (b ∷ bs) (suc i) l h k = nth ps ss bs i (omega arith) (omega arith) (omega arith)

held : (ps : List (Option PageId)) (ss : List Status) (bs : List FrameBody) → length ss ≡ length ps
    → length bs ≡ length ps
    → pages_held (frames_of ps ss bs) ≡ ps
held [] ss bs h k = refl
held (p ∷ ps) [] bs h k = absurd (omega arith)
held (p ∷ ps) (s ∷ ss) [] h k = absurd (omega arith)
held (p ∷ ps) (s ∷ ss) (b ∷ bs) h k = ap (λ qs. p ∷ qs) (held ps ss bs (omega arith) (omega arith))

changed : (ps : List (Option PageId)) (ss : List Status) (bs : List FrameBody) (i : ℕ)
    (p : Option PageId) (s : Status) (b : FrameBody)
    → frames_of (set ps i p) (set ss i s) (set bs i b) ≡ set (frames_of ps ss bs) i (frame_of p s b)
changed [] ss bs i p s b = refl
changed (q ∷ ps) [] bs zero p s b = refl
changed (q ∷ ps) [] bs (suc i) p s b = refl
changed (q ∷ ps) (r ∷ ss) [] zero p s b = refl
changed (q ∷ ps) (r ∷ ss) [] (suc i) p s b = refl
changed (q ∷ ps) (r ∷ ss) (c ∷ bs) zero p s b = refl
changed (q ∷ ps) (r ∷ ss) (c ∷ bs) (suc i) p s b = ap (λ fs. frame_of q r c ∷ fs) (changed ps ss bs i p s b)

-- if there is a frame of index i, there are its page, its status and its body
pub within : (ps : List (Option PageId)) (ss : List Status) (bs : List FrameBody) (i : ℕ)
    → i < length (frames_of ps ss bs)
    → (i < length ps) × (i < length ss) × (i < length bs)
within [] ss bs i l = absurd (omega arith)
within (p ∷ ps) [] bs i l = absurd (omega arith)
within (p ∷ ps) (s ∷ ss) [] i l = absurd (omega arith)
within (p ∷ ps) (s ∷ ss) (b ∷ bs) zero l = (omega arith, omega arith, omega arith)
within (p ∷ ps) (s ∷ ss) (b ∷ bs) (suc i) l =
    let rest = within ps ss bs i (omega arith) in (omega (arith, rest.0), omega (arith, rest.1), omega (arith, rest.2))

pub nth_within : (ps : List (Option PageId)) (ss : List Status) (bs : List FrameBody) (i : ℕ)
    → i < length (frames_of ps ss bs)
    → nth_frame (frames_of ps ss bs) i ≡ frame_kept ps ss bs i
nth_within [] ss bs i l = absurd (omega arith)
nth_within (p ∷ ps) [] bs i l = absurd (omega arith)
nth_within (p ∷ ps) (s ∷ ss) [] i l = absurd (omega arith)
nth_within (p ∷ ps) (s ∷ ss) (b ∷ bs) zero l = refl
nth_within (p ∷ ps) (s ∷ ss) (b ∷ bs) (suc i) l = nth_within ps ss bs i (omega arith)

-- What is seen of them

module _ {ps : List (Option PageId)} {ss : List Status} {bs : List FrameBody}
    {contest : List (Option RankKey)} {size : ℕ} {v : FramesState}
    (t : AreTied ps ss bs contest) (e : kept size ps ss bs ≡ v) where
  -- a frame that is seen has a page, a status and a body
  pub has_page : (i : ℕ) → i < length v.frames → i < length ps
  has_page i h = subst (λ n. i < n) (count ps ss bs t.status_each t.body_each) (subst (λ w. i < length w.frames) (sym e) h)

  -- the same of a vector of statuses, or of bodies, of length n
  pub has_status : (i : ℕ) → i < length v.frames → {n : ℕ} → n ≡ length ss → i < n
  has_status i h count = subst (λ n. i < n) (sym (count ∙ t.status_each)) (has_page i h)

  pub has_body : (i : ℕ) → i < length v.frames → {n : ℕ} → n ≡ length bs → i < n
  has_body i h count = subst (λ n. i < n) (sym (count ∙ t.body_each)) (has_page i h)

  -- how many are seen, which pages they hold, and one of them
  pub seen_count : length bs ≡ length v.frames
  seen_count = t.body_each ∙ sym (count ps ss bs t.status_each t.body_each) ∙ ap (λ w. length w.frames) e

  pub seen_pages : ps ≡ pages_held v.frames
  seen_pages = sym (held ps ss bs t.status_each t.body_each) ∙ ap (λ w. pages_held w.frames) e

  pub seen : (i : ℕ) → i < length v.frames → frame_kept ps ss bs i ≡ nth_frame v.frames i
  seen i h = sym (nth ps ss bs i (has_page i h) t.status_each t.body_each) ∙ ap (λ w. nth_frame w.frames i) e

  -- a status and a body that were read
  pub status_is : (i : ℕ) → i < length v.frames → (s : Status) → s ≡ get_or ss i s
      → s ≡ get_or ss i unused_status
  status_is i h s is = get_or_read ss i s (has_status i h refl) is unused_status

  pub body_is : (i : ℕ) → i < length v.frames → (b x : FrameBody) → b ≡ x → x ≡ get_or bs i x
      → b ≡ get_or bs i (fresh_body [])
  body_is i h b x same is = same ∙ get_or_read bs i x (has_body i h refl) is (fresh_body [])

-- the rank left in a frame is that of its page, if it has one
pub rank_of_page : (page : Option PageId) (key : Option RankKey) → page ≢ None
    → rank_in page key ≡ key
rank_of_page None key some = absurd (some refl)
rank_of_page (Some page) key some = refl

-- The frames after one of them changes

-- frame i has this page, this status and this body, and the others are unchanged
pub record Changes (ps : List (Option PageId)) (ss : List Status) (bs : List FrameBody) (i : ℕ)
    (p : Option PageId) (s : Status) (b : FrameBody)
    (ps' : List (Option PageId)) (ss' : List Status) (bs' : List FrameBody) : Type 0 where
  pub pages : ps' ≡ set ps i p
  pub statuses : ss' ≡ set ss i s
  pub bodies : bs' ≡ set bs i b

-- a part that stays is set to what it is
pub page_stays : (ps : List (Option PageId)) (i : ℕ) → ps ≡ set ps i (get_or ps i None)
page_stays ps i = sym (set-get_or ps i None)

pub status_stays : (ss : List Status) (i : ℕ) → ss ≡ set ss i (get_or ss i unused_status)
status_stays ss i = sym (set-get_or ss i unused_status)

pub body_stays : (bs : List FrameBody) (i : ℕ) → bs ≡ set bs i (get_or bs i (fresh_body []))
body_stays bs i = sym (set-get_or bs i (fresh_body []))

become : {ps ps' : List (Option PageId)} {ss ss' : List Status} {bs bs' : List FrameBody} {i : ℕ}
    {p : Option PageId} {s : Status} {b : FrameBody}
    → Changes ps ss bs i p s b ps' ss' bs'
    → frames_of ps' ss' bs' ≡ set (frames_of ps ss bs) i (frame_of p s b)
become {ps} {ps'} {ss} {ss'} {bs} {bs'} {i} {p} {s} {b} c =
    ap (λ xs. frames_of xs ss' bs') c.pages ∙ ap (λ xs. frames_of (set ps i p) xs bs') c.statuses
    ∙ ap (λ xs. frames_of (set ps i p) (set ss i s) xs) c.bodies ∙ changed ps ss bs i p s b

-- the frames that are seen, if the changed one is what the change makes of it
pub becomes : {ps ps' : List (Option PageId)} {ss ss' : List Status} {bs bs' : List FrameBody}
    {contest : _} {size : ℕ} {v : FramesState} {p : Option PageId} {s : Status} {b : FrameBody}
    → AreTied ps ss bs contest → kept size ps ss bs ≡ v → (i : ℕ) → i < length v.frames
    → Changes ps ss bs i p s b ps' ss' bs'
    → (change : FrameState → FrameState) → frame_of p s b ≡ change (frame_kept ps ss bs i)
    → kept size ps' ss' bs' ≡ changed_at v i change
becomes {ps} {ps'} {ss} {ss'} {bs} {bs'} {size = size} t e i h c change is =
    let here = nth ps ss bs i (has_page t e i h) t.status_each t.body_each in
    ap (λ fs. record { page_size = size; frames = fs }) (become c ∙ ap (set (frames_of ps ss bs) i) (is ∙ ap change (sym here)))
    ∙ ap (λ w. changed_at w i change) e

-- they stay tied, if the contest was updated for the changed frame
pub stay_tied : {ps ps' : List (Option PageId)} {ss ss' : List Status} {bs bs' : List FrameBody}
    {contest contest' : _} {i : ℕ} {p : Option PageId} {s : Status} {b : FrameBody}
    → AreTied ps ss bs contest → Changes ps ss bs i p s b ps' ss' bs' → i < length ps
    → IsUpdated contest i (frame_of p s b) contest' → AreTied ps' ss' bs' contest'
stay_tied {ps} {ps'} {ss} {ss'} {bs} {bs'} {contest} {contest'} {i} {p} {s} {b} t c there update =
    let room = ap length c.pages ∙ length-set ps i p in
    let frames = frames_of ps ss bs in
    record {
      status_each = ap length c.statuses ∙ length-set ss i s ∙ t.status_each ∙ sym room;
      body_each = ap length c.bodies ∙ length-set bs i b ∙ t.body_each ∙ sym room;
      contest_each = update.count ∙ t.contest_each ∙ sym room;
      lags = subst (λ fs. (j : ℕ) → LagsBehind (key_at contest' j) (nth_frame fs j)) (sym (become c))
          (at_set (fresh_frame []) (λ j f. LagsBehind (key_at contest' j) f) frames i (frame_of p s b)
          (subst (λ n. i < n) (sym (count ps ss bs t.status_each t.body_each)) there) update.here
          (λ j ne. subst (λ k. LagsBehind k (nth_frame frames j)) (sym (update.others j ne)) (t.lags j)));
    }

-- each has its slot
pub has_slot : {ps : List (Option PageId)} {ss : List Status} {bs : List FrameBody} {contest : _}
    → AreTied ps ss bs contest → (i : ℕ) → i < length ps → i < length contest
has_slot t i there = subst (λ n. i < n) (sym t.contest_each) there

-- what the contest knows of one of them
pub lags_at : {ps : List (Option PageId)} {ss : List Status} {bs : List FrameBody} {contest : _}
    → AreTied ps ss bs contest → (i : ℕ) → i < length ps
    → LagsBehind (key_at contest i) (frame_kept ps ss bs i)
lags_at {ps} {ss} {bs} {contest} t i there = subst (LagsBehind (key_at contest i)) (nth ps ss bs i there t.status_each t.body_each) (t.lags i)

-- the contest is behind what competes, and stays tied as slots of it are repaired
pub tied_behind : {ps : List (Option PageId)} {ss : List Status} {bs : List FrameBody} {contest : _}
    → AreTied ps ss bs contest → IsBehind key_cmp contest (map eviction_key (frames_of ps ss bs))
tied_behind {ps} {ss} {bs} {contest} t = all_behind (frames_of ps ss bs) contest (t.contest_each ∙ sym (count ps ss bs t.status_each t.body_each)) t.lags

pub repaired_tied : {ps : List (Option PageId)} {ss : List Status} {bs : List FrameBody}
    {contest contest' : _} → AreTied ps ss bs contest
    → AreRepaired contest (map eviction_key (frames_of ps ss bs)) contest'
    → AreTied ps ss bs contest'
repaired_tied {ps} {ss} {bs} {contest} {contest'} t are = record {
  status_each = t.status_each;
  body_each = t.body_each;
  contest_each = are.count ∙ t.contest_each;
  lags = all_repaired (frames_of ps ss bs) contest contest' are t.lags;
}

-- Frames into which no page was put

frames_fresh : (n : ℕ) (bytes : List ℕ)
    → frames_of (replicate n None) (replicate n unused_status) (replicate n (fresh_body bytes))
    ≡ replicate n (fresh_frame bytes)
frames_fresh zero bytes = refl
frames_fresh (suc n) bytes = ap (λ fs. fresh_frame bytes ∷ fs) (frames_fresh n bytes)

pub fresh_become : (n size : ℕ) {ps : List (Option PageId)} {ss : List Status} {bs : List FrameBody}
    → ps ≡ replicate n None → ss ≡ replicate n unused_status
    → bs ≡ replicate n (fresh_body (replicate size 0))
    → frames_of ps ss bs ≡ replicate n (fresh_frame (replicate size 0))
fresh_become n size {ps} {ss} {bs} p s b =
    ap (λ xs. frames_of xs ss bs) p ∙ ap (λ xs. frames_of (replicate n None) xs bs) s
    ∙ ap (λ xs. frames_of (replicate n None) (replicate n unused_status) xs) b ∙ frames_fresh n (replicate size 0)

pub fresh_tied : (n size : ℕ) {ps : List (Option PageId)} {ss : List Status} {bs : List FrameBody}
    {contest : List (Option RankKey)}
    → ps ≡ replicate n None → ss ≡ replicate n unused_status
    → bs ≡ replicate n (fresh_body (replicate size 0)) → contest ≡ replicate n None
    → AreTied ps ss bs contest
fresh_tied n size {contest = contest} p s b c = record {
  status_each = ap length s ∙ length-replicate n unused_status ∙ sym (ap length p ∙ length-replicate n None);
  body_each = ap length b ∙ length-replicate n (fresh_body (replicate size 0)) ∙ sym (ap length p ∙ length-replicate n None);
  contest_each = ap length c ∙ length-replicate n None ∙ sym (ap length p ∙ length-replicate n None);
  lags = λ i. subst (λ fs. LagsBehind (key_at contest i) (nth_frame fs i)) (sym (fresh_become n size p s b))
      (subst (λ ks. LagsBehind (key_at ks i) (nth_frame (replicate n (fresh_frame (replicate size 0))) i)) (sym c) (fresh_lag n (replicate size 0) i));
}
