-- Buckets that are sent, and messages that are received, one after the other.
use Rattle.std.proofs.Common.{◌≡◌, ℕ, ◌+◌, ◌<◌, ◌≤◌, List, [], ◌∷◌, ◌++◌, length, zero, suc, Option, Some, None, get_or, refl, sym, ap, subst, arith, append_assoc}
use Rattle.std.specs.List.{All, flat_map}
use Rattle.std.proofs.lemmas.List.{flat_map_more, length-append}
use Rattle.std.proofs.lemmas.List.Elements.{All-append}
use Rattle.warm_stamps.specs.declared.PageId.{PageId}
use Rattle.warm_stamps.specs.declared.TheConstants.{BUCKETS}
use Rattle.warm_history.specs.Entry.{Entry}
use Rattle.warm_frames.specs.declared.layout.TheConstants.{MAX_ENTRIES}
use Rattle.warm_frames.specs.declared.message.Message.{Message}
use Rattle.warm_machine.specs.Runs.{Runs, operation}
use Rattle.warm_gossip.specs.declared.call.Call.{Call}
use Rattle.warm_gossip.specs.declared.call.Call.TheVariants.{Send, Receive}
use Rattle.warm_gossip.specs.declared.call.Reply.{Reply}
use Rattle.warm_gossip.specs.declared.call.Reply.TheVariants.{Sent, Answers}
use Rattle.warm_peer.specs.Chunks.{last_page}
use Rattle.warm_replica.specs.Jobs.{Calls}
use Rattle.warm_frames.specs.Limits.{entries_in}
use Rattle.warm_threads.specs.Exchanges.{IsReceipt, SendsAll, SendsBucket}
use Rattle.warm_threads.specs.Numbers.{NumberedFrom}
use Rattle.warm_threads.specs.Works.{LeadsBy}
use Rattle.warm_threads.proofs.NumberLemmas.{numbered_more}
use Rattle.warm_threads.proofs.RunLemmas.{runs_then}

-- the page of the last entry
pub last_page_at : (es : List Entry) (i : ℕ) (e : Entry) → suc i ≡ length es → e ≡ get_or es i e
    → last_page es ≡ Some e.page
last_page_at [] i e long is = absurd (omega (arith, long))
last_page_at (x ∷ []) zero e long is = ap (λ (y : Entry). Some y.page) (sym is)
last_page_at (x ∷ []) (suc i) e long is = absurd (omega (arith, long))
last_page_at (x ∷ y ∷ es) zero e long is = absurd (omega (arith, long))
last_page_at (x ∷ y ∷ es) (suc i) e long is = last_page_at (y ∷ es) i e (omega (arith, long)) is

-- a full message, and then what comes after it
sends_more : (bucket : ℕ) (after : Option PageId) (message : Message) (more : Calls)
    → MAX_ENTRIES ≤ length (entries_in message)
    → SendsBucket bucket (last_page (entries_in message)) more
    → SendsBucket bucket after (operation 0 (Send bucket after) (Sent message) ∷ more)
sends_more bucket after message [] full h = absurd h
sends_more bucket after message (e ∷ es) full h = (message, (refl, refl), full, h)

module _ {X : Type 0} (goes : X → Call → Reply → X → Type 0) where
  -- after these calls, just what the bucket has after this page is still to be sent
  pub record IsSending (bucket : ℕ) (x : X) (after : Option PageId) (z : X) : Type 0 where
    pub calls : Calls
    pub runs : Runs goes x calls z
    pub rest : (more : Calls) → SendsBucket bucket after more
        → SendsBucket bucket None (calls ++ more)

  pub sending_none : (bucket : ℕ) (x : X) → IsSending bucket x None x
  sending_none bucket x = record { calls = []; runs = refl; rest = λ more h. h }

  pub sending_more : (bucket : ℕ) (x y z : X) (after : Option PageId) (message : Message)
      (page : PageId) → IsSending bucket x after y → goes y (Send bucket after) (Sent message) z
      → MAX_ENTRIES ≤ length (entries_in message) → last_page (entries_in message) ≡ Some page
      → IsSending bucket x (Some page) z
  sending_more bucket x y z after message page h step full last =
      let one = operation 0 (Send bucket after) (Sent message) in
      record {
        calls = h.calls ++ one ∷ [];
        runs = runs_then goes x y z h.calls (one ∷ []) h.runs (z, step, refl);
        rest = λ more sends. subst (λ (es : Calls). SendsBucket bucket None es) (sym (append_assoc h.calls (one ∷ []) more))
            (h.rest (one ∷ more) (sends_more bucket after message more full (subst (λ (p : Option PageId). SendsBucket bucket p more) (sym last) sends)));
      }

  pub sending_last : (bucket : ℕ) (x y z : X) (after : Option PageId) (message : Message)
      → IsSending bucket x after y → goes y (Send bucket after) (Sent message) z
      → length (entries_in message) < MAX_ENTRIES
      → LeadsBy goes (SendsBucket bucket None) x z
  sending_last bucket x y z after message h step few =
      let one = operation 0 (Send bucket after) (Sent message) in
      (h.calls ++ one ∷ [], runs_then goes x y z h.calls (one ∷ []) h.runs (z, step, refl), h.rest (one ∷ []) (message, (refl, refl), few))

  -- calls have sent all buckets before this one
  pub record HaveSent (bucket : ℕ) (x z : X) : Type 0 where
    pub parts : List Calls
    pub runs : Runs goes x (flat_map (λ part. part) parts) z
    pub count : length parts ≡ bucket
    pub each : NumberedFrom 0 (λ bucket part. SendsBucket bucket None part) parts

  pub sent_none : (x : X) → HaveSent 0 x x
  sent_none x = record { parts = []; runs = refl; count = refl; each = tt }

  pub sent_more : (bucket : ℕ) (x y z : X) → HaveSent bucket x y
      → LeadsBy goes (SendsBucket bucket None) y z → HaveSent (bucket + 1) x z
  sent_more bucket x y z h led =
      let whole : Calls → Calls = λ part. part in
      record {
        parts = h.parts ++ led.0 ∷ [];
        runs = subst (λ (es : Calls). Runs goes x es z) (flat_map_more whole [] h.parts led.0) (runs_then goes x y z (flat_map whole h.parts) led.0 h.runs led.1);
        count = omega (arith, h.count, length-append h.parts (led.0 ∷ []));
        each = numbered_more 0 bucket (λ b part. SendsBucket b None part) h.parts led.0 (omega (arith, h.count)) h.each led.2;
      }

  pub sent_all : (bucket : ℕ) (x z : X) → bucket ≡ BUCKETS → HaveSent bucket x z
      → LeadsBy goes SendsAll x z
  sent_all bucket x z is h = (flat_map (λ part. part) h.parts, h.runs, record { parts = h.parts; whole = refl; count = omega (arith, h.count, is); each = h.each })

  -- messages that were received
  pub received_none : (x : X) → LeadsBy goes (All IsReceipt) x x
  received_none x = ([], refl, λ k d low. absurd (omega (arith, low)))

  receipt : (message : Message) (answers : List Message)
      → All IsReceipt (operation 0 (Receive message) (Answers answers) ∷ [])
  receipt message answers zero d low = (message, answers, refl, refl)
  receipt message answers (suc k) d low = absurd (omega (arith, low))

  pub received_more : (x y z : X) → LeadsBy goes (All IsReceipt) x y
      → (message : Message) (answers : List Message) → goes y (Receive message) (Answers answers) z
      → LeadsBy goes (All IsReceipt) x z
  received_more x y z h message answers step =
      let one = operation 0 (Receive message) (Answers answers) in
      (h.0 ++ one ∷ [], runs_then goes x y z h.0 (one ∷ []) h.1 (z, step, refl), All-append IsReceipt h.0 (one ∷ []) h.2 (receipt message answers))
