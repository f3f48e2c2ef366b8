-- Items of mail one after another.
use Rattle.std.proofs.Common.{IfSome, ◌≡◌, ◌^◌, ℕ, zero, suc, ◌+◌, ◌<◌, ◌≤◌, ◌*◌, List, [], ◌∷◌, ◌++◌, length, take, map, slice_index_or, take-suc, Bool, true, false, Option, None, Result, Ok, Err, refl, sym, ap, ◌∙◌, subst, inl, inr, ⊎_elim, arith, append_assoc, append-nil, eq-or-lt_of_le}
use Rattle.std.proofs.lemmas.List.{length-append}
use Rattle.std.specs.Iterator.{Yields}
use Rattle.warm_machine.specs.declared.operation.Operation.{Operation}
use Rattle.warm_turn.specs.declared.table.View.{View}
use Rattle.warm_machine.specs.Runs.{operation}
use Rattle.warm_turn.specs.CallHistories.{as_spent, Called, Extended}
use Rattle.warm_turn.proofs.PassLemmas.{Extended-self, Extended-spent, Extended-trans, Extended-called}
use Rattle.warm_frames.specs.declared.message.Message.{Message}
use Rattle.warm_frames.specs.Encoding.{Encodes}
use Rattle.warm_frames.specs.declared.fault.FrameFault.{FrameFault}
use Rattle.warm_frames.specs.declared.fault.FrameFault.TheVariants.{Memory}
use Rattle.warm_frames.specs.Reading.{GivesReading, Reserves, reserved_by}
use Rattle.warm_gossip.specs.declared.call.Call.{Call}
use Rattle.warm_gossip.specs.declared.call.Call.TheVariants.{Receive}
use Rattle.warm_gossip.specs.declared.call.Reply.{Reply}
use Rattle.warm_gossip.specs.declared.call.Reply.TheVariants.{Answers}
use Rattle.warm_replica.specs.declared.mail.Mail.{Mail}
use Rattle.warm_replica.specs.declared.mail.Mail.TheVariants.{Bytes, Stop}
use Rattle.warm_replica.specs.declared.report.MailReport.{MailReport}
use Rattle.warm_replica.specs.AddressedBytes.{AddressedBytes, Gained}
use Rattle.warm_replica.specs.Mails.{Outcome, stopped, unread, unserved, received, HaveOutcomes, pass_calls, joins, refuses, answers, joined_in, refused_in, answers_in, Posted, Posts, Heard, Took, stops_in}
use Rattle.warm_replica.specs.Mails.{sender_of}

abbrev Calls : Type 0
Calls = List (Operation Call Reply)

pub outcomes_append : (a b c : Bool) (xs ys : List Mail) (fs gs : List Outcome)
    → HaveOutcomes a xs fs b → HaveOutcomes b ys gs c → HaveOutcomes a (xs ++ ys) (fs ++ gs) c
outcomes_append a b c [] ys [] gs h k = subst (λ (d : Bool). HaveOutcomes d ys gs c) h k
outcomes_append a b c (x ∷ xs) ys (f ∷ fs) gs h k = (h.0, h.1, outcomes_append h.0 b c xs ys fs gs h.2 k)
outcomes_append a b c [] ys (f ∷ fs) gs h k = absurd h
outcomes_append a b c (x ∷ xs) ys [] gs h k = absurd h

pub calls_append : (n : ℕ) (fs gs : List Outcome)
    → pass_calls n (fs ++ gs) ≡ pass_calls n fs ++ pass_calls n gs
calls_append n [] gs = refl
calls_append n (stopped ∷ fs) gs = calls_append n fs gs
calls_append n (unread ∷ fs) gs = calls_append n fs gs
calls_append n (unserved ∷ fs) gs = calls_append n fs gs
calls_append n (received message reply ∷ fs) gs = ap (λ (l : Calls). operation n (Receive message) reply ∷ l) (calls_append n fs gs)

pub joined_append : (fs gs : List Outcome) → joined_in (fs ++ gs) ≡ joined_in fs + joined_in gs
joined_append [] gs = omega arith
joined_append (f ∷ fs) gs = omega (arith, joined_append fs gs)

pub refused_append : (fs gs : List Outcome) → refused_in (fs ++ gs) ≡ refused_in fs + refused_in gs
refused_append [] gs = omega arith
refused_append (f ∷ fs) gs = omega (arith, refused_append fs gs)

pub answers_append : (fs gs : List Outcome) → answers_in (fs ++ gs) ≡ answers_in fs ++ answers_in gs
answers_append [] gs = refl
answers_append (f ∷ fs) gs = ap (λ (l : List (ℕ × Message)). answers f ++ l) (answers_append fs gs) ∙ sym (append_assoc (answers f) (answers_in fs) (answers_in gs))

pub posted_append : (xs ys : List (ℕ × Message)) (ts us : List AddressedBytes) (k l : ℕ)
    → Posted xs ts k → Posted ys us l → Posted (xs ++ ys) (ts ++ us) (k + l)
posted_append [] ys ts us k l h g =
    subst (λ (n : ℕ). Posted ys (ts ++ us) n) (omega (arith, h.1)) (subst (λ (q : List AddressedBytes). Posted ys (q ++ us) l) (sym h.0) g)
posted_append (x ∷ rest) ys ts us k l h g =
    ⊎_elim
    (λ (p : (bytes : List ℕ) × (more : List AddressedBytes) × Encodes bytes x.1 × (ts ≡ (x.0, bytes) ∷ more) × Posted rest more k).
    inl (p.0, p.1 ++ us, p.2, ap (λ (q : List AddressedBytes). q ++ us) p.3, posted_append rest ys p.1 us k l p.4 g))
    (λ (p : (fewer : ℕ) × (k ≡ fewer + 1) × Posted rest ts fewer).
    inr (p.0 + l, (let e = p.1 in omega (arith, e)), posted_append rest ys ts us p.0 l p.2 g))
    h

gained_append : (keeps : Bool) (a b c ts us : List AddressedBytes) → Gained keeps a ts b
    → Gained keeps b us c → Gained keeps a (ts ++ us) c
gained_append keeps a b c ts us h g is = g is ∙ (ap (λ (q : List AddressedBytes). q ++ us) (h is) ∙ append_assoc a ts us)

pub posts_none : (keeps : Bool) (a : List AddressedBytes) → Posts keeps [] a 0 a
posts_none keeps a = ([], (refl, refl), λ is. sym (append-nil a))

-- one answer was lost
pub posts_lost : (keeps : Bool) (answer : ℕ × Message) (a : List AddressedBytes)
    → Posts keeps (answer ∷ []) a 1 a
posts_lost keeps answer a = ([], inr (0, refl, (refl, refl)), λ is. sym (append-nil a))

pub posts_append : (keeps : Bool) (xs ys : List (ℕ × Message)) (a b c : List AddressedBytes)
    (k l : ℕ) → Posts keeps xs a k b → Posts keeps ys b l c → Posts keeps (xs ++ ys) a (k + l) c
posts_append keeps xs ys a b c k l h g = (h.0 ++ g.0, posted_append xs ys h.0 g.0 k l h.1 g.1, gained_append keeps a b c h.0 g.0 h.2 g.2)

abbrev to_sender : ℕ → Message → ℕ × Message
to_sender to answer = (to, answer)

map_snoc : {A B : Type 0} (f : A → B) (xs : List A) (x : A)
    → map f (xs ++ x ∷ []) ≡ map f xs ++ f x ∷ []
map_snoc f [] x = refl
map_snoc f (y ∷ xs) x = ap (λ (l : List _). f y ∷ l) (map_snoc f xs x)

-- one message more was posted
pub posts_next : (keeps : Bool) (to : ℕ) (xs : List Message) (i : ℕ) (x : Message)
    (a b c : List AddressedBytes) (k l : ℕ) → i < length xs → x ≡ slice_index_or xs i x
    → Posts keeps (map (λ answer. (to, answer)) (take i xs)) a k b
    → Posts keeps ((to, x) ∷ []) b l c
    → Posts keeps (map (λ answer. (to, answer)) (take (i + 1) xs)) a (k + l) c
posts_next keeps to xs i x a b c k l less is h g =
    let at : take (suc i) xs ≡ take i xs ++ x ∷ [] = take-suc xs i x less ∙ ap (λ (y : Message). take i xs ++ y ∷ []) (sym is) in
    let n : i + 1 ≡ suc i = omega arith in
    let all : map (to_sender to) (take (i + 1) xs) ≡ map (to_sender to) (take i xs) ++ (to, x) ∷ [] =
    ap (λ (m : ℕ). map (to_sender to) (take m xs)) n ∙ (ap (λ (l : List Message). map (to_sender to) l) at ∙ map_snoc (to_sender to) (take i xs) x) in
    subst (λ (q : List (ℕ × Message)). Posts keeps q a (k + l) c) (sym all) (posts_append keeps (map (to_sender to) (take i xs)) ((to, x) ∷ []) a b c k l h g)

abbrev pub nothing : MailReport
nothing = record { joined = 0; refused = 0; lost = 0 }

module _ {X : Type 0} (keeps : Bool) where
  pub heard_append : (u v w : View X Call Reply) (a b c : List AddressedBytes) (xs ys : List Mail)
      (r s t : MailReport) → t.joined ≡ r.joined + s.joined → t.refused ≡ r.refused + s.refused
      → t.lost ≡ r.lost + s.lost
      → Heard keeps u a xs r v b → Heard keeps v b ys s w c → Heard keeps u a (xs ++ ys) t w c
  heard_append u v w a b c xs ys r s t ej er el h g = record {
    outcomes = h.outcomes ++ g.outcomes;
    each = outcomes_append u.found_last v.found_last w.found_last xs ys h.outcomes g.outcomes h.each g.each;
    calls = subst (λ (l : Calls). Extended u l w) (sym (calls_append u.number h.outcomes g.outcomes))
        (Extended-trans u v w (pass_calls u.number h.outcomes) (pass_calls u.number g.outcomes) h.calls (subst (λ (n : ℕ). Extended v (pass_calls n g.outcomes) w) h.calls.number g.calls));
    joined = omega (arith, ej, h.joined, g.joined, joined_append h.outcomes g.outcomes);
    refused = omega (arith, er, h.refused, g.refused, refused_append h.outcomes g.outcomes);
    posts = subst (λ (n : ℕ). Posts keeps (answers_in (h.outcomes ++ g.outcomes)) a n c) (sym el) (subst (λ (l : List (ℕ × Message)). Posts keeps l a (r.lost + s.lost) c) (sym (answers_append h.outcomes g.outcomes)) (posts_append keeps (answers_in h.outcomes) (answers_in g.outcomes) a b c r.lost s.lost h.posts g.posts));
  }

  pub heard_none : (v : View X Call Reply) (a : List AddressedBytes)
      → Heard keeps v a [] nothing v a
  heard_none v a = record {
    outcomes = [];
    each = refl;
    calls = Extended-self v;
    joined = refl;
    refused = refl;
    posts = posts_none keeps a;
  }

  pub heard_stop : (v : View X Call Reply) (a : List AddressedBytes)
      → Heard keeps v a (Stop ∷ []) nothing v a
  heard_stop v a = record {
    outcomes = stopped ∷ [];
    each = (v.found_last, refl, refl);
    calls = Extended-self v;
    joined = refl;
    refused = refl;
    posts = posts_none keeps a;
  }

abbrev refused_one : MailReport
refused_one = record { joined = 0; refused = 1; lost = 0 }

module _ {X : Type 0} (keeps : Bool) where
  pub heard_unread : (v : View X Call Reply) (a : List AddressedBytes) (bytes : List ℕ)
      → ((message : Message) → Encodes bytes message → Reserves (reserved_by bytes))
      → Heard keeps v a (Bytes bytes ∷ []) refused_one v a
  heard_unread v a bytes none = record {
    outcomes = unread ∷ [];
    each = (v.found_last, (refl, none), refl);
    calls = Extended-self v;
    joined = refl;
    refused = refl;
    posts = posts_none keeps a;
  }

  pub heard_unserved : (v w : View X Call Reply) (a : List AddressedBytes) (bytes : List ℕ)
      (message : Message) → Encodes bytes message → w ≡ as_spent v
      → Heard keeps v a (Bytes bytes ∷ []) refused_one w a
  heard_unserved v w a bytes message spells is =
      let spent : w.found_last ≡ true = ap (λ (u : View X Call Reply). u.found_last) is in
      record {
        outcomes = unserved ∷ [];
        each = (true, (refl, (message, spells)), spent);
        calls = Extended-spent v w is;
        joined = refl;
        refused = refl;
        posts = posts_none keeps a;
      }

-- what a reply that answers no messages counts as
other_reply : (message : Message) (reply : Reply) → ((x : List Message) → reply ≡ Answers x → ⊥)
    → (joins (received message reply) ≡ 0) × (refuses (received message reply) ≡ 1)
    × (answers (received message reply) ≡ [])
other_reply message (Answers messages) not = absurd (not messages refl)
other_reply message reply not = (refl, refl, refl)

-- bytes that were not decoded spell a message only if that reserves capacity
pub no_frame : (r : Result Message FrameFault) (bytes : List ℕ) → ((x : Message) → r ≡ Ok x → ⊥)
    → ((message : Message) → Encodes bytes message
    → GivesReading r (Ok message) (reserved_by bytes))
    → (message : Message) → Encodes bytes message → Reserves (reserved_by bytes)
no_frame r bytes not only message spells = ⊎_elim (λ (e : r ≡ Ok message). absurd (not message e)) (λ (p : (r ≡ Err Memory) × Reserves (reserved_by bytes)). p.1) (only message spells)

module _ {X : Type 0} (keeps : Bool) (goes : X → Call → Reply → X → Type 0) where
  pub heard_other : (v w : View X Call Reply) (a : List AddressedBytes) (bytes : List ℕ)
      (message : Message) (reply : Reply)
      → Encodes bytes message → Called goes v (Receive message) reply w
      → ((x : List Message) → reply ≡ Answers x → ⊥)
      → Heard keeps v a (Bytes bytes ∷ []) refused_one w a
  heard_other v w a bytes message reply spells called not =
      let other = other_reply message reply not in
      record {
        outcomes = received message reply ∷ [];
        each = (false, (called.unmarked.0, refl, spells), called.unmarked.1);
        calls = Extended-called goes v w (Receive message) reply called;
        joined = (let n = other.0 in omega (arith, n));
        refused = (let n = other.1 in omega (arith, n));
        posts = subst (λ (l : List (ℕ × Message)). Posts keeps l a 0 a) (sym (append-nil (answers (received message reply)) ∙ other.2)) (posts_none keeps a);
      }

  pub heard_answers : (v w : View X Call Reply) (a b : List AddressedBytes) (bytes : List ℕ)
      (message : Message) (reply : Reply) (messages fs : List Message) (to lost count : ℕ)
      → Encodes bytes message → Called goes v (Receive message) reply w → reply ≡ Answers messages
      → to ≡ sender_of message → fs ≡ messages → count ≡ lost
      → Posts keeps (map (λ answer. (to, answer)) fs) a lost b
      → Heard keeps v a (Bytes bytes ∷ []) (record { joined = 1; refused = 0; lost = count }) w b
  heard_answers v w a b bytes message reply messages fs to lost count spells called is from same counted posts =
      let answered : Called goes v (Receive message) (Answers messages) w = subst (λ (r : Reply). Called goes v (Receive message) r w) is called in
      let sent : Posts keeps (map (to_sender (sender_of message)) messages) a count b =
      subst (λ (n : ℕ). Posts keeps (map (to_sender n) messages) a count b) from
      (subst (λ (l : List Message). Posts keeps (map (to_sender to) l) a count b) same (subst (λ (n : ℕ). Posts keeps (map (to_sender to) fs) a n b) (sym counted) posts)) in
      record {
        outcomes = received message (Answers messages) ∷ [];
        each = (false, (answered.unmarked.0, refl, spells), answered.unmarked.1);
        calls = Extended-called goes v w (Receive message) (Answers messages) answered;
        joined = refl;
        refused = refl;
        posts = subst (λ (l : List (ℕ × Message)). Posts keeps l a count b) (sym (append-nil (map (to_sender (sender_of message)) messages))) sent;
      }

-- Stops, one after another
pub stops_append : (xs ys : List Mail) → stops_in (xs ++ ys) ≡ stops_in xs + stops_in ys
stops_append [] ys = omega arith
stops_append (Stop ∷ xs) ys = omega (arith, stops_append xs ys)
stops_append (Bytes bytes ∷ xs) ys = stops_append xs ys

take_front : {A : Type 0} (k : ℕ) (xs : List A) (y : A) → k < length xs
    → take k (xs ++ y ∷ []) ≡ take k xs
take_front zero xs y less = refl
take_front (suc k) [] y less = absurd (omega (arith, less))
take_front (suc k) (x ∷ xs) y less = ap (λ (l : List _). x ∷ l) (take_front k xs y (omega (arith, less)))

take_whole : {A : Type 0} (xs : List A) (y : A) → take (length xs) (xs ++ y ∷ []) ≡ xs
take_whole [] y = refl
take_whole (x ∷ xs) y = ap (λ (l : List _). x ∷ l) (take_whole xs y)

pub missing_more : (stops : ℕ) (xs : List Mail) (m : Mail)
    → ((k : ℕ) → k < length xs → stops_in (take k xs) < stops) → stops_in xs < stops
    → (k : ℕ) → k < length (xs ++ m ∷ []) → stops_in (take k (xs ++ m ∷ [])) < stops
missing_more stops xs m before now k less =
    ⊎_elim
    (λ (h : k ≡ length xs). subst (λ (n : ℕ). stops_in (take n (xs ++ m ∷ [])) < stops) (sym h) (subst (λ (l : List Mail). stops_in l < stops) (sym (take_whole xs m)) now))
    (λ (h : k < length xs). subst (λ (l : List Mail). stops_in l < stops) (sym (take_front k xs m h)) (before k h))
    (eq-or-lt_of_le (let n = length-append xs (m ∷ []) in omega (arith, less, n)))

-- what the loop keeps: these items were taken, as many as there were turns, each while Stops were
-- missing
pub record Listening {X : Type 0} (keeps : Bool) (v : View X Call Reply)
    (given : List AddressedBytes) (stops turn left : ℕ) (items : List Mail) (report : MailReport)
    (w : View X Call Reply) (given' : List AddressedBytes) : Type 0 where
  pub count : length items ≡ turn
  pub missing : (k : ℕ) → k < length items → stops_in (take k items) < stops
  pub to_come : stops_in items + left ≡ stops
  pub heard : Heard keeps v given items report w given'
  pub joined : report.joined ≤ length items
  pub refused : report.refused ≤ length items
  pub lost : report.lost ≤ 18446744073709551615 * length items

module _ {X : Type 0} (keeps : Bool) where
  pub listening_none : (v : View X Call Reply) (a : List AddressedBytes) (stops : ℕ)
      → Listening keeps v a stops 0 stops [] nothing v a
  listening_none v a stops = record {
    count = refl;
    missing = λ k less. absurd (omega (arith, less));
    to_come = omega arith;
    heard = heard_none keeps v a;
    joined = omega arith;
    refused = omega arith;
    lost = omega arith;
  }

  pub listening_more : (u v w : View X Call Reply) (a b c : List AddressedBytes)
      (stops turn left rest : ℕ) (items : List Mail) (m : Mail) (r s t : MailReport)
      → t.joined ≡ r.joined + s.joined → t.refused ≡ r.refused + s.refused
      → t.lost ≡ r.lost + s.lost
      → 0 < left → stops_in (m ∷ []) + rest ≡ left
      → (s.joined ≤ 1) × (s.refused ≤ 1) × (s.lost < 2 ^ 64)
      → Listening keeps u a stops turn left items r v b → Heard keeps v b (m ∷ []) s w c
      → Listening keeps u a stops (turn + 1) rest (items ++ m ∷ []) t w c
  listening_more u v w a b c stops turn left rest items m r s t ej er el some is few h g =
      let long : length (items ++ m ∷ []) ≡ length items + 1 = length-append items (m ∷ []) in
      let now : stops_in items < stops = omega (arith, h.to_come, some) in
      record {
        count = omega (arith, long, h.count);
        missing = missing_more stops items m h.missing now;
        to_come = omega (arith, stops_append items (m ∷ []), h.to_come, is);
        heard = heard_append keeps u v w a b c items (m ∷ []) r s t ej er el h.heard g;
        joined = omega (arith, long, ej, h.joined, few.0);
        refused = omega (arith, long, er, h.refused, few.1);
        lost = omega (arith, long, el, h.lost, few.2);
      }

-- the items that were taken, for each reason to end
module _ {I : Type 0} (gives : I → Option Mail → I → Type 0) (mail rest : I) (stops turns : ℕ)
    (items : List Mail) (given : Yields gives mail items rest)
    (missing : (k : ℕ) → k < length items → stops_in (take k items) < stops) where
  pub took_stops : length items ≤ turns → stops_in items + 0 ≡ stops
      → Took gives mail stops turns items
  took_stops few is = record { rest = rest; given = given; bound = few; missing = missing; ends = inl (omega (arith, is)) }

  pub took_turns : length items ≡ turns → Took gives mail stops turns items
  took_turns is = record { rest = rest; given = given; bound = omega (arith, is); missing = missing; ends = inr (inl is) }

  pub took_all : length items ≤ turns → (last : I) → gives rest None last
      → Took gives mail stops turns items
  took_all few last none = record { rest = rest; given = given; bound = few; missing = missing; ends = inr (inr (last, none)) }

-- if each item costs one of the rest, at most as many items are taken as were left
pub few_items : {S : Type 0} (left : S → ℕ) (s : S) (items : List Mail) (t : S)
    → Yields (λ (a : S) (item : Option Mail) (b : S). IfSome item (λ x. left a ≡ left b + 1)) s
    items t → length items ≤ left s
few_items left s [] t y = omega arith
few_items left s (x ∷ items) t y = let more = few_items left y.0 items t y.2 in let one = y.1 in omega (arith, more, one)
