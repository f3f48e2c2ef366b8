-- A replica receives a message.
use Rattle.std.proofs.Common.{◌≡◌, ℕ, ◌+◌, ◌-◌, List, [], length, get_or, set, refl, sym, ◌∙◌, ap, subst, append-nil, arith}
use Rattle.std.specs.Prelude.{◌==◌, if◌then◌else◌}
use Rattle.std.proofs.lemmas.List.{length-append, length-map, set-set}
use Rattle.warm_history.specs.Histories.{HistoryView, history, references_of}
use Rattle.warm_history.specs.ReferenceSets.{with_horizon}
use Rattle.warm_history.specs.Entry.{Entry}
use Rattle.warm_frames.specs.Limits.{horizon_in}
use Rattle.warm_frames.specs.declared.message.Message.{Message}
use Rattle.warm_frames.specs.declared.message.Message.TheVariants.{Entries, Digest, Want}
use Rattle.warm_peer.specs.Answers.{IsAnswer, history_after}
use Rattle.warm_gossip.specs.State.{NodeView}
use Rattle.warm_world.specs.declared.event.Event.TheVariants.{Deliver}
use Rattle.warm_world.specs.declared.event.Answer.{Answer}
use Rattle.warm_world.specs.declared.event.Answer.TheVariants.{Took}
use Rattle.warm_world.specs.Lists.{Pairwise, index_of_number}
use Rattle.warm_world.specs.Replicas.{EncodesMessage, KeepsAll, StoresAnswers}
use Rattle.warm_world.specs.Views.{ReplicaView}
use Rattle.warm_world.specs.States.{ModelState, ReplicaState, add_records, reach_of, record_at, replica, set_replica}
use Rattle.warm_world.specs.GossipAnswers.{reach_after}
use Rattle.warm_world.specs.Effects.{IsNamed}
use Rattle.warm_world.specs.WorldStands.{ReplicaStands, EncodesRecord, WorldStands, Stepped, message_kept}
use Rattle.warm_world.specs.WorldStands.{view_shape}
use Rattle.warm_world.proofs.MessageLemmas.{messages_join, encodes_kept}
use Rattle.warm_world.proofs.HistoryLemmas.{answer_records, history_after_reach}
use Rattle.warm_world.proofs.PairLemmas.{Pairwise-nil, Pairwise-of}
use Rattle.warm_world.proofs.WorldLemmas.{named_too, node_at, place_in, replica_changes, stands_at, world}

-- entries are answered by nothing
unanswered : (id sender horizon : ℕ) (h : HistoryView) (es : List Entry) (message : Message)
    (answers : List Message) → message ≡ Entries sender horizon es → IsAnswer id h message answers
    → answers ≡ []
unanswered id sender horizon h es message answers is answer = subst (λ m. IsAnswer id h m answers) is answer

-- the message is not of entries
abbrev IsNoEntries : Message → Type 0
IsNoEntries message = (sender horizon : ℕ) (es : List Entry)
    → message ≡ Entries sender horizon es → ⊥

-- digests and a request bring their horizon alone
pub horizon_alone : (h : HistoryView) (message : Message) → IsNoEntries message
    → history_after h message ≡ history (with_horizon (horizon_in message) (references_of h))
horizon_alone h (Entries sender time es) other = absurd (other sender time es refl)
horizon_alone h (Digest sender time digests) other = refl
horizon_alone h (Want sender time request) other = refl

module _ {A : Type 0} (f : A → ReplicaView) (xs : List A) (messages : List (List ℕ)) where
  pub delivered : (m : ModelState) (j k count first : ℕ) (x y : A) (message : Message)
      (answers : List Message) (n : NodeView) (messages' : List (List ℕ))
      → WorldStands (world f xs messages xs) m
      → IsNamed (view_shape (world f xs messages xs)) (Deliver j k)
      → x ≡ get_or xs (index_of_number j) x
      → message ≡ message_kept (record_at m (index_of_number k))
      → IsAnswer (f x).node.id (f x).node.history message answers
      → n ≡ record (f x).node { history = history_after (f x).node.history message }
      → f y ≡ record (f x) { node = n } → KeepsAll messages answers messages'
      → count ≡ length answers → first ≡ if count == 0 then 0 else length messages' - count + 1
      → Stepped m (Deliver j k) (Took count first)
      (record (world f xs messages (set xs (index_of_number j) y)) { messages = messages' })
  delivered m j k count first x y message answers n messages' st named is of_record answer joins becomes keeps many from =
      let p = index_of_number j in
      let kept = record_at m (index_of_number k) in
      let lt = place_in f xs messages (Deliver j k) named in
      let here = stands_at f xs messages m p x st lt is in
      let S = reach_of m j in
      let node = node_at f xs messages m (Deliver j k) x st named is in
      let asked : IsAnswer j (history S) (message_kept kept) answers =
      subst (λ g. IsAnswer j (history S) g answers) of_record (subst (λ (n : NodeView). IsAnswer n.id n.history message answers) node answer) in
      let rs = answer_records j S kept answers asked in
      let r : ReplicaState = record (replica m p) { reach = reach_after S kept } in
      let joined : history_after (f x).node.history message ≡ history (reach_after S kept) = ap (λ (n : NodeView). history_after n.history message) node ∙ ap (history_after (history S)) of_record ∙ history_after_reach S kept in
      let stands : ReplicaStands m.capacity p (f y) r = record {
        has_capacity = here.has_capacity;
        node_is = ap (λ (s : ReplicaView). s.node) becomes ∙ joins ∙ ap (λ (h : HistoryView). let v : NodeView = record (f x).node { history = h } in v) joined
            ∙ ap (λ (u : NodeView). let v : NodeView = record u { history = history (reach_after S kept) } in v) here.node_is;
        buffers_are = ap (λ (s : ReplicaView). s.buffers) becomes ∙ here.buffers_are;
      } in
      let changed = replica_changes f xs messages m p y r st lt stands in
      let coded = Pairwise-of EncodesMessage EncodesRecord message_kept keeps.0 rs.added (λ bytes one codes. encodes_kept bytes (message_kept one) one refl codes)
      (subst (Pairwise (λ _ bytes g. EncodesMessage bytes g) keeps.0) rs.are keeps.1) in
      let all : length answers ≡ length rs.added = ap length rs.are ∙ length-map rs.added message_kept in
      let counted : length messages' - count ≡ length m.records =
      omega (arith, ap length keeps.2, length-append messages keeps.0, coded.same_length, st.messages.same_length, all, many) in
      record {
        new = add_records (set_replica m p r) rs.added;
        next = (
          named_too (world f xs messages xs) m (Deliver j k) st named,
          record {
            added = rs.added;
            answers = rs.answers;
            many = many ∙ all;
            from = from ∙ ap (λ (c : ℕ). if count == 0 then 0 else c + 1) counted;
            becomes = refl;
          },
        );
        stands = rw keeps.2 (messages_join (world f xs messages (set xs p y)) (set_replica m p r) keeps.0 rs.added changed coded);
      }

  -- entries come: they have no answer
  pub taken : (m : ModelState) (j k sender horizon : ℕ) (es : List Entry) (x y : A)
      (message : Message) (answers : List Message) (n : NodeView)
      → WorldStands (world f xs messages xs) m
      → IsNamed (view_shape (world f xs messages xs)) (Deliver j k)
      → x ≡ get_or xs (index_of_number j) x
      → message ≡ message_kept (record_at m (index_of_number k))
      → message ≡ Entries sender horizon es
      → IsAnswer (f x).node.id (f x).node.history message answers
      → n ≡ record (f x).node { history = history_after (f x).node.history message }
      → f y ≡ record (f x) { node = n }
      → Stepped m (Deliver j k) (Took 0 0) (world f xs messages (set xs (index_of_number j) y))
  taken m j k sender horizon es x y message answers n st named is of_record entries answered joins becomes =
      let none = unanswered (f x).node.id sender horizon (f x).node.history es message answers entries answered in
      let keeps : KeepsAll messages [] messages = ([], Pairwise-nil (λ _ bytes one. EncodesMessage bytes one), sym (append-nil messages)) in
      delivered m j k 0 0 x y message answers n messages st named is of_record answered joins becomes (subst (λ fs. KeepsAll messages fs messages) (sym none) keeps) (sym (ap length none)) refl

  -- digests or a request come, and their answers are stored: then the horizon rises
  pub raised_after : (m : ModelState) (j k : ℕ) (x y z : A) (message : Message)
      (answers : List Message) (messages' : List (List ℕ)) (answer : Answer)
      → WorldStands (world f xs messages xs) m
      → IsNamed (view_shape (world f xs messages xs)) (Deliver j k)
      → x ≡ get_or xs (index_of_number j) x
      → message ≡ message_kept (record_at m (index_of_number k)) → IsNoEntries message
      → IsAnswer (f x).node.id (f x).node.history message answers
      → f y ≡ f x → f z ≡ record (f
      y) {
        node = record (f y).node {
          history = history
              (with_horizon (horizon_in message) (references_of (f y).node.history));
        };
      }
      → StoresAnswers messages answers answer messages'
      → Stepped m (Deliver j k) answer
      (record (world f xs messages
      (set (set xs (index_of_number j) y) (index_of_number j) z)) { messages = messages' })
  raised_after m j k x y z message answers messages' (Took count first) st named is of_record other answered same becomes kept =
      let n : NodeView = record (f x).node { history = history_after (f x).node.history message } in
      let horizon = horizon_in message in
      let shows : f z ≡ record (f x) { node = n } =
      becomes
      ∙ ap (λ (r : ReplicaView). let s : ReplicaView = record r { node = record r.node { history = history (with_horizon horizon (references_of r.node.history)) } } in s) same
      ∙ ap (λ (h : HistoryView). let s : ReplicaView = record (f x) { node = record (f x).node { history = h } } in s) (sym (horizon_alone (f x).node.history message other)) in
      rw (set-set xs (index_of_number j) y z) (delivered m j k count first x z message answers n messages' st named is of_record answered refl shows kept.0 kept.1 kept.2)
  raised_after m j k x y z message answers messages' answer st named is of_record other answered same becomes kept = absurd kept
