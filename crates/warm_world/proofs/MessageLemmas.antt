-- Stored messages, and the records that they encode.
use Rattle.std.proofs.Common.{◌≡◌, ℕ, ◌+◌, ◌<◌, ◌++◌, List, [], ◌∷◌, length, map, take, get_or, Result, Ok, Err, inl, inr, refl, sym, ◌∙◌, ap, subst, arith}
use Rattle.std.proofs.lemmas.List.{get_or-map, length-append, map-append, take_more, length-map}
use Rattle.std.specs.Global.{Vec}
use Rattle.warm_frames.specs.declared.message.Message.{Message}
use Rattle.warm_frames.specs.declared.fault.FrameFault.{FrameFault}
use Rattle.warm_frames.specs.declared.fault.FrameFault.TheVariants.{Memory as FrameMemory}
use Rattle.warm_frames.specs.Encoding.{encoding, Encodes}
use Rattle.warm_frames.specs.Reading.{FindsEncoded}
use Rattle.warm_gossip.specs.declared.fault.NodeFault.TheVariants.{Memory}
use Rattle.warm_world.specs.declared.event.Event.{Event}
use Rattle.warm_world.specs.declared.event.Answer.{Answer}
use Rattle.warm_world.specs.declared.event.Answer.TheVariants.{FrameNo, Refused}
use Rattle.warm_world.specs.declared.event.WorldFault.TheVariants.{Node}
use Rattle.warm_world.specs.Lists.{IsNumber, Pairwise, index_of_number}
use Rattle.warm_world.specs.Replicas.{EncodesMessage, Keeps}
use Rattle.warm_world.specs.Views.{WorldView}
use Rattle.warm_world.specs.States.{ModelState, MessageRecord, add_records, record_at, References}
use Rattle.warm_history.specs.ReferenceSets.{set_of_list}
use Rattle.warm_world.specs.Effects.{Next}
use Rattle.warm_world.specs.WorldStands.{EncodesRecord, Stepped, WorldStands, message_kept}
use Rattle.warm_world.proofs.PairLemmas.{Pairwise-append, Pairwise-push}

-- one message more is encoded
pub encoded_more : (all all' : List (Vec ℕ)) (v : Vec ℕ) (fs : List Message) (i : ℕ) (f : Message)
    → Pairwise (λ _ bytes message. EncodesMessage bytes message) (map (λ b. b.items) all)
    (take i fs)
    → i < length fs → f ≡ get_or fs i f → all' ≡ all ++ v ∷ [] → EncodesMessage v.items f
    → Pairwise (λ _ bytes message. EncodesMessage bytes message) (map (λ b. b.items) all')
    (take (i + 1) fs)
encoded_more all all' v fs i f so_far lt is more here =
    let items : Vec ℕ → List ℕ = λ b. b.items in
    rw (more, map-append items all (v ∷ []), take_more fs i f lt)
    (Pairwise-push (λ _ bytes message. EncodesMessage bytes message) (map items all) (take i fs) v.items (get_or fs i f) so_far (subst (EncodesMessage v.items) is here))

-- the bytes of a record's message encode the record
pub encodes_kept : (bytes : List ℕ) (message : Message) (kept : MessageRecord)
    → message ≡ message_kept kept → EncodesMessage bytes message → EncodesRecord bytes kept
encodes_kept bytes message kept is codes = record { encodes = subst (Encodes bytes) is codes.encodes; exact = codes.exact ∙ ap encoding is }

-- messages are kept after the others
pub messages_join : (w : WorldView) (m : ModelState) (added : List (List ℕ))
    (rs : List MessageRecord) → WorldStands w m
    → Pairwise (λ _ bytes kept. EncodesRecord bytes kept) added rs
    → WorldStands (record w { messages = w.messages ++ added }) (add_records m rs)
messages_join w m added rs st coded = record { replicas = st.replicas; messages = Pairwise-append EncodesRecord w.messages added m.records rs st.messages coded }

-- what is decoded of the bytes of a number is the message of the record of that number
pub decoded_is : (w : WorldView) (m : ModelState) (k : ℕ) (vs : List (Vec ℕ)) (v : Vec ℕ)
    (bytes : List ℕ) (result : Result Message FrameFault) (message : Message) → WorldStands w m
    → w.messages ≡ map (λ b. b.items) vs → IsNumber k (length w.messages)
    → v ≡ get_or vs (index_of_number k) v → bytes ≡ v.items → FindsEncoded bytes result
    → result ≡ Ok message → message ≡ message_kept (record_at m (index_of_number k))
decoded_is w m k vs v bytes result message st are number is same finds found =
    let kept = record_at m (index_of_number k) in
    let lt : index_of_number k < length w.messages = omega (arith, number.from_one, number.in_range) in
    let lt_vs : index_of_number k < length vs = omega (arith, lt, ap length are, length-map vs (λ (b : Vec ℕ). b.items)) in
    let at : get_or w.messages (index_of_number k) v.items ≡ bytes =
    ap (λ fs. get_or fs (index_of_number k) v.items) are ∙ get_or-map (λ (b : Vec ℕ). b.items) vs (index_of_number k) v v.items lt_vs ∙ ap (λ (b : Vec ℕ). b.items) (sym is) ∙ sym same in
    let encodes : Encodes bytes (message_kept kept) = subst (λ b. Encodes b (message_kept kept)) at (st.messages.each (index_of_number k) v.items (References 0 (set_of_list [])) lt).encodes in
    elim (finds (message_kept kept) encodes) [
      | inl read ↦ let both : Ok message ≡ Ok (message_kept kept) = sym found ∙ read in cc
      | inr refused ↦ let never : Ok message ≡ Err FrameMemory = sym found ∙ refused.0 in absurd (cc)
    ]

-- the message of a record is stored after the others, or refused
pub kept_one : (w w' : WorldView) (m : ModelState) (event : Event) (message : Message)
    (answer : Answer) (kept : MessageRecord) → WorldStands w m → message ≡ message_kept kept
    → Keeps w message answer w'
    → ((k : ℕ) (new : ModelState) → k ≡ length new.records → new ≡ add_records m (kept ∷ [])
    → Next m event (FrameNo k) new)
    → Next m event (Refused (Node Memory)) m → Stepped m event answer w'
kept_one w w' m event message (FrameNo k) kept st is keeps next none =
    let encodes = encodes_kept keeps.0 message kept is keeps.1 in
    let number : k ≡ length (m.records ++ kept ∷ []) =
    keeps.2 ∙ ap (λ (v : WorldView). length v.messages) keeps.3 ∙ omega (arith, length-append w.messages (keeps.0 ∷ []), length-append m.records (kept ∷ []), st.messages.same_length) in
    record {
      new = add_records m (kept ∷ []);
      next = next k (add_records m (kept ∷ [])) number refl;
      stands = rw keeps.3 (record { replicas = st.replicas; messages = Pairwise-push (λ _ b r. EncodesRecord b r) w.messages m.records keeps.0 kept st.messages encodes });
    }
kept_one w w' m event message (Refused (Node Memory)) kept st is keeps next none = record { new = m; next = none; stands = subst (λ v. WorldStands v m) (sym keeps) st }
kept_one w w' m event message answer kept st is keeps next none = absurd keeps
