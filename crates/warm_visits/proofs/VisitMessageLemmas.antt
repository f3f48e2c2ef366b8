-- Messages that are taken out of a visit before it ends.
use Rattle.std.proofs.Common.{◌≡◌, ℕ, List, [], ◌∷◌, ◌++◌, Option, Some, None, refl, sym, ap, subst, ◌∙◌, append_assoc}
use Rattle.warm_frames.specs.declared.message.Message.{Message}
use Rattle.warm_frames.specs.declared.message.Message.TheVariants.{Entries, Digest, Want}
use Rattle.warm_visits.specs.Laws.{TakenAreTheAnswer}
use Rattle.warm_visits.specs.VisitMessages.{first_made, put_before, with_taken, without_message, without_of}
use Rattle.warm_visits.specs.Visits.{Ask, Errand, GathersOffer, Made, Said, Takes, VisitState, answered, copied, copying, gathered, given, giving, goes_on, joined, keeps, nothing, offered, offering, onward, raised, refused, sending, sent, with_history, with_message}

-- one message more comes behind those that were taken
sends_behind : (taken ms : List Message) (m : Message)
    → put_before taken (with_message (answered ms) m) ≡ with_message (answered (taken ++ ms)) m
sends_behind taken ms (Entries sender horizon []) = refl
sends_behind taken ms (Entries sender horizon (e ∷ es)) = ap answered (sym (append_assoc taken ms (Entries sender horizon (e ∷ es) ∷ [])))
sends_behind taken ms (Digest sender horizon digests) = ap answered (sym (append_assoc taken ms (Digest sender horizon digests ∷ [])))
sends_behind taken ms (Want sender horizon request) = ap answered (sym (append_assoc taken ms (Want sender horizon request ∷ [])))

-- what becomes of a visit that answers, with those that were taken
module _ (taken ms : List Message) (v w : VisitState) (i : ℕ) (rest : List Errand) (is : v.made ≡ answered ms) where
  goes : (f : Made → Made) → put_before taken (f (answered ms)) ≡ f (answered (taken ++ ms)) → (plan : List Errand)
      → w ≡ onward v plan (f v.made) → with_taken taken w ≡ onward (with_taken taken v) plan (f (put_before taken v.made))
  goes f same plan went =
      ap (with_taken taken) went
      ∙ ap (λ (m : Made). record v { plan = plan; made = m }) (subst (λ (m : Made). put_before taken (f m) ≡ f (put_before taken m)) (sym is) same)

  takes_so : (ask : Ask) (said : Said) → Takes v i ask rest said w → Takes (with_taken taken v) i ask rest said (with_taken taken w)
  takes_so (giving S) (given horizon) t = goes (λ m. keeps m horizon) refl rest t
  takes_so (giving S) refused t = ap (with_taken taken) t
  takes_so (giving S) (offered horizon table) t = absurd t
  takes_so (giving S) (sent message more) t = absurd t
  takes_so (giving S) (copied h) t = absurd t
  takes_so offering (offered horizon table) t = absurd (subst (λ (m : Made). GathersOffer v.count i horizon table m t.0) is t.1)
  takes_so offering refused t = ap (with_taken taken) t
  takes_so offering (given horizon) t = absurd t
  takes_so offering (sent message more) t = absurd t
  takes_so offering (copied h) t = absurd t
  takes_so (sending bucket after) (sent message more) t = goes (λ m. with_message m message) (sends_behind taken ms message) (goes_on i bucket message more ++ rest) t
  takes_so (sending bucket after) refused t = ap (with_taken taken) t
  takes_so (sending bucket after) (given horizon) t = absurd t
  takes_so (sending bucket after) (offered horizon table) t = absurd t
  takes_so (sending bucket after) (copied h) t = absurd t
  takes_so copying (copied h) t = goes (λ m. with_history m h) refl rest t
  takes_so copying refused t = ap (with_taken taken) t
  takes_so copying (given horizon) t = absurd t
  takes_so copying (offered horizon table) t = absurd t
  takes_so copying (sent message more) t = absurd t

-- what is in an option, or else this
abbrev inside : Message → Option Message → Message
inside other None = other
inside other (Some message) = message

-- the first message, taken out, stands behind those before
took : (taken : List Message) (message : Message) (v : VisitState) (made : Made) → v.made ≡ made → first_made made ≡ Some message
    → with_taken taken v ≡ with_taken (taken ++ message ∷ []) (without_message v)
took taken message v (answered (m ∷ ms)) is first =
    ap (λ (x : Made). record v { made = put_before taken x }) is
    ∙ ap (λ (x : List Message). record v { made = answered x }) (ap (λ (n : Message). taken ++ n ∷ ms) (ap (inside m) first) ∙ sym (append_assoc taken (message ∷ []) ms))
    ∙ sym (ap (λ (x : Made). with_taken (taken ++ message ∷ []) (without_of x v.after v)) is)
took taken message v (answered []) is first = absurd (cc)
took taken message v nothing is first = absurd (cc)
took taken message v (raised h) is first = absurd (cc)
took taken message v (gathered h table) is first = absurd (cc)
took taken message v (joined h) is first = absurd (cc)

pub taken_are_the_answer : TakenAreTheAnswer
taken_are_the_answer = record {
  enters = λ taken ms v w e said old new is g. record {
    ready = g.ready;
    rest = g.rest;
    next = g.next;
    says = g.says;
    takes = takes_so taken ms v w e.shard g.rest is e.ask said g.takes;
  };
  takes = λ taken message v first. took taken message v v.made refl first;
}
