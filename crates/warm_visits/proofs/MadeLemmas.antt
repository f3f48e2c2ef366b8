-- What a visit has made stays of its kind, unless digests wait to be compared.
use Rattle.std.proofs.Common.{◌≡◌, ℕ, List, [], refl, ap, ◌∙◌}
use Rattle.std.specs.Prelude.{None, Some}
use Rattle.warm_history.specs.Histories.{HistoryView, history_of_entries}
use Rattle.warm_frames.specs.declared.message.Message.{Message}
use Rattle.warm_frames.specs.declared.message.Message.TheVariants.{Entries}
use Rattle.warm_machine.specs.declared.operation.Operation.{Operation}
use Rattle.warm_machine.specs.Runs.{Runs}
use Rattle.warm_visits.specs.Laws.{EntersAny, IsCopy, IsOffer, MadeStaysOfItsKind}
use Rattle.warm_visits.specs.Visits.{After, Ask, ComparesOffers, Errand, GathersOffer, Made, Said, Takes, VisitState, answered, compares, copied, copy_visit, copying, ends, gathered, given, giving, joined, keeps, nothing, offer_visit, offered, offering, onward, raised, refused, sending, sent, with_history, with_message}
use Rattle.warm_visits.proofs.RunLemmas.{all_keep}

-- ---- kinds

-- the kind alone
abbrev kind_of : Made → Made
kind_of nothing = nothing
kind_of (raised earliest) = raised None
kind_of (gathered horizon table) = gathered 0 []
kind_of (answered messages) = answered []
kind_of (joined h) = joined (history_of_entries [])

kept_kind : (made : Made) (horizon : ℕ) → kind_of (keeps made horizon) ≡ kind_of made
kept_kind (raised None) horizon = refl
kept_kind (raised (Some earliest)) horizon = refl
kept_kind made horizon = refl

sent_kind : (made : Made) (message : Message) → kind_of (with_message made message) ≡ kind_of made
sent_kind (answered messages) (Entries sender horizon []) = refl
sent_kind (answered messages) message = refl
sent_kind made message = refl

copied_kind : (made : Made) (h : HistoryView) → kind_of (with_history made h) ≡ kind_of made
copied_kind (joined g) h = refl
copied_kind made h = refl

gathered_kind : (count i horizon : ℕ) (table : List (List ℕ)) (before after : Made)
    → GathersOffer count i horizon table before after → kind_of after ≡ kind_of before
gathered_kind count i horizon table (gathered latest digests) (gathered later filled) is = refl
gathered_kind count i horizon table before after is = absurd is

is_offer : (made : Made) → kind_of made ≡ gathered 0 [] → IsOffer made
is_offer (gathered horizon table) is = (horizon, table, refl)
is_offer made is = absurd (cc)

is_copy : (made : Made) → kind_of made ≡ joined (history_of_entries []) → IsCopy made
is_copy (joined h) is = (h, refl)
is_copy made is = absurd (cc)

-- ---- entries

-- no digests wait, and this is the kind
record IsOfKind (kind : Made) (v : VisitState) : Type 0 where
  made : kind_of v.made ≡ kind
  after : v.after ≡ ends

not_compared : (v w : VisitState) (rest : List Errand) (after : After) (made : Made) → after ≡ ends
    → ComparesOffers rest after made v w → w ≡ v
not_compared v w [] (compares digests) (gathered horizon table) is so =
    let no : compares digests ≡ ends = is in absurd (cc)
not_compared v w rest after made is so = so

module _ (kind : Made) (v w : VisitState) (of : IsOfKind kind v) where
  stays : (u : VisitState) → w ≡ u → kind_of u.made ≡ kind_of v.made → u.after ≡ v.after
      → IsOfKind kind w
  stays u is same after = record {
    made = ap (λ (x : VisitState). kind_of x.made) is ∙ same ∙ of.made;
    after = ap (λ (x : VisitState). x.after) is ∙ after ∙ of.after;
  }

  taken_kind : (i : ℕ) (ask : Ask) (rest : List Errand) (said : Said) → Takes v i ask rest said w
      → IsOfKind kind w
  taken_kind i (giving S) rest (given horizon) is = stays _ is (kept_kind v.made horizon) refl
  taken_kind i offering rest (offered horizon table) is =
      stays _ (not_compared (onward v rest is.0) w rest v.after is.0 of.after is.2) (gathered_kind v.count i horizon table v.made is.0 is.1) refl
  taken_kind i (sending bucket after) rest (sent message more) is = stays _ is (sent_kind v.made message) refl
  taken_kind i copying rest (copied h) is = stays _ is (copied_kind v.made h) refl
  taken_kind i (giving S) rest refused is = stays _ is refl refl
  taken_kind i offering rest refused is = stays _ is refl refl
  taken_kind i (sending bucket after) rest refused is = stays _ is refl refl
  taken_kind i copying rest refused is = stays _ is refl refl
  taken_kind i ask rest said is = absurd is

always : (kind : Made) (v w : VisitState) (es : List (Operation Errand Said)) → IsOfKind kind v
    → Runs EntersAny v es w → kind_of w.made ≡ kind
always kind v w es of runs =
    let last : IsOfKind kind w = all_keep EntersAny (IsOfKind kind) (λ x y e said now entered. taken_kind kind x y now e.shard e.ask entered.2.rest said entered.2.takes) v w es of runs in
    last.made

pub made_stays_of_its_kind : MadeStaysOfItsKind
made_stays_of_its_kind = record {
  offers = λ id count es w runs. is_offer w.made (always (gathered 0 []) (offer_visit id count) w es (record { made = refl; after = refl }) runs);
  copies = λ id count es w runs. is_copy w.made (always (joined (history_of_entries [])) (copy_visit id count) w es (record { made = refl; after = refl }) runs);
}
