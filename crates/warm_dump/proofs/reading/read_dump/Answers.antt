use Rattle.warm_dump.specs.Reading.{IsDump, IsDumpRefused, EndsWithDigests}
use Rattle.warm_history.specs.Histories.{entries_of}
use Rattle.warm_digest.specs.BucketDigests.{digests_of}
use Rattle.warm_dump.proofs.EndLemmas.{if_ok_map, if_err_map, on_ok, some_map}
use Rattle.warm_dump.proofs.ReadLemmas.{ends_with_digests}
use Rattle.warm_dump.proofs.reading.read_dump.Goals as goal

pub returns-in-Ok-clause-end : goal.returns-in-Ok-clause-end
returns-in-Ok-clause-end g c = on_ok c.finish.result _ c.in-Ok.ensures.end

pub returns-in-Ok-clause-dump : goal.returns-in-Ok-clause-dump
returns-in-Ok-clause-dump g c = if_ok_map c.finish.result _ _ (λ h x. some_map _ _ (λ text. IsDump text h) (λ text read. x text read) c.in-Ok.ensures.read) c.finish.ensures.dump

pub returns-in-Ok-clause-digests : goal.returns-in-Ok-clause-digests
returns-in-Ok-clause-digests g c =
    if_ok_map c.finish.result _ _ (λ h x. some_map _ _ (λ text. EndsWithDigests text (digests_of (entries_of h))) (λ text read. ends_with_digests text h (x text read)) c.in-Ok.ensures.read) c.finish.ensures.dump

pub returns-in-Ok-clause-refused : goal.returns-in-Ok-clause-refused
returns-in-Ok-clause-refused g c =
    if_err_map c.finish.result _ _ (λ error x. some_map _ _ (λ text. IsDumpRefused text error.at error.fault) (λ text read. x text read) c.in-Ok.ensures.read) c.finish.ensures.cut
