use Rattle.std.proofs.Common.{ℕ, ◌++◌, refl, sym, subst, ap, ◌∙◌, Some}
use Rattle.warm_frames.specs.declared.message.Message.{Message}
use Rattle.warm_dump.proofs.ReadLemmas.{part_read, whole_read, whole_rejected, some_fed, takes_placed, fault_refused, passed_on}
use Rattle.warm_dump.specs.declared.reading.DumpReader.{DumpReader}
use Rattle.warm_dump.specs.Progress.{IsRefusedForGood}
use Rattle.warm_dump.proofs.reading.DumpReader.take.Goals as goal

pub returns-in-None-clause-read : goal.returns-in-None-clause-read
returns-in-None-clause-read c = λ seen gathers. part_read seen c.args.piece.now c.in-Ok.fed c.args.self.now _ gathers c.in-Ok.ensures c.in-None.is refl refl c.requires.complete c.in_ok-bytes_read-in-Ok.ensures.count refl

pub returns-in_ok-take_message-in-Some-clause-some : goal.returns-in_ok-take_message-in-Some-clause-some
returns-in_ok-take_message-in-Some-clause-some c = some_fed c.requires.reads.0 c.args.piece.now c.in-Ok.fed _ c.args.self.now _ c.requires.reads.1 c.in-Ok.ensures c.in-Some.is

pub returns-in_ok-take_message-in-Some-clause-read : goal.returns-in_ok-take_message-in-Some-clause-read
returns-in_ok-take_message-in-Some-clause-read c = λ seen gathers.
    let mid : DumpReader = record { alloc = c.args.self.now.alloc; decoder = c.feed.new.self; history = c.args.self.now.history; horizon = c.args.self.now.horizon; complete = c.args.self.now.complete; bytes_read = c.in_ok-bytes_read-in-Ok.bytes_read; frame_start = c.args.self.now.frame_start } in
    whole_read seen c.args.piece.now c.in-Ok.fed _ c.args.self.now mid _ gathers c.in-Ok.ensures (c.in-Some.is ∙ ap (λ (f : Message). Some f) (sym c.as_message.ensures)) refl refl c.take_message.ensures.decoder (takes_placed c.as_message.result.now mid c.take_message.new.self c.in_ok-bytes_read-in-Ok.bytes_read c.in_ok-take_message-in-Some.ensures.takes) (c.take_message.ensures.counts.0 ∙ c.in_ok-bytes_read-in-Ok.ensures.count) (sym c.take_message.ensures.counts.0)

pub returns-in-Err-clause-refused : goal.returns-in-Err-clause-refused
returns-in-Err-clause-refused c = λ seen gathers. fault_refused seen c.args.piece.now c.in-Err.fault c.args.self.now _ gathers c.in-Err.ensures

pub returns-in_err-take_message-in-Some-clause-refused : goal.returns-in_err-take_message-in-Some-clause-refused
returns-in_err-take_message-in-Some-clause-refused c =
    let mid : DumpReader = record { alloc = c.args.self.now.alloc; decoder = c.feed.new.self; history = c.args.self.now.history; horizon = c.args.self.now.horizon; complete = c.args.self.now.complete; bytes_read = c.in_ok-bytes_read-in-Ok.bytes_read; frame_start = c.args.self.now.frame_start } in
    passed_on c.from_residual-in_err-take_message-in-Some.result c.in_err-take_message-in-Some.field-0.0 _ c.from_residual-in_err-take_message-in-Some.ensures.1 (λ seen gathers.
    subst (λ (at : ℕ). IsRefusedForGood (seen ++ c.args.piece.now) at c.in_err-take_message-in-Some.field-0.0) (sym c.take_message.ensures.counts.1)
    (whole_rejected seen c.args.piece.now c.in-Ok.fed _ c.in_err-take_message-in-Some.field-0.0 c.args.self.now mid _ gathers c.in-Ok.ensures (c.in-Some.is ∙ ap (λ (f : Message). Some f) (sym c.as_message.ensures)) refl refl c.in_err-take_message-in-Some.ensures.refused))
