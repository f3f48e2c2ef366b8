use Rattle.std.proofs.Common.{◌-◌, ◌≤◌, length, arith}
use Rattle.std.proofs.lemmas.List.{length-append}
use Rattle.warm_frames.proofs.SizeLemmas.{nothing_short, part_without_header, part_with_header}
use Rattle.warm_frames.proofs.DecoderLemmas.{inside, said_none, said_some, still_unknown, took_all, broke, no_room, memory_leaves, body_shown, size_up_to, same_knows}
use Rattle.warm_frames.proofs.decoder.Decoder.take.Goals as goal

pub invariant_of-self-in_default : goal.invariant_of-self-in_default
invariant_of-self-in_default c =
    let known = inside _ _ c.self.inside.held.items c.args.piece.now c.args.size c.self.view_is c.requires in
    still_unknown c.self.inside.held.items c.args.piece.now _ c.self.inside.size c.self.invariant (said_none c.self.inside.held.items c.args.piece.now c.args.size c.in_default.not-Some known.1) c.in_ok-hold.ensures.ok

pub returns-in_default : goal.returns-in_default
returns-in_default c =
    let known = inside _ _ c.self.inside.held.items c.args.piece.now c.args.size c.self.view_is c.requires in
    took_all _ _ c.self.inside.held.items _ c.args.piece.now c.all_of.result c.self.view_is known.0 c.all_of.ensures.taken c.all_of.ensures.none c.in_ok-hold.ensures.ok
    (part_without_header _ (said_none c.self.inside.held.items c.args.piece.now c.args.size c.in_default.not-Some known.1))

pub returns-then-piece-missing : goal.returns-then-piece-missing
returns-then-piece-missing c =
    let known = inside _ _ c.self.inside.held.items c.args.piece.now c.args.size c.self.view_is c.requires in
    let says = said_some c.self.inside.held.items c.args.piece.now c.args.size c.in-Some.size c.in-Some.is known.1 in
    took_all _ _ c.self.inside.held.items _ c.args.piece.now c.all_of-then-piece-missing.result c.self.view_is known.0 c.all_of-then-piece-missing.ensures.taken c.all_of-then-piece-missing.ensures.none c.in_ok-hold-2.ensures.ok
    (part_with_header _ c.in-Some.size says.0 (omega (arith, says.1, c.if-piece-missing.true, c.len.ensures, c.self.inside.held.ok, length-append c.self.inside.held.items c.args.piece.now)))

pub invariant_of-self-in-Ok : goal.invariant_of-self-in-Ok
invariant_of-self-in-Ok c = nothing_short _ c.clear.ensures.items

pub invariant_of-self-in-Memory : goal.invariant_of-self-in-Memory
invariant_of-self-in-Memory c =
    let known = inside _ _ c.self.inside.held.items c.args.piece.now c.args.size c.self.view_is c.requires in
    let says = said_some c.self.inside.held.items c.args.piece.now c.args.size c.in-Some.size c.in-Some.is known.1 in
    let whole = size_up_to c.self.inside.held.items c.args.piece.now c.in-Some.size (c.in-Some.size - c.len.result) says.0 (omega (arith, says.1, c.len.ensures, c.self.inside.held.ok)) (omega (arith, c.if-piece-missing.false)) in
    same_knows _ _ c.self.inside.size (memory_leaves _ _ _ c.in-Err.fault whole c.in-Err.ensures.reads c.in-Memory.is) c.self.invariant

pub returns-in-Memory : goal.returns-in-Memory
returns-in-Memory c =
    let known = inside _ _ c.self.inside.held.items c.args.piece.now c.args.size c.self.view_is c.requires in
    let says = said_some c.self.inside.held.items c.args.piece.now c.args.size c.in-Some.size c.in-Some.is known.1 in
    let whole = size_up_to c.self.inside.held.items c.args.piece.now c.in-Some.size (c.in-Some.size - c.len.result) says.0 (omega (arith, says.1, c.len.ensures, c.self.inside.held.ok)) (omega (arith, c.if-piece-missing.false)) in
    no_room _ _ c.self.inside.held.items _ c.args.piece.now c.in-Err.fault c.self.view_is known.0 c.in-Memory.is (memory_leaves _ _ _ c.in-Err.fault whole c.in-Err.ensures.reads c.in-Memory.is)

pub invariant_of-self-in-Err : goal.invariant_of-self-in-Err
invariant_of-self-in-Err c = nothing_short _ c.clear-in-Err.ensures.items

pub returns-in_default-fault : goal.returns-in_default-fault
returns-in_default-fault c =
    let known = inside _ _ c.self.inside.held.items c.args.piece.now c.args.size c.self.view_is c.requires in
    let says = said_some c.self.inside.held.items c.args.piece.now c.args.size c.in-Some.size c.in-Some.is known.1 in
    let n = c.in-Some.size - c.len.result in
    let enough : n ≤ length c.args.piece.now = omega (arith, c.if-piece-missing.false) in
    let whole = size_up_to c.self.inside.held.items c.args.piece.now c.in-Some.size n says.0 (omega (arith, says.1, c.len.ensures, c.self.inside.held.ok)) enough in
    broke _ _ c.self.inside.held.items c.args.piece.now c.in-Err.fault c.self.view_is known.0 (body_shown _ c.args.piece.now _ n c.in-Err.fault enough whole c.in-Err.ensures.reads c.in_default-fault.not-Memory)
