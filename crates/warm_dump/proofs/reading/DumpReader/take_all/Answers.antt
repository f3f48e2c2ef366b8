use Rattle.std.proofs.Common.{◌≡◌, ◌<◌, ◌++◌, ◌-◌, [], List, ℕ, length, take, drop, refl, sym, ap, subst, ◌∙◌, append_assoc, append-nil, arith}
use Rattle.std.proofs.lemmas.Bool.{eqb-false, eqb-true}
use Rattle.std.proofs.lemmas.List.{take-append-drop, take_all, length-drop}
use Rattle.warm_dump.specs.declared.fault.DumpFault.TheVariants.{MoreFollows}
use Rattle.warm_dump.specs.Progress.{HasRead}
use Rattle.warm_dump.proofs.ReadLemmas.{open_read, more_refused, refused_behind, read_behind, passed_on}
use Rattle.warm_dump.proofs.reading.DumpReader.take_all.Goals as goal

pub loop-rest-init : goal.loop-rest-init
loop-rest-init c = record {
  some = c.requires;
  goes = ([], refl, (λ seen read. subst (λ (w : List ℕ). HasRead w c.args.self.now) (sym (append-nil seen)) read));
}

pub take-requires-clause-reads : goal.take-requires-clause-reads
take-requires-clause-reads c = (c.loop-rest.invariant.some.0, open_read c.loop-rest.invariant.some.0 _ c.if-self.false c.loop-rest.invariant.some.1)

pub take-requires-clause-some : goal.take-requires-clause-some
take-requires-clause-some c = omega (arith, eqb-false (length c.loop-rest.rest.now) 0 (sym c.is_empty.ensures ∙ c.loop-rest-test.true))

pub returns-then-self-clause-refused : goal.returns-then-self-clause-refused
returns-then-self-clause-refused c = λ seen read.
    let goes = c.loop-rest.invariant.goes in
    let some : 0 < length c.loop-rest.rest.now = omega (arith, eqb-false (length c.loop-rest.rest.now) 0 (sym c.is_empty.ensures ∙ c.loop-rest-test.true)) in
    refused_behind seen goes.0 c.loop-rest.rest.now c.args.bytes.now _ MoreFollows goes.1 (more_refused (seen ++ goes.0) c.loop-rest.rest.now _ c.if-self.true some (goes.2 seen read))

pub loop-rest-preserved : goal.loop-rest-preserved
loop-rest-preserved c =
    let goes = c.loop-rest.invariant.goes in
    let some = c.loop-rest.invariant.some in
    let rest = c.loop-rest.rest.now in
    let n = c.in_ok-taken.taken in
    let whole : take (length rest - n) (drop n rest) ≡ drop n rest = take_all (length rest - n) (drop n rest) (omega (arith, length-drop n rest)) in
    record {
      some = (some.0 ++ take n rest, c.in_ok-taken.ensures.read some.0 (open_read some.0 _ c.if-self.false some.1));
      goes = (
        goes.0 ++ take n rest,
        goes.1 ∙ ap (λ (w : List ℕ). goes.0 ++ w) (sym (take-append-drop n rest)) ∙ ap (λ (w : List ℕ). goes.0 ++ (take n rest ++ w)) (sym whole) ∙ sym (append_assoc goes.0 (take n rest) (take (length rest - n) (drop n rest))),
        (λ seen read. read_behind seen goes.0 (take n rest) (goes.0 ++ take n rest) _ refl (c.in_ok-taken.ensures.read (seen ++ goes.0) (open_read (seen ++ goes.0) _ c.if-self.false (goes.2 seen read)))),
      );
    }

pub returns-in_err-taken-clause-refused : goal.returns-in_err-taken-clause-refused
returns-in_err-taken-clause-refused c =
    let goes = c.loop-rest.invariant.goes in
    let why = c.in_err-taken.field-0.0 in
    passed_on c.from_residual.result why _ c.from_residual.ensures.1 (λ seen read.
    refused_behind seen goes.0 c.loop-rest.rest.now c.args.bytes.now _ why goes.1 (c.in_err-taken.ensures.refused (seen ++ goes.0) (open_read (seen ++ goes.0) _ c.if-self.false (goes.2 seen read))))

pub returns-clause-read : goal.returns-clause-read
returns-clause-read c = λ seen read.
    let goes = c.loop-rest.invariant.goes in
    let rest = c.loop-rest.rest.now in
    let none : length rest ≡ 0 = eqb-true (length rest) 0 (sym c.is_empty.ensures ∙ c.loop-rest-test.false) in
    let empty : [] ≡ rest = take_all 0 rest (omega (arith, none)) in
    let now = goes.2 seen read in
    read_behind seen goes.0 rest c.args.bytes.now _ goes.1 (subst (λ (w : List ℕ). HasRead w c.loop-rest.self) (sym (append-nil (seen ++ goes.0)) ∙ ap (λ (w : List ℕ). (seen ++ goes.0) ++ w) empty) now)
