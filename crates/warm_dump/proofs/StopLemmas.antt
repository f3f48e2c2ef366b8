-- A reader that stopped at a fault.
use Rattle.std.proofs.Common.{◌≡◌, ◌⊎◌, inl, inr, ℕ, List, ◌++◌, Option, Some, None, IfSome, sym, subst}
use Rattle.std.specs.Io.KnownBytes.{Consumes}
use Rattle.std.proofs.KnownBytes.{Consumes-trans}
use Rattle.warm_dump.specs.declared.fault.DumpFault.{DumpFault}
use Rattle.warm_dump.specs.declared.fault.DumpFault.TheVariants.{ReadFault}
use Rattle.warm_dump.specs.declared.reading.DumpReader.{DumpReader}
use Rattle.warm_dump.specs.Progress.{HasRead, IsRefusedForGood}
use Rattle.warm_dump.specs.Reading.{IsDumpRefused}
use Rattle.warm_dump.proofs.EndLemmas.{any_text}

front_text : (a b : Option (List ℕ)) (bs : List ℕ) (P : List ℕ → Type 0) → Consumes a b bs
    → ((later : List ℕ) → P (bs ++ later)) → IfSome a P
front_text None b bs P p f = tt
front_text (Some t) None bs P p f = absurd p
front_text (Some t) (Some y) bs P p f = subst P (sym p) (f y)

pub read_refused : (a b c : Option (List ℕ)) (seen : List ℕ) (at : ℕ) (why : DumpFault)
    (now : DumpReader) → Consumes a b seen → HasRead seen now
    → ((why ≡ ReadFault) ⊎ ((bytes : List ℕ) × Consumes b c bytes
    × ((s : List ℕ) → HasRead s now → IsRefusedForGood (s ++ bytes) at why)))
    → IfSome a (λ text. IsDumpRefused text at why)
read_refused a b c seen at why now p read (inl is) = any_text a (λ text. IsDumpRefused text at why) (λ t. subst (IsDumpRefused t at) (sym is) tt)
read_refused a b c seen at why now p read (inr x) = front_text a c (seen ++ x.0) (λ text. IsDumpRefused text at why) (Consumes-trans a b c seen x.0 p x.1) (x.2 seen read)
