use Rattle.std.proofs.Common.{◌≡◌, true, false, Result, Ok, Err, OnOk, OnErr, is_err, refl}
use Rattle.warm_devices.proofs.logged.LoggedPageDevice.write.Goals as goal

-- what holds anyway also holds if there is an error
anyway : {T E P : Type 0} (r : Result T E) → P → OnErr r P
anyway (Ok x) holds = tt
anyway (Err e) holds = holds

no_error : {T E : Type 0} (P : Type 0) (r : Result T E) → false ≡ is_err r → OnErr r P
no_error P (Ok x) is = tt
no_error P (Err e) is = absurd (cc)

taken : {T E P : Type 0} (r : Result T E) → P → OnOk r P
taken (Ok x) holds = holds
taken (Err e) holds = tt

not_taken : {T E : Type 0} (P : Type 0) (r : Result T E) → true ≡ is_err r → OnOk r P
not_taken P (Ok x) is = absurd (cc)
not_taken P (Err e) is = tt

pub returns-then-is_err-clause-asked : goal.returns-then-is_err-clause-asked
returns-then-is_err-clause-asked g c = record {
  answer = c.before_write.result;
  asked = c.before_write.ensures;
  held_back = anyway c.before_write.result (refl, refl, c.saturating_add-self.ensures);
  passed_on = not_taken _ c.before_write.result c.if-is_err.ensures.value;
}

pub returns-clause-asked : goal.returns-clause-asked
returns-clause-asked g c = record {
  answer = c.before_write.result;
  asked = c.before_write.ensures;
  held_back = no_error _ c.before_write.result c.if-is_err.ensures.value;
  passed_on = taken c.before_write.result (record { once = c.write.ensures.calls; faults = c.write.ensures.faults; unfailing = c.write.ensures.unfailing; refused = refl });
}
