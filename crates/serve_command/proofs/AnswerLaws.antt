-- What a refused call leaves.
use Rattle.std.proofs.Common.{◌≡◌, ◌≢◌, Ok, Err, refl, sym, ap, ◌∙◌, subst}
use Rattle.std.specs.Prelude.{Option, Some, Result, IfOk, OnOk, is_none, if◌then◌else◌}
use Rattle.std.proofs.lemmas.Result.{IfOk-weaker}
use Rattle.two_way_driver.specs.Calls.{DriverView, IsServing, IsCallRefusal, KeepsUnlessMemory}
use Rattle.two_way_driver.specs.declared.faults.CallFault.{CallFault}
use Rattle.two_way_driver.specs.declared.faults.CallFault.TheVariants as fault
use Rattle.serve_lines.specs.declared.blocks.LineOutcome.{LineOutcome}
use Rattle.serve_command.specs.Served.{refusal_of, call_outcome}

stays : (old new : DriverView) (f : CallFault) → f ≢ fault.Memory → KeepsUnlessMemory old new f → new ≡ old
stays old new fault.Running other keeps = keeps
stays old new fault.Finished other keeps = keeps
stays old new fault.NotBegun other keeps = keeps
stays old new (fault.NotOpen s) other keeps = keeps
stays old new fault.Memory other keeps = absurd (other refl)

refuses : (of : Option CallFault) (f : CallFault) → f ≢ fault.Memory → IsCallRefusal of f → of ≡ Some f
refuses of fault.Running other is = is
refuses of fault.Finished other is = is
refuses of fault.NotBegun other is = is
refuses of (fault.NotOpen s) other is = is
refuses of fault.Memory other is = absurd (other refl)

on_ok : {A E Q : Type 0} {P : A → Type 0} (r : Result A E) → ((x : A) → P x → Q) → IfOk r P → OnOk r Q
on_ok (Ok x) f h = f x h
on_ok (Err e) f h = tt

pub on_ok_too : {A E P Q : Type 0} (r : Result A E) → (P → Q) → OnOk r P → OnOk r Q
on_ok_too (Ok x) f h = f h
on_ok_too (Err e) f h = tt

-- A refused call leaves the driver as it was, and its outcome says why. `behind` is the driver behind a call that isn't refused.
module _ {E : Type 0} (driver left : DriverView) (f : CallFault) (r : Result LineOutcome E) (of : Option CallFault) (keeps : KeepsUnlessMemory driver left f) (refused : IsCallRefusal of f) (said : IfOk r (λ o. (o ≡ refusal_of f) × (f ≢ fault.Memory))) where
  pub refused_call : (behind : DriverView) → OnOk r (left ≡ (if is_none of then behind else driver))
  refused_call behind =
      on_ok r (λ o h. stays driver left f h.1 keeps ∙ sym (ap (λ (x : Option CallFault). if is_none x then behind else driver) (refuses of f h.1 refused))) said

  pub refused_outcome : (behind : DriverView) → IfOk r (λ o. o ≡ call_outcome of behind)
  refused_outcome behind = IfOk-weaker r _ _ (λ o h. h.0 ∙ sym (ap (λ (x : Option CallFault). call_outcome x behind) (refuses of f h.1 refused))) said

  pub refused_serving : IsServing driver → OnOk r (IsServing left)
  refused_serving serving = on_ok r (λ o h. subst IsServing (sym (stays driver left f h.1 keeps)) serving) said
