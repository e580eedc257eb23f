-- The schedule of a run that breaks the duties of a class.
use Rattle.std.proofs.Common.{◌≡◌, ℕ, suc, List, [], ◌∷◌, ◌++◌, take, Ok, Err, refl, sym, ap, ◌∙◌, subst}
use Rattle.std.specs.declared.result.Result.{Result}
use Rattle.std.specs.Result.{IfOk}
use Rattle.update_model.specs.Runs.{IsRun, state_after_run}
use Rattle.update_model.specs.declared.Change.{Change}
use Rattle.update_model.specs.declared.Event.{Event}
use Rattle.update_model.specs.declared.Event.TheVariants as event
use Rattle.certificates.specs.Updates.{Task, rollout}
use Rattle.certificates.specs.Certified.{classes_for}
use Rattle.schedule_replay.specs.EventTexts.{schedule_text}
use Rattle.schedule_replay.specs.Schedules.{schedule_in, numbered_lines, events_of}
use Rattle.counter_run.specs.Explaining.{IsFirstBreakingRun}
use Rattle.counter_run.specs.Showing.{whole_rounds}
use Rattle.command_base.proofs.AnswerLaws.{first_byte}
use Rattle.explain_command.specs.Explained.{IsBreakingSchedule}

-- what holds of two facts of a value in its place
pub both : {T E : Type 0} (r : Result T E) (P Q R : T → Type 0) → IfOk r P → IfOk r Q → ((v : T) → P v → Q v → R v) → IfOk r R
both (Ok v) P Q R p q f = f v p q
both (Err e) P Q R p q f = tt

-- the events in numbered lines
events_numbered : (n : ℕ) (events : List Event) → events_of (numbered_lines n events) ≡ events
events_numbered n [] = refl
events_numbered n (e ∷ events) = ap (λ (es : List Event). e ∷ es) (events_numbered (suc n) events)

pub breaking_of : (t : Task) (events : List Event) → IsFirstBreakingRun (rollout t) (classes_for t) t.update.demands events → (text : List ℕ) → text ≡ schedule_text t.update.net events
    → schedule_in t.update.net text ≡ Ok (numbered_lines 1 events) → IsBreakingSchedule t text
breaking_of t events first text text_is means =
    let same = sym (events_numbered 1 events) in
    record {
      events = events;
      first = first;
      text_is = text_is;
      means = means;
      replayed = subst (λ (es : List Event). IsRun (rollout t) es) same first.shown.run;
      packet = first.shown.packet;
      only = subst (λ (es : List Event). (state_after_run (rollout t) es).packets ≡ first.shown.packet ∷ []) same first.shown.only;
      broken = first.shown.bad;
    }

-- whatever rounds stand before, the first event is a start
starts : (rounds : List (List Change)) (rest : List Event) → (more : List Event) × (whole_rounds rounds ++ event.Start ∷ rest ≡ event.Start ∷ more)
starts [] rest = (rest, refl)
starts (round ∷ rounds) rest = (_, refl)

-- so the schedule begins with the letter s
pub begins_so : (t : Task) (text : List ℕ) → IsBreakingSchedule t text → first_byte text ≡ 115
begins_so t text b =
    let (more, is) = starts (take b.first.round t.rounds) _ in
    ap first_byte (b.text_is ∙ ap (schedule_text t.update.net) (b.first.shown.events_are ∙ is))
