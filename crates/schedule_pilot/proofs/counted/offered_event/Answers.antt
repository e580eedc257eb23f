use Rattle.std.proofs.Common.{◌≡◌, ◌-◌, ◌++◌, ℕ, List, map, sym, subst, append_assoc, arith}
use Rattle.std.specs.Prelude.{slice_get, Some}
use Rattle.update_model.specs.declared.Event.{Event}
use Rattle.update_model.specs.declared.Event.TheVariants as event
use Rattle.schedule_pilot.specs.Offered.{next_entry}
use Rattle.schedule_pilot.specs.Agendas.{numbers_on}
use Rattle.schedule_pilot.specs.Counted.{first_events}
use Rattle.schedule_pilot.proofs.SafeLaws.{at_right}
use Rattle.schedule_pilot.proofs.counted.offered_event.Goals as goal

pub returns-else-place-first : goal.returns-else-place-first
returns-else-place-first c =
    let first = first_events c.args.due (numbers_on 0 c.args.counted.now.pending) in
    let next = next_entry c.args.entries.now in
    let hops = map event.Hop c.args.counted.now.under_way.items in
    let j = c.args.place - c.first_count-first.result in
    let later = subst (λ (l : List ℕ). slice_get (next_entry c.args.entries.now ++ map event.Hop l) j ≡ Some c.later_event.result) c.deref.ensures.value c.later_event.ensures in
    subst (λ (l : List Event). slice_get l c.args.place ≡ Some c.later_event.result) (sym (append_assoc first next hops))
    (at_right first (next ++ hops) c.args.place j c.later_event.result (let value = c.first_count-first.ensures.value in let more = c.if-place-first.false in omega arith) later)
