use Rattle.std.proofs.Common.{◌≡◌, ◌<◌, ◌∷◌, [], List, length, sym, ap, subst}
use Rattle.net_base.specs.Members.{IsIn}
use Rattle.net_base.specs.declared.ids.Place.{Place}
use Rattle.path_walk.specs.declared.Outcome.{Outcome}
use Rattle.path_walk.specs.declared.Outcome.TheVariants.{Go}
use Rattle.mixed_walks.specs.Walks.{WalkState}
use Rattle.mixed_walks.specs.Walking.{IsNoted, AreFew}
use Rattle.mixed_walks.proofs.NotedLaws.{drop_noted, leave_noted, go_noted, room_for_next, next_near}
use Rattle.mixed_walks.proofs.noted.WalkNotes.note.Goals as goal

pub put-requires-in-Go : goal.put-requires-in-Go
put-requires-in-Go c = (
  c.requires.near,
  next_near c.args.self.now.places c.in-Go.next (subst (λ (o : Outcome). AreFew c.args.self.now.places (o ∷ [])) c.in-Go.is c.requires.few),
)

pub put-requires-in-Go-2-clause-near : goal.put-requires-in-Go-2-clause-near
put-requires-in-Go-2-clause-near c =
    next_near c.args.self.now.places c.in-Go.next (subst (λ (o : Outcome). AreFew c.args.self.now.places (o ∷ [])) c.in-Go.is c.requires.few)

pub put-requires-in-Go-2-clause-room : goal.put-requires-in-Go-2-clause-room
put-requires-in-Go-2-clause-room c =
    let same : c.self.inside.reached ≡ c.args.self.now.places = ap (λ (w : WalkState). w.places) c.self.view_is in
    let few : AreFew c.args.self.now.places (Go c.in-Go.next ∷ []) = subst (λ (o : Outcome). AreFew c.args.self.now.places (o ∷ [])) c.in-Go.is c.requires.few in
    subst (λ (xs : List Place). ¬ IsIn c.in-Go.next xs → length xs < 8193) (sym same) (room_for_next c.args.self.now.places c.in-Go.next few)

pub returns-in-Discard : goal.returns-in-Discard
returns-in-Discard c =
    let old : WalkState = record { places = c.self.inside.reached; steps = c.self.inside.steps; leaving = c.self.inside.leaving; dropping = c.self.inside.dropping } in
    let new : WalkState = record old { dropping = c.put.new.self } in
    subst (λ (w : WalkState). IsNoted w c.args.place (c.args.outcome ∷ []) new) c.self.view_is
    (subst (λ (o : Outcome). IsNoted old c.args.place (o ∷ []) new) (sym c.in-Discard.is) (drop_noted old c.args.place c.put.new.self c.put.ensures))

pub returns-in-Leave : goal.returns-in-Leave
returns-in-Leave c =
    let old : WalkState = record { places = c.self.inside.reached; steps = c.self.inside.steps; leaving = c.self.inside.leaving; dropping = c.self.inside.dropping } in
    let new : WalkState = record old { leaving = c.put-in-Leave.new.self } in
    subst (λ (w : WalkState). IsNoted w c.args.place (c.args.outcome ∷ []) new) c.self.view_is
    (subst (λ (o : Outcome). IsNoted old c.args.place (o ∷ []) new) (sym c.in-Leave.is)
    (leave_noted old c.args.place c.in-Leave.field-0 c.in-Leave.field-1 c.put-in-Leave.new.self c.put-in-Leave.ensures))

pub returns-in-Go : goal.returns-in-Go
returns-in-Go c =
    let old : WalkState = record { places = c.self.inside.reached; steps = c.self.inside.steps; leaving = c.self.inside.leaving; dropping = c.self.inside.dropping } in
    let new : WalkState = record old { places = c.put-in-Go-2.new.self; steps = c.put-in-Go.new.self } in
    subst (λ (w : WalkState). IsNoted w c.args.place (c.args.outcome ∷ []) new) c.self.view_is
    (subst (λ (o : Outcome). IsNoted old c.args.place (o ∷ []) new) (sym c.in-Go.is)
    (go_noted old c.args.place c.in-Go.next c.put-in-Go.new.self c.put-in-Go-2.new.self c.put-in-Go-2.ensures.behind.0 c.put-in-Go.ensures c.put-in-Go-2.ensures.places
    c.put-in-Go-2.ensures.behind.1 c.put-in-Go-2.ensures.once))
