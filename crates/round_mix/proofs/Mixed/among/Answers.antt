use Rattle.std.proofs.Common.{◌<◌, ◌+◌, List, length, map, sym, ◌∙◌, ap, subst, arith}
use Rattle.std.specs.Prelude.{IsSome, IfSome, IsSomeAnd}
use Rattle.std.specs.Option.{ForSome}
use Rattle.path_walk.specs.Outcomes.{action_outcome, header_at}
use Rattle.round_mix.specs.Among.{ArePositionsBelow, AreOutcomesAmong, HoldCandidates, picked_marks}
use Rattle.round_mix.specs.Found.{OutcomesState}
use Rattle.round_mix.specs.Prepared.{MixedState, IsPrepared}
use Rattle.round_mix.specs.Scan.{scan}
use Rattle.round_mix.specs.declared.MarkedRule.{MarkedRule}
use Rattle.round_mix.proofs.AmongLaws.{outcomes_among, outcomes_of_all}
use Rattle.round_mix.proofs.PickedLaws.{ascending_few}
use Rattle.round_mix.proofs.ScanLaws.{prepared_at, for_prepared, if_prepared}
use Rattle.round_mix.proofs.Mixed.among.Goals as goal

pub put_among-requires-clause-within : goal.put_among-requires-clause-within
put_among-requires-clause-within c =
    let is_some = subst (λ (v : MixedState). IsSome v.prepared) (sym c.self.view_is) c.requires.prepared in
    let marks = c.self.inside.rules.items in
    subst (λ (ms : List MarkedRule). ArePositionsBelow c.args.positions.now (length ms)) (sym c.deref.ensures.value)
    (for_prepared c.self.inside.is_prepared marks (λ ms. ArePositionsBelow c.args.positions.now (length ms)) is_some
    (subst (λ (v : MixedState). ForSome v.prepared (λ ms. ArePositionsBelow c.args.positions.now (length ms))) (sym c.self.view_is) c.requires.within))

pub put_among-requires-clause-room : goal.put_among-requires-clause-room
put_among-requires-clause-room c =
    let is_some = subst (λ (v : MixedState). IsSome v.prepared) (sym c.self.view_is) c.requires.prepared in
    let marks = c.self.inside.rules.items in
    let within = for_prepared c.self.inside.is_prepared marks (λ ms. ArePositionsBelow c.args.positions.now (length ms)) is_some
    (subst (λ (v : MixedState). ForSome v.prepared (λ ms. ArePositionsBelow c.args.positions.now (length ms))) (sym c.self.view_is) c.requires.within) in
    let few = ascending_few c.args.positions.now (length marks) c.requires.ascending within in
    let size = length c.args.out.now.list + c.args.out.now.spare in
    let room = for_prepared c.self.inside.is_prepared marks (λ ms. length ms < size) is_some
    (subst (λ (v : MixedState). ForSome v.prepared (λ ms. length ms < size)) (sym c.self.view_is) c.requires.room) in
    let seen = ap (λ (o : OutcomesState). length o.list + o.spare) c.out.view_is in
    omega (arith, few, room, seen, c.clear.ensures.capacity, c.out.inside.outcomes.ok)

pub returns-clause-exact : goal.returns-clause-exact
returns-clause-exact c table changes is_table prepared =
    let marks = c.self.inside.rules.items in
    let net = c.args.net.now in
    let list = c.put_among.new.outcomes.items in
    let at : IsPrepared table changes marks = prepared_at c.self.inside.is_prepared marks (IsPrepared table changes)
    (subst (λ (v : MixedState). IsSomeAnd v.prepared (IsPrepared table changes)) (sym c.self.view_is) prepared) in
    subst (λ (v : MixedState). IfSome v.prepared (λ ms. AreOutcomesAmong net table changes ms c.args.positions.now c.args.place c.args.dst list)) c.self.view_is
    (if_prepared c.self.inside.is_prepared marks (λ ms. AreOutcomesAmong net table changes ms c.args.positions.now c.args.place c.args.dst list)
    (outcomes_among table changes marks c.args.positions.now is_table at net c.args.place c.args.dst list c.requires.ascending
    (c.put_among.ensures.items ∙ ap (λ (ms : List MarkedRule). map (action_outcome net c.args.place) (scan (header_at c.args.place c.args.dst) (picked_marks ms c.args.positions.now))) c.deref.ensures.value)))

pub returns-clause-all : goal.returns-clause-all
returns-clause-all c table changes is_table prepared hold =
    let marks = c.self.inside.rules.items in
    let net = c.args.net.now in
    let list = c.put_among.new.outcomes.items in
    let at : IsPrepared table changes marks = prepared_at c.self.inside.is_prepared marks (IsPrepared table changes)
    (subst (λ (v : MixedState). IsSomeAnd v.prepared (IsPrepared table changes)) (sym c.self.view_is) prepared) in
    let there : HoldCandidates marks c.args.dst c.args.positions.now = prepared_at c.self.inside.is_prepared marks (λ ms. HoldCandidates ms c.args.dst c.args.positions.now)
    (subst (λ (v : MixedState). IsSomeAnd v.prepared (λ ms. HoldCandidates ms c.args.dst c.args.positions.now)) (sym c.self.view_is) hold) in
    outcomes_of_all table changes marks c.args.positions.now is_table at net c.args.place c.args.dst list c.requires.ascending
    (c.put_among.ensures.items ∙ ap (λ (ms : List MarkedRule). map (action_outcome net c.args.place) (scan (header_at c.args.place c.args.dst) (picked_marks ms c.args.positions.now))) c.deref.ensures.value) there
