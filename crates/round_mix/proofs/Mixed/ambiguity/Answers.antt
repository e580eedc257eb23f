use Rattle.std.proofs.Common.{ap, arith}
use Rattle.round_mix.specs.Prepared.{MixedState}
use Rattle.round_mix.proofs.ClearLaws.{all_needed}
use Rattle.round_mix.proofs.Mixed.ambiguity.Goals as goal

pub clash_of-i-requires-clause-room : goal.clash_of-i-requires-clause-room
clash_of-i-requires-clause-room c =
    let same = all_needed c.args.table.now.rules c.args.changes.now in
    let room = ap (λ (m : MixedState). m.room) c.self.view_is in
    let asked = c.requires.room in
    let holds = c.self.invariant.0 in
    omega arith
