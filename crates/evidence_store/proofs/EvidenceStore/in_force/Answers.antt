use Rattle.std.proofs.Common.{◌≡◌, length, ap, arith}
use Rattle.evidence_store.specs.State.{StoreState}
use Rattle.evidence_store.proofs.PickLaws.{no_pick, pick_in_force, in_force_at}
use Rattle.evidence_store.proofs.EvidenceStore.in_force.Goals as goal

pub returns-clause-none : goal.returns-clause-none
returns-clause-none c =
    let count : length c.self.inside.in_force.items ≡ c.args.self.now.classes = ap (λ (s : StoreState). s.classes) c.self.view_is in
    let here = in_force_at c.self.inside.evidence.picks c.self.inside.in_force.items c.args.class c.index.result.now (omega arith) c.index.ensures c.self.invariant.in_force in
    rw (← c.self.view_is) (no_pick c.self.inside.evidence.picks c.args.class c.index.result.now here)

pub returns-clause-some : goal.returns-clause-some
returns-clause-some c =
    let count : length c.self.inside.in_force.items ≡ c.args.self.now.classes = ap (λ (s : StoreState). s.classes) c.self.view_is in
    let here = in_force_at c.self.inside.evidence.picks c.self.inside.in_force.items c.args.class c.index.result.now (omega arith) c.index.ensures c.self.invariant.in_force in
    rw (← c.self.view_is) (pick_in_force c.self.inside.evidence.picks c.args.class c.index.result.now here)
