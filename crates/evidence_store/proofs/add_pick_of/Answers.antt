use Rattle.std.proofs.Common.{List, ap}
use Rattle.certificates.specs.declared.OrderedEvidence.{OrderedEvidence}
use Rattle.certificates.specs.declared.OrderedPick.{OrderedPick}
use Rattle.evidence_store.proofs.add_pick_of.Goals as goal

pub returns-clause-pick : goal.returns-clause-pick
returns-clause-pick c =
    let used = c.add_use.new.evidence in
    record {
      used = used;
      with_use = c.in_ok-shared.ensures.number;
      is = ap (λ (picks : List OrderedPick). let e : OrderedEvidence = record { numberings = used.numberings; befores = used.befores; uses = used.uses; picks = picks } in e) c.in_ok-add.ensures.ok;
    }

pub returns-clause-keys : goal.returns-clause-keys
returns-clause-keys c = record {
  numberings = c.in_ok-shared.ensures.keys.numberings;
  befores = c.in_ok-shared.ensures.keys.befores;
  uses = c.in_ok-shared.ensures.keys.uses;
}
