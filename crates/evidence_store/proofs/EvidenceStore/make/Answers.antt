use Rattle.std.proofs.Common.{◌<◌, [], length, sym, ap, ◌∙◌, subst}
use Rattle.std.specs.List.{AllByRecursion}
use Rattle.std.proofs.lemmas.List.{length-replicate}
use Rattle.certificates.specs.declared.OrderedEvidence.{OrderedEvidence}
use Rattle.evidence_store.specs.Stored.{IsStored}
use Rattle.evidence_store.specs.State.{AreInForce}
use Rattle.evidence_store.proofs.StoredLaws.{nothing_stored}
use Rattle.evidence_store.proofs.PickLaws.{none_in_force}
use Rattle.evidence_store.proofs.EvidenceStore.make.Goals as goal

pub invariant_of-result : goal.invariant_of-result
invariant_of-result c =
    let is = c.in_ok-evidence.ensures in
    let keys = c.make.ensures in
    record {
      stored = subst IsStored (sym is) nothing_stored;
      keys = record {
        numberings = keys.numberings ∙ sym (ap (λ (e : OrderedEvidence). e.numberings) is);
        befores = keys.befores ∙ sym (ap (λ (e : OrderedEvidence). e.befores) is);
        uses = keys.uses ∙ sym (ap (λ (e : OrderedEvidence). e.uses) is);
      };
      in_force = subst (λ (e : OrderedEvidence). AreInForce e.picks c.in_ok-in_force.in_force.items) (sym is) (subst (AreInForce []) (sym c.in_ok-in_force.ensures) (none_in_force c.args.classes));
      few_classes = rw (c.in_ok-in_force.ensures, length-replicate) c.requires;
      classes = subst (λ (e : OrderedEvidence). AllByRecursion (λ p. p.class < length c.in_ok-in_force.in_force.items) e.picks) (sym is) tt;
    }
