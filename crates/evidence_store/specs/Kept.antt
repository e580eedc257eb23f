-- What a store keeps.
use Rattle.std.specs.Prelude.{◌<◌, ◌≤◌, length}
use Rattle.std.specs.List.{AllByRecursion}
use Rattle.evidence_store.specs.Stored.{IsStored}
use Rattle.evidence_store.specs.State.{AreInForce}
use Rattle.evidence_store.specs.Keys.{AreKeysOf}
use Rattle.evidence_store.specs.declared.EvidenceStore.TheInside.{Inside}

-- nothing stands twice, the keys are those of the evidence, the use in force of each class is at hand, and the picks are of
-- these classes, at most 8192
pub record IsStoreKept (s : Inside) : Type 0 where
  pub stored : IsStored s.evidence
  pub keys : AreKeysOf s.keys s.evidence
  pub in_force : AreInForce s.evidence.picks s.in_force.items
  pub few_classes : length s.in_force.items ≤ 8192
  pub classes : AllByRecursion (λ p. p.class < length s.in_force.items) s.evidence.picks
