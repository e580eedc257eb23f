-- The keys of evidence.
use Rattle.std.specs.Prelude.{◌≡◌}
use Rattle.certificates.specs.declared.OrderedEvidence.{OrderedEvidence}
use Rattle.evidence_store.specs.declared.keys.Keys.{Keys}

-- the keys are those of the evidence
pub record AreKeysOf (keys : Keys) (e : OrderedEvidence) : Type 0 where
  pub numberings : keys.numberings ≡ e.numberings
  pub befores : keys.befores ≡ e.befores
  pub uses : keys.uses ≡ e.uses
