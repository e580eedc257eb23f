-- Certified plans can be carried out.
use Rattle.update_model.specs.Mixtures.{Rollout}
use Rattle.update_model.specs.States.{first_state}
use Rattle.update_model.specs.Worlds.{WorldState}
use Rattle.certificates.specs.Updates.{Task, rollout}
use Rattle.certificates.specs.Certified.{IsCertified}
use Rattle.certificates.specs.declared.Evidence.{Evidence}
use Rattle.schedule_pilot.specs.Driving.{BeginsSafely}

-- the world of an update that is just begun
abbrev pub world_begun : Rollout → WorldState
world_begun u = record { net = u.net; rounds = u.rounds; state = first_state u.old }

-- under a certified plan every round is good, and in every run no packet visits a switch twice
abbrev pub CertifiedBeginsSafely : Task → Evidence → Type 0
CertifiedBeginsSafely t evidence = IsCertified t evidence → BeginsSafely (world_begun (rollout t))
