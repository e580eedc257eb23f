-- Under a certified plan every round is good, and no packet visits a switch twice.
use Rattle.std.proofs.Common.{refl}
use Rattle.net_base.proofs.MemberLaws.{each_weaker}
use Rattle.path_walk.specs.UserConfigs.{IsUserConfig}
use Rattle.update_model.specs.Runs.{state_after_run}
use Rattle.certificates.specs.Updates.{Task, rollout}
use Rattle.certificates.specs.Certified.{is_two_phase}
use Rattle.certificates.specs.Consistent.{IsConsistentPacket}
use Rattle.certificates.specs.declared.Evidence.{Evidence}
use Rattle.certificates.proofs.Consistency.{certified_is_consistent}
use Rattle.schedule_pilot.specs.Ends.{VisitsOnce}
use Rattle.schedule_pilot.specs.Laws.{CertifiedBeginsSafely}

pub begins_safely : (t : Task) → IsUserConfig t.update.net t.update.old → IsUserConfig t.update.net t.update.new → (evidence : Evidence) → CertifiedBeginsSafely t evidence
begins_safely t old new evidence certified = record {
  begun = refl;
  good = certified.good;
  once = λ events run.
      each_weaker (IsConsistentPacket t.update (is_two_phase evidence)) VisitsOnce (λ p consistent. consistent.good.distinct) (state_after_run (rollout t) events).packets
      (certified_is_consistent t old new evidence certified events run);
}
