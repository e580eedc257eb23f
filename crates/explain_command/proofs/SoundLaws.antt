-- Rounds that give a reason aren't good and clear.
use Rattle.update_model.specs.Changes.{round_after}
use Rattle.update_model.specs.Mixtures.{Rollout, AreGoodRounds, AreClearRounds}
use Rattle.net_base.proofs.ItemLaws.{in_from_get}
use Rattle.check_reasons.specs.declared.reason.Reason.{Reason}
use Rattle.round_tables.specs.Sound.{IsRoundReason, bad_change, ambiguous}
use Rattle.plan_checker.proofs.Refuted.{within_rounds, bad_change_refuted}

pub reason_unsound : (u : Rollout) (r : Reason) → IsRoundReason u r → AreGoodRounds u → AreClearRounds u → ⊥
reason_unsound u r (bad_change k i s bad) good clear =
    let within = within_rounds u.rounds k bad.change (in_from_get (round_after k u.rounds) i bad.change bad.is) in
    bad_change_refuted u k (good k within) i s bad
reason_unsound u r (ambiguous k s within unclear) good clear = unclear.unclear (clear k within s unclear.mixed unclear.held)
