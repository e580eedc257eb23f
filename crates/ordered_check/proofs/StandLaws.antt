-- Where no change of a round may be met on the walks that a class had in the round before, and its pick was in force then, its
-- certificate stands.
use Rattle.std.proofs.Common.{◌≡◌, ℕ, zero, suc, ◌<◌, ◌≤◌, false, List, length, sym, subst, inl, inr, arith}
use Rattle.std.proofs.lemmas.Bool.{cases_lt}
use Rattle.net_base.proofs.MemberLaws.{each_at}
use Rattle.path_walk.specs.UserConfigs.{IsUserConfig}
use Rattle.dest_classes.specs.Classes.{IsClass}
use Rattle.dest_classes.specs.declared.Class.{Class}
use Rattle.topology.specs.Networks.{Network}
use Rattle.round_mix.specs.Prepared.{MixedState}
use Rattle.update_model.specs.Changes.{round_after}
use Rattle.update_model.specs.Mixtures.{Rollout}
use Rattle.certificates.specs.Ordered.{IsPickInForce, IsMeant, OrderedCertificate}
use Rattle.certificates.specs.Updates.{Task, rollout}
use Rattle.certificates.specs.Certified.{classes_for}
use Rattle.certificates.specs.Valid.{IsValidOrdered, IsValidPick}
use Rattle.certificates.specs.declared.OrderedPick.{OrderedPick}
use Rattle.certificates.specs.declared.OrderedEvidence.{OrderedEvidence}
use Rattle.certificates.specs.declared.Evidence.TheVariants.{Ordered}
use Rattle.check_reasons.specs.Loaded.{AreLoaded}
use Rattle.check_reasons.specs.Passed.{ChangesPass, RoundsPass, RoundKeepsVlans}
use Rattle.check_reasons.specs.Reasons.{class_duties}
use Rattle.mixed_walks.specs.Walks.{KeepVlansUpTo, TablesKeepVlans, IsRoundOf}
use Rattle.mixed_walks.proofs.PlaceLaws.{tables_keep}
use Rattle.class_watch.specs.Walks.{HoldsWalks, meets_any, HoldsWalksBefore}
use Rattle.class_watch.proofs.StandLaws.{next_held, next_safe}
use Rattle.certificates.proofs.PickLaws.{one_in_force}

-- ---- the certificate

-- a pick that has begun earlier was in force earlier
force_before : (picks : List OrderedPick) (round n : ℕ) (pick : OrderedPick) → IsPickInForce picks (suc round) n pick → pick.round ≤ round → IsPickInForce picks round n pick
force_before picks round n pick force begun = record {
  stands = force.stands;
  of_class = force.of_class;
  begun = begun;
  latest = λ other i same le. force.latest other i same (omega arith);
}

-- the rounds up to one neither set nor strip
pub rounds_keep : (t : Task) (e : OrderedEvidence) (k : ℕ) → RoundsPass t (Ordered e) k → ChangesPass t (Ordered e) k → KeepVlansUpTo (rollout t) k
rounds_keep t e k before pass j le =
    elim (cases_lt j k) [
      | inl less ↦ (before j less).0.keeps
      | inr ge ↦ let same : k ≡ j = omega arith in subst (λ i. RoundKeepsVlans (Ordered e) (round_after i t.rounds)) same pass.keeps
    ]

-- the switches are prepared for a round
pub round_of : (net : Network) (mixes : List MixedState) (u : Rollout) (k : ℕ) → net ≡ u.net → TablesKeepVlans u.old → AreLoaded u k mixes → KeepVlansUpTo u k → IsRoundOf net mixes u k
round_of net mixes u k net_is keeps_old loaded keeps = record { net_is = sym net_is; loaded = loaded; keeps_old = keeps_old; keeps = keeps }

pub certificate_stands : (t : Task) (e : OrderedEvidence) (k n : ℕ) (class : Class) (pick : OrderedPick) (set : ℕ) → IsUserConfig t.update.net t.update.old
    → IsValidOrdered t.update.net (length t.rounds) e → k < length t.rounds → RoundsPass t (Ordered e) k → ChangesPass t (Ordered e) k → IsClass (classes_for t) n class
    → IsPickInForce e.picks (suc k) n pick → pick.round ≤ k → HoldsWalksBefore (rollout t) k class set → meets_any (round_after k t.rounds) class set ≡ false
    → OrderedCertificate (rollout t) e k n class.first class.entry (class_duties t class) × HoldsWalks (rollout t) k class set
certificate_stands t e zero n class pick set user valid within before pass is force begun held off =
    absurd (let first = (each_at (IsValidPick (length t.rounds) (length e.uses)) e.picks pick valid.picks force.stands).0 in omega arith)
certificate_stands t e (suc k) n class pick set user valid within before pass is force begun held off =
    let (changes, classes) = before k (omega arith) in
    let cert = classes n class is in
    let same : cert.pick ≡ pick = one_in_force e.picks valid.ascending (suc k) n cert.pick pick cert.in_force (force_before e.picks (suc k) n pick force begun) in
    let keeps : KeepVlansUpTo (rollout t) k = rounds_keep t e k (λ j less. before j (omega arith)) changes in
    let keeps_old = tables_keep t.update.net t.update.old user in (
      record {
        pick = pick;
        numbers = cert.numbers;
        sets = cert.sets;
        in_force = force;
        meant = subst (λ (p : OrderedPick). IsMeant e p cert.numbers cert.sets) same cert.meant;
        safe = next_safe (rollout t) k class set within changes.good keeps_old keeps held off (class_duties t class) cert.numbers cert.sets cert.safe;
      },
      next_held (rollout t) k class set within changes.good keeps_old keeps held off,
    )
