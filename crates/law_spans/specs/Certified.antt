-- Certified plans with waits.
use Rattle.std.specs.Prelude.{ℕ, ◌<◌, ◌≤◌, List, length}
use Rattle.net_base.specs.Members.{IsSameSet}
use Rattle.net_base.specs.declared.ids.SwitchId.{SwitchId}
use Rattle.topology.specs.Networks.{switch_count, capacity_of}
use Rattle.flow_rules.specs.Tables.{rules_at}
use Rattle.dest_classes.specs.Classes.{IsClass}
use Rattle.dest_classes.specs.declared.Class.{Class}
use Rattle.demands.specs.Duties.{duties_of}
use Rattle.demands.specs.Good.{HasGoodPaths}
use Rattle.update_model.specs.Mixtures.{tables_before, AreGoodRounds, AreClearRounds, need_of}
use Rattle.certificates.specs.Certified.{classes_for, KeepsVlans}
use Rattle.certificates.specs.Updates.{Task, rollout}
use Rattle.certificates.specs.declared.Evidence.{Evidence}
use Rattle.certificates.specs.declared.Evidence.TheVariants.{Ordered, TwoPhase}
use Rattle.law_spans.specs.Spans.{Span, IsSpan}
use Rattle.law_spans.specs.Certificates.{OrderedSpanCertificate, TwoPhaseSpanCertificate}

-- the span and class n have a certificate of the evidence's kind
abbrev pub HasSpanCertificate : Task → Evidence → Span → ℕ → Class → Type 0
HasSpanCertificate t (Ordered evidence) span n class =
    OrderedSpanCertificate (rollout t) evidence span n class.first class.entry (duties_of t.update.demands class.entry class.first)
HasSpanCertificate t (TwoPhase evidence) span n class = TwoPhaseSpanCertificate (rollout t) t.update.new evidence span class.first class.entry

-- a certified plan with waits: certified spans stand in place of the certificates of each round, the rest is that of a certified plan
pub record IsCertifiedWithWaits (t : Task) (evidence : Evidence) (waits : List ℕ) : Type 0 where
  pub old_good : HasGoodPaths t.update.net t.update.old t.update.demands (classes_for t)
  pub new_good : HasGoodPaths t.update.net t.update.new t.update.demands (classes_for t)
  pub good : AreGoodRounds (rollout t)
  pub clear : AreClearRounds (rollout t)
  pub fits : (k : ℕ) (s : SwitchId) → k < length t.rounds → s.0 < switch_count t.update.net → need_of (rollout t) k s ≤ capacity_of t.update.net s
  pub keeps : KeepsVlans evidence t.rounds
  pub certificates : (span : Span) (n : ℕ) (class : Class) → IsSpan waits (length t.rounds) span → IsClass (classes_for t) n class → HasSpanCertificate t evidence span n class
  pub ends : (s : SwitchId) → IsSameSet (rules_at (tables_before (rollout t) (length t.rounds)) s) (rules_at t.update.new s)
