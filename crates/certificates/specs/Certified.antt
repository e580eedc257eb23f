-- Certified plans.
use Rattle.certificates.specs.Updates.{Task, rollout}
use Rattle.std.specs.Prelude.{◌≡◌, ℕ, ◌<◌, ◌≤◌, Bool, true, false, List, ◌++◌, length, map}
use Rattle.std.specs.List.{AllByRecursion}
use Rattle.net_base.specs.Blocks.{Block}
use Rattle.net_base.specs.Members.{IsSameSet}
use Rattle.net_base.specs.declared.ids.SwitchId.{SwitchId}
use Rattle.topology.specs.Networks.{switch_count, capacity_of}
use Rattle.flow_rules.specs.Tables.{rules_at, table_blocks}
use Rattle.flow_rules.specs.declared.rules.Rule.{Rule}
use Rattle.flow_rules.specs.declared.rules.Action.{Action}
use Rattle.flow_rules.specs.declared.rules.Action.TheVariants.{Discard, Out}
use Rattle.flow_rules.specs.declared.rules.Rewrite.TheVariants.{Keep}
use Rattle.dest_classes.specs.Classes.{ClassList, classes_of, IsClass}
use Rattle.dest_classes.specs.declared.Class.{Class}
use Rattle.demands.specs.Duties.{DemandView, duties_of}
use Rattle.demands.specs.Good.{HasGoodPaths}
use Rattle.update_model.specs.Changes.{rule_of, round_blocks}
use Rattle.update_model.specs.Mixtures.{Rollout, tables_before, AreGoodRounds, AreClearRounds, need_of}
use Rattle.update_model.specs.declared.Change.{Change}
use Rattle.certificates.specs.Ordered.{OrderedCertificate}
use Rattle.certificates.specs.TwoPhase.{TwoPhaseCertificate}
use Rattle.certificates.specs.declared.Evidence.{Evidence}
use Rattle.certificates.specs.declared.Evidence.TheVariants.{Ordered, TwoPhase}

-- an action that keeps the VLAN
abbrev pub KeepsVlan : Action → Type 0
KeepsVlan Discard = Unit {0}
KeepsVlan (Out port rewrite) = rewrite ≡ Keep

-- the prefixes of both configurations, the demands and all changes
abbrev pub blocks_of : List (List Rule) → List (List Rule) → List DemandView → List (List Change) → List Block
blocks_of old new demands rounds =
    table_blocks old ++ table_blocks new ++ map (λ d. d.dst) demands ++ round_blocks rounds

-- the classes of an update
abbrev pub classes_for : Task → ClassList
classes_for t = classes_of t.update.net (blocks_of t.update.old t.update.new t.update.demands t.rounds)

-- whether it is the evidence of a two-phase plan
abbrev pub is_two_phase : Evidence → Bool
is_two_phase (Ordered evidence) = false
is_two_phase (TwoPhase evidence) = true

-- round k and class n have a certificate of the evidence's kind
abbrev pub HasCertificate : Task → Evidence → ℕ → ℕ → Class → Type 0
HasCertificate t (Ordered evidence) k n class =
    OrderedCertificate (rollout t) evidence k n class.first class.entry (duties_of t.update.demands class.entry class.first)
HasCertificate t (TwoPhase evidence) k n class = TwoPhaseCertificate (rollout t) t.update.new evidence k class.first class.entry

-- an ordered plan neither sets nor strips
abbrev pub KeepsVlans : Evidence → List (List Change) → Type 0
KeepsVlans (Ordered evidence) rounds = AllByRecursion (λ round. AllByRecursion (λ c. KeepsVlan (rule_of c).action) round) rounds
KeepsVlans (TwoPhase evidence) rounds = Unit {0}

-- a certified plan
pub record IsCertified (t : Task) (evidence : Evidence) : Type 0 where
  pub old_good : HasGoodPaths t.update.net t.update.old t.update.demands (classes_for t)
  pub new_good : HasGoodPaths t.update.net t.update.new t.update.demands (classes_for t)
  pub good : AreGoodRounds (rollout t)
  pub clear : AreClearRounds (rollout t)
  pub fits : (k : ℕ) (s : SwitchId) → k < length t.rounds → s.0 < switch_count t.update.net → need_of (rollout t) k s ≤ capacity_of t.update.net s
  pub keeps : KeepsVlans evidence t.rounds
  pub certificates : (k n : ℕ) (class : Class) → k < length t.rounds → IsClass (classes_for t) n class → HasCertificate t evidence k n class
  pub ends : (s : SwitchId) → IsSameSet (rules_at (tables_before (rollout t) (length t.rounds)) s) (rules_at t.update.new s)
