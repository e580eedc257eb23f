-- How a path breaks its duties.
use Rattle.std.specs.Prelude.{◌≡◌, ℕ, ◌<◌, IsTrue, List, [], ◌∷◌, ◌++◌}
use Rattle.std.specs.List.{AllByRecursion}
use Rattle.net_base.specs.Members.{IsDistinct, IsSubsequence}
use Rattle.net_base.specs.declared.ids.SwitchId.{SwitchId}
use Rattle.net_base.specs.declared.ids.Place.{Place}
use Rattle.net_base.specs.declared.ids.Stop.{Stop}
use Rattle.topology.specs.Networks.{Network}
use Rattle.flow_rules.specs.declared.rules.Rule.{Rule}
use Rattle.path_walk.specs.Paths.{Trace, IsPath}
use Rattle.path_walk.specs.Walked.{ComesAgain}
use Rattle.path_walk.specs.declared.Ended.{Ended}
use Rattle.path_walk.specs.declared.Ended.TheVariants as end
use Rattle.dest_classes.specs.Classes.{ClassList, IsClass}
use Rattle.dest_classes.specs.declared.Class.{Class}
use Rattle.demands.specs.Duties.{DemandView, PacketDuties, duties_of}
use Rattle.demands.specs.Good.{switches_of, HasGoodPath}
use Rattle.config_check.specs.declared.How.{How}
use Rattle.config_check.specs.declared.How.TheVariants.{Loop, Dropped, Missed}
use Rattle.config_check.specs.declared.Breaks.{Breaks}

-- the path ends so, with no switch twice
pub record EndsSo (net : Network) (tables : List (List Rule)) (dst : ℕ) (entry : Place) (trace : Trace) : Type 0 where
  pub path : IsPath net tables entry dst trace
  pub distinct : IsDistinct (switches_of trace.stops)

-- the packet left
abbrev pub IsLeft : Ended → Type 0
IsLeft (end.Left switch port vlan) = Unit {0}
IsLeft _ = ⊥

-- the chain is met up to this waypoint, which it is not
pub record IsMetUpTo (chain : List SwitchId) (switches : List SwitchId) (w : SwitchId) : Type 0 where
  pub front : List SwitchId
  pub back : List SwitchId
  pub chain_is : chain ≡ front ++ w ∷ back
  pub front_met : IsSubsequence front switches
  pub missed : ¬ IsSubsequence (front ++ w ∷ []) switches

-- the first chain that isn't met is met up to this waypoint
pub record MissesAt (chains : List (List SwitchId)) (switches : List SwitchId) (w : SwitchId) : Type 0 where
  pub earlier : List (List SwitchId)
  pub front : List SwitchId
  pub back : List SwitchId
  pub later : List (List SwitchId)
  pub chains_are : chains ≡ earlier ++ (front ++ w ∷ back) ∷ later
  pub earlier_met : AllByRecursion (λ chain. IsSubsequence chain switches) earlier
  pub front_met : IsSubsequence front switches
  pub missed : ¬ IsSubsequence (front ++ w ∷ []) switches

-- how the path of an entry and an address breaks duties
abbrev pub BreaksSo : Network → List (List Rule) → PacketDuties → Place → ℕ → How → Type 0
BreaksSo net tables duties entry dst (Loop s) = (stops : List Stop) × ComesAgain net tables entry dst stops s
BreaksSo net tables duties entry dst (Dropped s) =
    (trace : Trace) × EndsSo net tables dst entry trace × (trace.ended ≡ end.Dropped s) × IsTrue duties.arrive
BreaksSo net tables duties entry dst (Missed w) =
    (trace : Trace) × EndsSo net tables dst entry trace × IsLeft trace.ended × MissesAt duties.chains (switches_of trace.stops) w

-- the least class whose path isn't good, and how it breaks its duties
pub record IsFirstBreak (net : Network) (tables : List (List Rule)) (demands : List DemandView) (classes : ClassList) (b : Breaks) : Type 0 where
  pub class : Class
  pub is_class : IsClass classes b.class class
  pub breaks : BreaksSo net tables (duties_of demands class.entry class.first) class.entry class.first b.how
  pub earlier_good : (n : ℕ) (other : Class) → n < b.class → IsClass classes n other → HasGoodPath net tables demands other.entry other.first
