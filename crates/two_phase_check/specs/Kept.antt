-- Places from which a packet keeps to the path of a version, and the order in which the classes are looked at.
use Rattle.std.specs.Prelude.{◌≡◌, ℕ, ◌+◌, ◌*◌, ◌/◌, ◌%◌, ◌<◌, List, Option, IfSome}
use Rattle.std.specs.List.{AllByRecursion}
use Rattle.net_base.specs.declared.ids.Place.{Place}
use Rattle.topology.specs.Networks.{switch_count}
use Rattle.path_walk.specs.Paths.{outcome_in}
use Rattle.path_walk.specs.declared.Outcome.{Outcome}
use Rattle.path_walk.specs.declared.Outcome.TheVariants.{Go}
use Rattle.certificates.specs.Updates.{Task, rollout}
use Rattle.certificates.specs.TwoPhase.{place_carrying, outcome_carrying, tables_of, KeepsPath}
use Rattle.two_phase_check.specs.Agreements.{HasOutcomeAlone}
use Rattle.two_phase_check.specs.declared.keeping.Way.{Way}
use Rattle.two_phase_check.specs.declared.keeping.KeptPlace.{KeptPlace}
use Rattle.two_phase_check.specs.declared.keeping.Step.{Step}
use Rattle.two_phase_check.specs.declared.keeping.Step.TheVariants.{Strays, Ends, Goes}

-- from the place on a packet keeps to the path of the way
abbrev pub KeepsFrom : Task → ℕ → KeptPlace → Type 0
KeepsFrom t k kept = KeepsPath (rollout t) k kept.way.dst (tables_of (rollout t) t.update.new kept.way.new) kept.place kept.way.tag

-- each place that is known is such a place
abbrev pub AreKept : Task → ℕ → List (Option KeptPlace) → Type 0
AreKept t k known = AllByRecursion (λ o. IfSome o (KeepsFrom t k)) known

-- the outcome of the path of a way at a place
abbrev pub outcome_on : Task → Way → Place → Outcome
outcome_on t way place = outcome_in t.update.net (tables_of (rollout t) t.update.new way.new) place way.dst

-- a packet on the way may have the outcome of the path alone at the place
abbrev pub StaysOn : Task → ℕ → Way → Place → Type 0
StaysOn t k way place = HasOutcomeAlone (rollout t) k way.dst (place_carrying way.tag place) (outcome_carrying way.tag (outcome_on t way place))

-- what the path of a way does at a place: nothing is told, or a packet stays on it and it ends, or goes on to a place of the network
abbrev pub IsStepOf : Task → ℕ → Way → Place → Step → Type 0
IsStepOf t k way place Strays = Unit {0}
IsStepOf t k way place Ends = StaysOn t k way place × ((next : Place) → ¬ (outcome_on t way place ≡ Go next))
IsStepOf t k way place (Goes next) = StaysOn t k way place × (outcome_on t way place ≡ Go next) × (next.switch.0 < switch_count t.update.net)

-- the number of the class that comes at place i where so many classes, one for each port, have one VLAN and address and come one after the other
abbrev pub number_at : ℕ → ℕ → ℕ → ℕ
number_at i ports count = i % ports * (count / ports) + i / ports
