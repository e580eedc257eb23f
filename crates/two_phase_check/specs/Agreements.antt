-- When an outcome at the entry is that of a version, and where a packet strays from the path after it.
use Rattle.std.specs.Prelude.{◌≡◌, ◌≢◌, ◌⊎◌, ◌↔◌, ℕ, ◌<◌, Bool, true, false, ◌&&◌, List, ◌∷◌, ◌++◌, length, Option, Some, None, if◌then◌else◌}
use Rattle.net_base.specs.Members.{IsIn}
use Rattle.net_base.specs.Walks.{IsWalk, end_of}
use Rattle.net_base.specs.declared.ids.SwitchId.{SwitchId}
use Rattle.net_base.specs.declared.ids.Place.{Place}
use Rattle.net_base.specs.declared.ids.Vlan.{Vlan}
use Rattle.topology.specs.Networks.{Network, switch_count}
use Rattle.flow_rules.specs.declared.rules.Rule.{Rule}
use Rattle.path_walk.specs.Paths.{Forwards, outcome_in, ended_by, IsEnd}
use Rattle.path_walk.specs.declared.Outcome.{Outcome}
use Rattle.path_walk.specs.declared.Outcome.TheVariants.{Go}
use Rattle.dest_classes.specs.declared.Class.{Class}
use Rattle.update_model.specs.Mixtures.{Rollout, IsPossible}
use Rattle.certificates.specs.Updates.{Task, rollout}
use Rattle.certificates.specs.TwoPhase.{outcome_carrying, tables_of, IsLabelled, Agrees, KeepsOn}
use Rattle.certificates.specs.declared.Label.{Label}
use Rattle.two_phase_check.specs.declared.two_phase.Follow.{Follow}
use Rattle.two_phase_check.specs.declared.two_phase.Follow.TheVariants.{Differs, Keeps, Astray}
use Rattle.check_reasons.specs.Least.{lesser}
use Rattle.check_reasons.specs.Reasons.{Strays, IsMixedAtEntry, StraysAt}

-- a round of a task, by its number from 0, with the label table in force, whether the classes stand that it doesn't touch, and the marks of the atoms that it touches
pub record RoundView : Type 0 where
  pub task : Task
  pub number : ℕ
  pub labels : List Label
  pub stands : Bool
  pub touched : List Bool

-- an outcome is the expected one, but for a VLAN that is labelled with the version and the user's VLAN
pub record AgreesWith (expected : Outcome) (labels : List Label) (version : Bool) (user : Vlan) (found : Outcome) : Type 0 where
  pub tag : Vlan
  pub same : found ≡ outcome_carrying tag expected
  pub labelled : IsLabelled labels version user found

-- exactly the possible outcomes of a place
abbrev pub AreAllFound : Rollout → ℕ → ℕ → Place → List Outcome → Type 0
AreAllFound u k dst place list = (found : Outcome) → IsIn found list ↔ IsPossible u k dst place found

-- a packet at a place may have this outcome alone
abbrev pub HasOutcomeAlone : Rollout → ℕ → ℕ → Place → Outcome → Type 0
HasOutcomeAlone u k dst place expected = (found : Outcome) → IsPossible u k dst place found → found ≡ expected

-- it may have another
abbrev pub HasOtherOutcome : Rollout → ℕ → ℕ → Place → Outcome → Type 0
HasOtherOutcome u k dst place expected = (found : Outcome) × IsPossible u k dst place found × (found ≢ expected)

-- the path of the tables from a place ends before as many steps as there are switches
pub record EndsSoon (net : Network) (tables : List (List Rule)) (dst : ℕ) (first : Place) : Type 0 where
  pub rest : List Place
  pub walk : IsWalk (Forwards net tables dst) first rest
  pub ends : IsEnd (ended_by (end_of first rest) (outcome_in net tables (end_of first rest) dst))
  pub few : length rest < switch_count net

-- the first place of the path where a packet that carries the VLAN may stray is at the switch
pub record IsFirstStray (u : Rollout) (k dst : ℕ) (tables : List (List Rule)) (first : Place) (tag : Vlan) (s : SwitchId) : Type 0 where
  pub rest : List Place
  pub walk : IsWalk (Forwards u.net tables dst) first rest
  pub strays : Strays u k dst tables tag (end_of first rest)
  pub at_is : (end_of first rest).switch ≡ s
  pub none_earlier : (front : List Place) (x : Place) (back : List Place) → rest ≡ front ++ x ∷ back → ¬ Strays u k dst tables tag (end_of first front)

-- an outcome of the entry agrees with a version
abbrev pub AgreesAt : Task → Class → List Label → Bool → Outcome → Type 0
AgreesAt t class labels version found = Agrees t.update.net (tables_of (rollout t) t.update.new version) labels version class.first class.entry found

-- an outcome of the entry agrees with a version, and on the path after it a packet may stray first at the switch
pub record StraysBy (t : Task) (k : ℕ) (class : Class) (labels : List Label) (version : Bool) (found : Outcome) (s : SwitchId) : Type 0 where
  pub next : Place
  pub first : Place
  pub is : found ≡ Go next
  pub agrees : AgreesAt t class labels version found
  pub goes : outcome_in t.update.net (tables_of (rollout t) t.update.new version) class.entry class.first ≡ Go first
  pub stray : IsFirstStray (rollout t) k class.first (tables_of (rollout t) t.update.new version) first next.vlan s

-- what an outcome of the entry tells of a version
abbrev pub Tells : Task → ℕ → Class → List Label → Bool → Outcome → Follow → Type 0
Tells t k class labels version found Differs = ¬ AgreesAt t class labels version found
Tells t k class labels version found Keeps =
    AgreesAt t class labels version found × KeepsOn (rollout t) k class.first (tables_of (rollout t) t.update.new version) class.entry found
Tells t k class labels version found (Astray s) = StraysBy t k class labels version found s

-- the switch where a packet may stray
abbrev pub astray_at : Follow → Option SwitchId
astray_at (Astray s) = Some s
astray_at _ = None

-- whether the outcome isn't that version's
abbrev pub differs : Follow → Bool
differs Differs = true
differs _ = false

-- the entry's switch where the outcome is neither version's, otherwise the lesser where a packet may stray
abbrev pub least_of : SwitchId → Follow → Follow → Option SwitchId
least_of entry old new = if differs old && differs new then Some entry else lesser (astray_at old) (astray_at new)

-- an outcome of the entry mixes the versions at the switch: it agrees with neither there, or a packet may stray there after it
abbrev pub MixesBy : Task → ℕ → Class → List Label → Outcome → SwitchId → Type 0
MixesBy t k class labels found s =
    ((s ≡ class.entry.switch) × ((version : Bool) → ¬ AgreesAt t class labels version found)) ⊎ ((version : Bool) × StraysBy t k class labels version found s)

-- an outcome of the entry keeps to a version: it agrees with one, and after it a packet keeps to the path of each that it agrees with
pub record IsVersionKept (t : Task) (k : ℕ) (class : Class) (labels : List Label) (found : Outcome) : Type 0 where
  pub agrees : (version : Bool) × AgreesAt t class labels version found
  pub keeps : (version : Bool) → AgreesAt t class labels version found → KeepsOn (rollout t) k class.first (tables_of (rollout t) t.update.new version) class.entry found

-- some of these outcomes mixes the versions at the switch
abbrev pub MixesAmong : Task → ℕ → Class → List Label → List Outcome → SwitchId → Type 0
MixesAmong t k class labels list s = (found : Outcome) × IsIn found list × MixesBy t k class labels found s

-- the class mixes the versions at the switch
abbrev pub MixesAt : Task → ℕ → Class → List Label → SwitchId → Type 0
MixesAt t k class labels s = ((s ≡ class.entry.switch) × IsMixedAtEntry t k class labels) ⊎ StraysAt t k class labels s

-- each possible outcome of the entry keeps to a version
abbrev pub KeepsVersions : Task → ℕ → Class → List Label → Type 0
KeepsVersions t k class labels = (found : Outcome) → IsPossible (rollout t) k class.first class.entry found → IsVersionKept t k class labels found
