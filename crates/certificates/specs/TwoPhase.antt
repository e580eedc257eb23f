-- The certificate of a round and a class of a two-phase plan.
use Rattle.std.specs.Prelude.{◌≡◌, ℕ, suc, ◌≤◌, Bool, if◌then◌else◌, List, slice_get, Some}
use Rattle.std.specs.List.{AllByRecursion}
use Rattle.net_base.specs.Members.{IsIn}
use Rattle.net_base.specs.Walks.{IsReached}
use Rattle.net_base.specs.declared.ids.Vlan.{Vlan}
use Rattle.net_base.specs.declared.ids.Place.{Place}
use Rattle.topology.specs.Networks.{Network}
use Rattle.flow_rules.specs.declared.rules.Rule.{Rule}
use Rattle.path_walk.specs.Paths.{outcome_in, Forwards}
use Rattle.path_walk.specs.declared.Outcome.{Outcome}
use Rattle.path_walk.specs.declared.Outcome.TheVariants.{Discard, Leave, Go}
use Rattle.update_model.specs.Mixtures.{Rollout, IsPossible}
use Rattle.certificates.specs.declared.Label.{Label}
use Rattle.certificates.specs.declared.LabelPick.{LabelPick}
use Rattle.certificates.specs.declared.TwoPhaseEvidence.{TwoPhaseEvidence}

-- the place of a packet that carries another VLAN
abbrev pub place_carrying : Vlan → Place → Place
place_carrying tag place = record { switch = place.switch; port = place.port; vlan = tag }

-- the outcome for a packet that carries another VLAN while it is in the network
abbrev pub outcome_carrying : Vlan → Outcome → Outcome
outcome_carrying tag Discard = Discard
outcome_carrying tag (Leave port vlan) = Leave port vlan
outcome_carrying tag (Go next) = Go (place_carrying tag next)

-- where the outcome goes on with a VLAN, the label table gives it this version and this user's VLAN
abbrev pub IsLabelled : List Label → Bool → Vlan → Outcome → Type 0
IsLabelled labels version user (Go next) = IsIn (record { vlan = next.vlan; new = version; user = user }) labels
IsLabelled labels version user _ = Unit {0}

-- the tables of a version: the new ones, or the old ones
abbrev pub tables_of : Rollout → List (List Rule) → Bool → List (List Rule)
tables_of u new version = if version then new else u.old

-- the outcome agrees with a version: it is that configuration's outcome there, but for a VLAN with the version's label
pub record Agrees (net : Network) (tables : List (List Rule)) (labels : List Label) (version : Bool) (dst : ℕ) (entry : Place) (found : Outcome) : Type 0 where
  pub tag : Vlan
  pub same : found ≡ outcome_carrying tag (outcome_in net tables entry dst)
  pub labelled : IsLabelled labels version entry.vlan found

-- along the path of the tables from a place, a packet that carries the VLAN has the path's outcomes alone
abbrev pub KeepsPath : Rollout → ℕ → ℕ → List (List Rule) → Place → Vlan → Type 0
KeepsPath u k dst tables first tag =
    (place : Place) → IsReached (Forwards u.net tables dst) first place → (found : Outcome) → IsPossible u k dst (place_carrying tag place) found
    → found ≡ outcome_carrying tag (outcome_in u.net tables place dst)

-- after an outcome at the entry that goes on and agrees with these tables, a packet keeps to their path
abbrev pub KeepsOn : Rollout → ℕ → ℕ → List (List Rule) → Place → Outcome → Type 0
KeepsOn u k dst tables entry found =
    (first next : Place) → found ≡ Go next → outcome_in u.net tables entry dst ≡ Go first → KeepsPath u k dst tables first next.vlan

-- the pick with the greatest round number that isn't above the round
pub record IsLabelPickInForce (picks : List LabelPick) (round : ℕ) (pick : LabelPick) : Type 0 where
  pub stands : IsIn pick picks
  pub begun : pick.round ≤ round
  pub latest : (other : LabelPick) → IsIn other picks → other.round ≤ round → other.round ≤ pick.round

-- the certificate of round k and an entry of a two-phase plan: a label table is in force, its users' VLANs are declared,
-- each possible outcome at the entry agrees with the old or the new tables, and what goes on keeps to their path
pub record TwoPhaseCertificate (u : Rollout) (new : List (List Rule)) (evidence : TwoPhaseEvidence) (k dst : ℕ) (entry : Place) : Type 0 where
  pub pick : LabelPick
  pub labels : List Label
  pub in_force : IsLabelPickInForce evidence.picks (suc k) pick
  pub table_is : slice_get evidence.labels pick.labels ≡ Some labels
  pub declared : AllByRecursion (λ l. IsIn l.user u.net.vlans) labels
  pub agrees : (found : Outcome) → IsPossible u k dst entry found → (version : Bool) × Agrees u.net (tables_of u new version) labels version dst entry found
  pub keeps : (found : Outcome) → IsPossible u k dst entry found → (version : Bool) → Agrees u.net (tables_of u new version) labels version dst entry found
      → KeepsOn u k dst (tables_of u new version) entry found
