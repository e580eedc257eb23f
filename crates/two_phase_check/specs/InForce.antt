-- The label table that is in force for a round, kept up from round to round.
use Rattle.std.specs.Prelude.{◌≡◌, ℕ, zero, suc, ◌<◌, ◌≤◌, List, length, Option, None, Some, slice_get, MatchOption}
use Rattle.std.specs.List.{AllByRecursion}
use Rattle.net_base.specs.Members.{IsIn}
use Rattle.topology.specs.Networks.{Network}
use Rattle.certificates.specs.TwoPhase.{IsLabelPickInForce}
use Rattle.certificates.specs.declared.Label.{Label}
use Rattle.certificates.specs.declared.LabelPick.{LabelPick}
use Rattle.certificates.specs.declared.TwoPhaseEvidence.{TwoPhaseEvidence}
use Rattle.two_phase_check.specs.declared.labels.LabelsInForce.{LabelsInForce}

-- the users' VLANs of a label table are declared
abbrev pub AreDeclared : Network → List Label → Type 0
AreDeclared net labels = AllByRecursion (λ l. IsIn l.user net.vlans) labels

-- a label table is in force for a round number, and its users' VLANs are declared
pub record IsGoodTable (net : Network) (e : TwoPhaseEvidence) (round : ℕ) (labels : List Label) : Type 0 where
  pub pick : LabelPick
  pub in_force : IsLabelPickInForce e.picks round pick
  pub is : slice_get e.labels pick.labels ≡ Some labels
  pub declared : AreDeclared net labels

-- exactly the first so many picks have a round that isn't above the round
pub record AreBegun (picks : List LabelPick) (round n : ℕ) : Type 0 where
  pub within : n ≤ length picks
  pub begun : (i : ℕ) (pick : LabelPick) → slice_get picks i ≡ Some pick → i < n → pick.round ≤ round
  pub later : (i : ℕ) (pick : LabelPick) → slice_get picks i ≡ Some pick → n ≤ i → round < pick.round

-- the number of the label table of a pick, where it is there and its users' VLANs are declared
abbrev pub IsTableOf : Network → TwoPhaseEvidence → LabelPick → Option ℕ → Type 0
IsTableOf net e pick table =
    MatchOption table ((labels : List Label) → slice_get e.labels pick.labels ≡ Some labels → ¬ AreDeclared net labels)
    (λ n. (n ≡ pick.labels) × ((labels : List Label) × (slice_get e.labels n ≡ Some labels) × AreDeclared net labels))

-- that of the last of the first so many picks
abbrev pub IsTableAfter : Network → TwoPhaseEvidence → ℕ → Option ℕ → Type 0
IsTableAfter net e zero table = table ≡ None
IsTableAfter net e (suc b) table = (pick : LabelPick) × (slice_get e.picks b ≡ Some pick) × IsTableOf net e pick table

-- what is kept for a round number: only picks that are not above the round have begun, and the table is that of the last of them
pub record LabelsStand (net : Network) (e : TwoPhaseEvidence) (round : ℕ) (state : LabelsInForce) : Type 0 where
  pub within : state.begun ≤ length e.picks
  pub begun : (i : ℕ) (pick : LabelPick) → slice_get e.picks i ≡ Some pick → i < state.begun → pick.round ≤ round
  pub table : IsTableAfter net e state.begun state.table

-- the table is the good one of the round, and where there is none the round has none
abbrev pub IsTableInForceAt : Network → TwoPhaseEvidence → ℕ → Option ℕ → Type 0
IsTableInForceAt net e round table =
    MatchOption table ((labels : List Label) → ¬ IsGoodTable net e round labels) (λ n. (labels : List Label) × (slice_get e.labels n ≡ Some labels) × IsGoodTable net e round labels)
