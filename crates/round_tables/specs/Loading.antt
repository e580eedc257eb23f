-- How far the switches are prepared for a round, and what the preparation finds.
use Rattle.std.specs.Prelude.{◌≡◌, ◌⊎◌, ℕ, ◌<◌, ◌≤◌, false, Bool, List, [], length, filter, flat_map, Option, Some, IfSome, MatchOption, slice_get, slice_index_or}
use Rattle.net_base.specs.declared.ids.SwitchId.{SwitchId}
use Rattle.flow_rules.specs.Tables.{TableState, IsTable, rules_at, rules_of_all}
use Rattle.std.specs.List.{AllByRecursion}
use Rattle.topology.specs.Networks.{switch_count, capacity_of}
use Rattle.update_model.specs.Changes.{switch_of, changes_at, round_after}
use Rattle.update_model.specs.Mixtures.{Rollout, tables_before, need_of, is_insert}
use Rattle.update_model.specs.declared.Change.{Change}
use Rattle.round_mix.specs.Faults.{IsFirstBad, AreUnclear}
use Rattle.round_mix.specs.Prepared.{MixedState, AreGood, AreClear}
use Rattle.check_reasons.specs.Reasons.{IsBadChange, IsUnclear}
use Rattle.round_tables.specs.PreparedTables.{PreparedState, ChangesState, rules_there, mix_at, list_at, is_touched, IsMixed}
use Rattle.round_tables.specs.declared.loading.RoundFault.{RoundFault}
use Rattle.round_tables.specs.declared.loading.RoundFault.TheVariants.{BadChange, Unclear}

-- from switch n on each that isn't to be prepared anew is prepared for its table alone
abbrev pub AreAlone : List TableState → ℕ → List Bool → List MixedState → Type 0
AreAlone tables n touched mixes = (s : SwitchId) → n ≤ s.0 → is_touched touched s ≡ false → IsMixed (rules_there tables s) [] (mix_at mixes s)

-- each of the first n switches is prepared for its changes
abbrev pub AreMet : List TableState → List ChangesState → ℕ → List MixedState → Type 0
AreMet tables lists n mixes = (s : SwitchId) → s.0 < n → IsMixed (rules_there tables s) (list_at lists s).changes (mix_at mixes s)

-- a switch with a mixture that isn't clear, and none before it
pub record IsUnclearAt (tables : List TableState) (lists : List ChangesState) (s : SwitchId) : Type 0 where
  pub table : IsTable (rules_there tables s)
  pub here : AreUnclear (rules_there tables s) (list_at lists s).changes
  pub below : (t : SwitchId) → t.0 < s.0 → AreClear (rules_there tables t) (list_at lists t).changes

-- the changes are good at the first n switches, and each of these is prepared, or one is the first that is unclear
pub record IsLoadedTo (tables : List TableState) (lists : List ChangesState) (n : ℕ) (mixes : List MixedState) (unclear : Option SwitchId) : Type 0 where
  pub good : (s : SwitchId) → s.0 < n → AreGood (rules_there tables s) (list_at lists s).changes
  pub rest : MatchOption unclear (AreMet tables lists n mixes) (λ s. (s.0 < n) × IsUnclearAt tables lists s)

-- at the switch the change of that position among its changes is the first bad one, and at none before it is there a bad one
pub record IsBadAt (tables : List TableState) (lists : List ChangesState) (s : SwitchId) (nth : ℕ) : Type 0 where
  pub first : IsFirstBad (rules_there tables s) (list_at lists s).changes nth
  pub below : (t : SwitchId) → t.0 < s.0 → AreGood (rules_there tables t) (list_at lists t).changes

-- as many changes of each round at each switch are counted at least
abbrev pub AreCounted : List ℕ → ℕ → List (List Change) → Type 0
AreCounted counts n rounds =
    (s : SwitchId) (k : ℕ) → s.0 < length counts → k < n → length (changes_at s (round_after k rounds)) ≤ slice_index_or counts s.0 0

-- each change names one of the first n switches
abbrev pub AreSwitchesBelow : ℕ → List Change → Type 0
AreSwitchesBelow n round = AllByRecursion (λ c. (switch_of c).0 < n) round

-- of the first i changes of a round that are beyond the first n switches this is the first at the least switch
pub record IsLeastOutside (n : ℕ) (round : List Change) (i place : ℕ) : Type 0 where
  pub change : Change
  pub within : place < i
  pub is : slice_get round place ≡ Some change
  pub outside : n ≤ (switch_of change).0
  pub first : (j : ℕ) (other : Change) → j < i → slice_get round j ≡ Some other → n ≤ (switch_of other).0
      → ((switch_of change).0 < (switch_of other).0) ⊎ (((switch_of change).0 ≡ (switch_of other).0) × (place ≤ j))

-- a change beyond the first n switches, at the least switch that has one, and there the first
abbrev pub IsFirstOutside : ℕ → List Change → ℕ → Type 0
IsFirstOutside n round i = IsLeastOutside n round (length round) i

-- a change is beyond the first n switches, and at a lower switch than the one that was found, if one was
abbrev pub IsOutsideBelow : ℕ → List Change → Option ℕ → Change → Type 0
IsOutsideBelow n round found c =
    (n ≤ (switch_of c).0) × IfSome found (λ j. (d : Change) → slice_get round j ≡ Some d → (switch_of c).0 < (switch_of d).0)

-- none of the first i changes is beyond the first n switches, or this is the first of those at the least switch
abbrev pub IsOutsideTo : ℕ → List Change → ℕ → Option ℕ → Type 0
IsOutsideTo n round i found =
    MatchOption found ((j : ℕ) (c : Change) → j < i → slice_get round j ≡ Some c → (switch_of c).0 < n) (IsLeastOutside n round i)

-- a fault of a round whose changes at the first n switches are good: its first change beyond these, or if there is none the unclear switch
abbrev pub IsRestFault : ℕ → List Change → Option SwitchId → RoundFault → Type 0
IsRestFault n round unclear (BadChange s i) = (found : IsFirstOutside n round i) × (switch_of found.change ≡ s)
IsRestFault n round unclear (Unclear s) = AreSwitchesBelow n round × (unclear ≡ Some s)

-- the changes of round k are at switches that there are, and each switch is prepared for them
pub record ArePrepared (u : Rollout) (k : ℕ) (p : PreparedState) : Type 0 where
  pub tables : rules_of_all p.tables ≡ tables_before u k
  pub count : length p.mixes ≡ length u.old
  pub within : AreSwitchesBelow (length u.old) (round_after k u.rounds)
  pub lists : (s : SwitchId) → s.0 < length u.old → (list_at p.changes s).changes ≡ changes_at s (round_after k u.rounds)
  pub each : (s : SwitchId) → s.0 < length u.old → IsMixed (rules_at (tables_before u k) s) (changes_at s (round_after k u.rounds)) (mix_at p.mixes s)

-- the first bad change of round k: by switch, and then by its number
pub record IsFirstBadChange (u : Rollout) (k : ℕ) (s : SwitchId) (i : ℕ) : Type 0 where
  pub bad : IsBadChange u k i s
  pub first : (o : SwitchId) (j : ℕ) → IsBadChange u k j o → ¬ ((o.0 < s.0) ⊎ ((o.0 ≡ s.0) × (j < i)))

-- no change of round k is bad, and the switch is the first with a mixture that isn't clear
pub record IsFirstUnclear (u : Rollout) (k : ℕ) (s : SwitchId) : Type 0 where
  pub good : (o : SwitchId) (i : ℕ) → ¬ IsBadChange u k i o
  pub unclear : IsUnclear u k s
  pub first : (o : SwitchId) → o.0 < s.0 → ¬ IsUnclear u k o

-- the first fault of round k
abbrev pub IsFirstRoundFault : Rollout → ℕ → RoundFault → Type 0
IsFirstRoundFault u k (BadChange s i) = IsFirstBadChange u k s i
IsFirstRoundFault u k (Unclear s) = IsFirstUnclear u k s

-- the first switch that needs more entries in round k than it has room for
pub record IsFirstOver (u : Rollout) (k : ℕ) (s : SwitchId) (need : ℕ) : Type 0 where
  pub within : s.0 < switch_count u.net
  pub is : need ≡ need_of u k s
  pub over : capacity_of u.net s < need
  pub below : (t : SwitchId) → t.0 < s.0 → need_of u k t ≤ capacity_of u.net t

-- how many of the changes insert
abbrev pub insert_count : List Change → ℕ
insert_count changes = length (filter is_insert changes)

-- how many inserts the rounds have at a switch
abbrev pub inserts_over : List (List Change) → SwitchId → ℕ
inserts_over rounds s = insert_count (flat_map (changes_at s) rounds)
