-- The tables of a network with each switch prepared for changes of it, and the room that the rounds of an update want.
use Rattle.std.specs.Prelude.{◌≡◌, ℕ, ◌+◌, ◌<◌, ◌≤◌, ◌^◌, Bool, true, false, List, [], length, min, None, slice_index_or, IsSomeAnd}
use Rattle.net_base.specs.declared.ids.SwitchId.{SwitchId}
use Rattle.topology.specs.Networks.{capacity_of}
use Rattle.flow_rules.specs.Tables.{TableState, rules_at, rules_of_all}
use Rattle.flow_rules.specs.declared.rules.Rule.{Rule}
use Rattle.update_model.specs.Changes.{changes_at, round_after}
use Rattle.update_model.specs.Mixtures.{Rollout, tables_before, need_of}
use Rattle.update_model.specs.declared.Change.{Change}
use Rattle.round_mix.specs.Prepared.{MixedState, IsPrepared}

-- the changes of a round at one switch, and for how many there is room
pub record ChangesState : Type 0 where
  pub changes : List Change
  pub room : ℕ

-- the tables, what is prepared of each switch, which switches are to be prepared anew, the changes of each in a round, how many rules each
-- may come to hold (for trials, for how many entries there is room at least), for how many rules of changes there is room beside, and the
-- changes that are taken for a round that is filled
pub record PreparedState : Type 0 where
  pub tables : List TableState
  pub mixes : List MixedState
  pub touched : List Bool
  pub changes : List ChangesState
  pub limits : List ℕ
  pub room : ℕ
  pub round : List Change

-- the table of a switch, with its room
abbrev pub table_at : List TableState → SwitchId → TableState
table_at tables s = slice_index_or tables s.0 (record { rules = []; spare = 0 })

-- the rules of a switch
abbrev pub rules_there : List TableState → SwitchId → List Rule
rules_there tables s = rules_at (rules_of_all tables) s

-- what is prepared of a switch
abbrev pub mix_at : List MixedState → SwitchId → MixedState
mix_at mixes s = slice_index_or mixes s.0 (record { prepared = None; room = 0; aimed = None })

-- whether a switch is to be prepared anew
abbrev pub is_touched : List Bool → SwitchId → Bool
is_touched touched s = slice_index_or touched s.0 true

-- the changes of a switch, with their room
abbrev pub list_at : List ChangesState → SwitchId → ChangesState
list_at lists s = slice_index_or lists s.0 (record { changes = []; room = 0 })

-- how many rules a switch may come to hold
abbrev pub limit_at : List ℕ → SwitchId → ℕ
limit_at limits s = slice_index_or limits s.0 0

-- for how many rules a table has room in all
abbrev pub room_of : TableState → ℕ
room_of t = length t.rules + t.spare

-- of n switches, whose numbers have 32 bits, there is room for each one's rules, and for its changes in each round
pub record HoldsRounds (n : ℕ) (rounds : List (List Change)) (p : PreparedState) : Type 0 where
  pub few : n < 2 ^ 32
  pub tables : length p.tables ≡ n
  pub mixes : length p.mixes ≡ n
  pub touched : length p.touched ≡ n
  pub lists : length p.changes ≡ n
  pub for_rules : (s : SwitchId) → s.0 < n → limit_at p.limits s ≤ room_of (table_at p.tables s)
  pub for_marks : (s : SwitchId) (k : ℕ) → s.0 < n
      → limit_at p.limits s + length (changes_at s (round_after k rounds)) ≤ (mix_at p.mixes s).room
  pub for_changes : (s : SwitchId) (k : ℕ) → s.0 < n
      → length (changes_at s (round_after k rounds)) ≤ (list_at p.changes s).room
  pub for_sorting : (k : ℕ) → length (round_after k rounds) ≤ p.room

-- of each switch there is room for its rules before the update and for what it needs in each round, both up to its capacity
pub record HasTableRoom (u : Rollout) (p : PreparedState) : Type 0 where
  pub holds : HoldsRounds (length u.old) u.rounds p
  pub for_old : (s : SwitchId) → s.0 < length u.old → min (length (rules_at u.old s)) (capacity_of u.net s) ≤ limit_at p.limits s
  pub for_rounds : (s : SwitchId) (k : ℕ) → s.0 < length u.old → min (need_of u k s) (capacity_of u.net s) ≤ limit_at p.limits s

-- of each switch there is room for its rules before the update and for what it needs in each round, whatever its capacity
pub record HasRoomForAll (u : Rollout) (p : PreparedState) : Type 0 where
  pub holds : HoldsRounds (length u.old) u.rounds p
  pub for_old : (s : SwitchId) → s.0 < length u.old → length (rules_at u.old s) ≤ limit_at p.limits s
  pub for_rounds : (s : SwitchId) (k : ℕ) → s.0 < length u.old → need_of u k s ≤ limit_at p.limits s

-- a switch is prepared for its table and these changes of it
abbrev pub IsMixed : List Rule → List Change → MixedState → Type 0
IsMixed rules changes mixed = IsSomeAnd mixed.prepared (IsPrepared rules changes)

-- the tables are those before round k and fit, and each switch that isn't to be prepared anew is prepared for no changes of its table
pub record StandsBefore (u : Rollout) (k : ℕ) (p : PreparedState) : Type 0 where
  pub tables : rules_of_all p.tables ≡ tables_before u k
  pub fit : (s : SwitchId) → s.0 < length u.old → length (rules_at (tables_before u k) s) ≤ limit_at p.limits s
  pub same : (s : SwitchId) → is_touched p.touched s ≡ false → IsMixed (rules_at (tables_before u k) s) [] (mix_at p.mixes s)
