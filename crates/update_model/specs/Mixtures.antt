-- What a switch may hold while a round is carried out, and where a packet may go then.
use Rattle.std.specs.Prelude.{◌≡◌, ℕ, ◌+◌, ◌<◌, Bool, true, false, List, length, filter}
use Rattle.net_base.specs.Members.{IsSubsequence, IsSameSet}
use Rattle.net_base.specs.Walks.{IsWalk, IsReached}
use Rattle.net_base.specs.declared.ids.SwitchId.{SwitchId}
use Rattle.net_base.specs.declared.ids.Place.{Place}
use Rattle.topology.specs.Networks.{Network}
use Rattle.flow_rules.specs.Tables.{rules_at, IsClear}
use Rattle.flow_rules.specs.declared.rules.Rule.{Rule}
use Rattle.path_walk.specs.Outcomes.{outcome}
use Rattle.path_walk.specs.declared.Outcome.{Outcome}
use Rattle.path_walk.specs.declared.Outcome.TheVariants.{Go}
use Rattle.update_model.specs.declared.Change.{Change}
use Rattle.update_model.specs.declared.Change.TheVariants.{Insert, Delete, Replace}
use Rattle.update_model.specs.Changes.{rules_after, changes_at, round_after, settled_tables, IsGoodRound}

-- an update of a network: the tables before it, and its rounds. Round k is the one after the first k rounds
pub record Rollout : Type 0 where
  pub net : Network
  pub old : List (List Rule)
  pub rounds : List (List Change)

-- all tables before round k
abbrev pub tables_before : Rollout → ℕ → List (List Rule)
tables_before u k = settled_tables u.rounds k u.old

-- a mixture: some of the changes, applied to the table, give these rules
pub record IsMixture (table : List Rule) (changes : List Change) (mixed : List Rule) : Type 0 where
  pub made : List Change
  pub some : IsSubsequence made changes
  pub same : IsSameSet mixed (rules_after made table)

-- what a switch may hold during round k
abbrev pub MayHold : Rollout → ℕ → SwitchId → List Rule → Type 0
MayHold u k s mixed = IsMixture (rules_at (tables_before u k) s) (changes_at s (round_after k u.rounds)) mixed

-- an outcome that a place may have while these changes of its switch's table are made: the outcome in some mixture
pub record MayBe (net : Network) (table : List Rule) (changes : List Change) (place : Place) (dst : ℕ) (found : Outcome) : Type 0 where
  pub mixed : List Rule
  pub held : IsMixture table changes mixed
  pub is : found ≡ outcome net mixed place dst

-- a possible outcome of a place in round k: the outcome in something that its switch may hold
abbrev pub IsPossible : Rollout → ℕ → ℕ → Place → Outcome → Type 0
IsPossible u k dst place found = MayBe u.net (rules_at (tables_before u k) place.switch) (changes_at place.switch (round_after k u.rounds)) place dst found

-- a packet may go from the one place to the next in round k
abbrev pub MayGo : Rollout → ℕ → ℕ → Place → Place → Type 0
MayGo u k dst place next = IsPossible u k dst place (Go next)

-- a mixed walk of round k: from the entry, each next place is one to which the packet may go
abbrev pub IsMixedWalk : Rollout → ℕ → ℕ → Place → List Place → Type 0
IsMixedWalk u k dst entry rest = IsWalk (MayGo u k dst) entry rest

-- a place of a mixed walk: some mixed walk ends there
abbrev pub IsOnMixedWalk : Rollout → ℕ → ℕ → Place → Place → Type 0
IsOnMixedWalk u k dst entry place = IsReached (MayGo u k dst) entry place

-- every round is good
abbrev pub AreGoodRounds : Rollout → Type 0
AreGoodRounds u = (k : ℕ) → k < length u.rounds → IsGoodRound (tables_before u k) (round_after k u.rounds)

-- each mixture of each round is clear, at every switch
abbrev pub AreClearRounds : Rollout → Type 0
AreClearRounds u = (k : ℕ) → k < length u.rounds → (s : SwitchId) (mixed : List Rule) → MayHold u k s mixed → IsClear mixed

-- whether a change inserts
abbrev pub is_insert : Change → Bool
is_insert (Insert s r) = true
is_insert _ = false

-- whether a change deletes
abbrev pub is_delete : Change → Bool
is_delete (Insert s r) = false
is_delete (Delete s r) = true
is_delete (Replace s r) = false

-- whether a change replaces
abbrev pub is_replace : Change → Bool
is_replace (Insert s r) = false
is_replace (Delete s r) = false
is_replace (Replace s r) = true

-- the entries that a table needs while these changes of it are made: its rules and the inserts
abbrev pub entries_needed : List Rule → List Change → ℕ
entries_needed rules changes = length rules + length (filter is_insert changes)

-- the need of a round at a switch: the entries before it and its inserts there
abbrev pub need_of : Rollout → ℕ → SwitchId → ℕ
need_of u k s = entries_needed (rules_at (tables_before u k) s) (changes_at s (round_after k u.rounds))
