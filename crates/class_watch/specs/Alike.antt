-- Rounds in which the same may become of packets of a class.
use Rattle.std.specs.Prelude.{◌≡◌, ◌<◌, ℕ, suc, false, List, length, filter}
use Rattle.net_base.specs.declared.ids.Place.{Place}
use Rattle.flow_rules.specs.Patterns.{Header, covers}
use Rattle.flow_rules.specs.Tables.{covering_rules, rules_at}
use Rattle.path_walk.specs.Outcomes.{header_at}
use Rattle.dest_classes.specs.declared.Class.{Class}
use Rattle.update_model.specs.Changes.{rule_of, changes_at, round_after}
use Rattle.update_model.specs.Mixtures.{Rollout, tables_before, IsOnMixedWalk, AreGoodRounds, AreClearRounds}
use Rattle.update_model.specs.declared.Change.{Change}
use Rattle.mixed_walks.specs.Walks.{KeepVlansUpTo, TablesKeepVlans}
use Rattle.class_watch.specs.Walks.{HoldsWalks, meets_any}

-- the changes whose rules cover the header
abbrev pub covering_changes : Header → List Change → List Change
covering_changes h changes = filter (λ c. covers (rule_of c).key.pattern h) changes

-- the same rules of the place's switch, and the same changes of them, cover packets of the class there in both rounds
pub record AreAlikeAt (u : Rollout) (k : ℕ) (v : Rollout) (j : ℕ) (class : Class) (place : Place) : Type 0 where
  pub rules : covering_rules (header_at place class.first) (rules_at (tables_before u k) place.switch)
      ≡ covering_rules (header_at place class.first) (rules_at (tables_before v j) place.switch)
  pub changes : covering_changes (header_at place class.first) (changes_at place.switch (round_after k u.rounds))
      ≡ covering_changes (header_at place class.first) (changes_at place.switch (round_after j v.rounds))

-- so wherever the mixed walks of the class come to in round k of the first update; both are of one network
pub record AreAlike (u : Rollout) (k : ℕ) (v : Rollout) (j : ℕ) (class : Class) : Type 0 where
  pub net : u.net ≡ v.net
  pub each : (place : Place) → IsOnMixedWalk u k class.first class.entry place → AreAlikeAt u k v j class place

-- an update whose rounds are good and clear and keep the VLANs that packets came with, and a round after round k no change of
-- which covers packets of the class by address and VLAN at a switch of the set, which has each switch that a mixed walk of
-- the class comes to in round k
pub record IsMissedAfter (u : Rollout) (k : ℕ) (class : Class) (set : ℕ) : Type 0 where
  pub next : suc k < length u.rounds
  pub good : AreGoodRounds u
  pub clear : AreClearRounds u
  pub old_keep : TablesKeepVlans u.old
  pub rounds_keep : KeepVlansUpTo u k
  pub walked : HoldsWalks u k class set
  pub missed : meets_any (round_after (suc k) u.rounds) class set ≡ false
