-- Updates whose classes are explained.
use Rattle.std.specs.Prelude.{◌≡◌, ℕ, ◌<◌, length}
use Rattle.topology.specs.Networks.{switch_count}
use Rattle.flow_rules.specs.Tables.{rules_of_all}
use Rattle.update_model.specs.Mixtures.{Rollout, AreGoodRounds, AreClearRounds}
use Rattle.counter_run.specs.Explaining.{NoneBreaks}
use Rattle.counter_run.specs.declared.update.ClassedUpdate.{ClassedUpdate}

-- the tables before the update and its rounds
abbrev pub rollout_of : ClassedUpdate → Rollout
rollout_of update = record { net = update.net.now; old = rules_of_all update.old.now; rounds = update.rounds.now }

-- there is a table for each switch, the classes and duties are those of the network, and the rounds are good and clear
pub record IsClassed (update : ClassedUpdate) : Type 0 where
  pub tables : length update.old.now ≡ switch_count update.net.now
  pub hosts : update.classes.now.hosts ≡ update.net.now.hosts
  pub vlans : update.classes.now.vlans ≡ update.net.now.vlans
  pub duties : update.duties.now.classes ≡ update.classes.now
  pub good : AreGoodRounds (rollout_of update)
  pub clear : AreClearRounds (rollout_of update)

-- no class breaks in the rounds before round k
abbrev pub NoneBreaksBefore : ClassedUpdate → ℕ → Type 0
NoneBreaksBefore update k = (j : ℕ) → j < k → NoneBreaks (rollout_of update) update.classes.now update.duties.now.demands j
