-- Updates of destination trees that are packed.
use Rattle.topology.specs.Networks.{IsNetwork}
use Rattle.path_walk.specs.UserConfigs.{IsUserConfig}
use Rattle.certificates.specs.Updates.{Task}
use Rattle.certificates.specs.Certified.{classes_for}
use Rattle.certificates.specs.Trees.{IsTreeUpdate}
use Rattle.table_difference.specs.Targets.{Target}

-- what the packing of an update is for
abbrev pub task_target : Task → Target
task_target t = record { net = t.update.net; new = t.update.new; demands = t.update.demands; classes = classes_for t }

-- an update of destination trees, from one user configuration of a network to another
pub record IsUserTreeUpdate (t : Task) : Type 0 where
  pub net : IsNetwork t.update.net
  pub old_user : IsUserConfig t.update.net t.update.old
  pub new_user : IsUserConfig t.update.net t.update.new
  pub tree : IsTreeUpdate t
