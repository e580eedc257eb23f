-- The update of the ring, as it was read, is an update of destination trees between user configurations.
use Rattle.std.proofs.Common.{◌≡◌, ℕ, ◌≤◌, subst}
use Rattle.topology.specs.Networks.{IsNetwork}
use Rattle.path_walk.specs.UserConfigs.{IsUserConfig}
use Rattle.certificates.specs.Updates.{Update}
use Rattle.law_packed_trees.specs.TreeUpdates.{IsUserTreeUpdate}
use Rattle.ring_sample.specs.Ring.{ring_update}
use Rattle.ring_sample.proofs.Tree.{ring_task, ring_tree}

pub read_ring : (n : ℕ) → 4 ≤ n → (u : Update) → u ≡ ring_update n → IsNetwork u.net → IsUserConfig u.net u.old → IsUserConfig u.net u.new → IsUserTreeUpdate (ring_task n)
read_ring n some u is net old new =
    let kept = subst (λ (x : Update). IsNetwork x.net) is net in
    record {
      net = kept;
      old_user = subst (λ (x : Update). IsUserConfig x.net x.old) is old;
      new_user = subst (λ (x : Update). IsUserConfig x.net x.new) is new;
      tree = ring_tree n some kept;
    }
