-- What holds of the ring holds of what was read.
use Rattle.std.proofs.Common.{◌≡◌, ℕ, ◌*◌, ◌-◌, ◌≤◌, List, [], length, sym, subst}
use Rattle.topology.specs.Networks.{Network, IsNetwork}
use Rattle.flow_rules.specs.declared.rules.Rule.{Rule}
use Rattle.dest_classes.specs.Classes.{class_count}
use Rattle.demands.specs.Duties.{DemandView}
use Rattle.update_model.specs.Remaining.{remaining_changes}
use Rattle.certificates.specs.Trees.{IsTreeUpdate}
use Rattle.table_difference.specs.SameClasses.{classes_before}
use Rattle.ring_sample.specs.Ring.{ring_network, ring_tables, ring_demands}
use Rattle.ring_sample.proofs.Tree.{ring_tree, class_count_is}
use Rattle.ring_sample.proofs.Changes.{changes_are}

module _ (n : ℕ) (some : 4 ≤ n) (net : Network) (old new : List (List Rule)) (demands : List DemandView)
    (net_is : net ≡ ring_network n) (old_is : old ≡ ring_tables n 2) (new_is : new ≡ ring_tables n 3) (demands_is : demands ≡ ring_demands n) where
  moved : (P : Network → List (List Rule) → List (List Rule) → List DemandView → Type 0) → P (ring_network n) (ring_tables n 2) (ring_tables n 3) (ring_demands n) → P net old new demands
  moved P there =
      subst (λ (d : List DemandView). P net old new d) (sym demands_is)
      (subst (λ (t : List (List Rule)). P net old t (ring_demands n)) (sym new_is)
      (subst (λ (t : List (List Rule)). P net t (ring_tables n 3) (ring_demands n)) (sym old_is)
      (subst (λ (x : Network). P x (ring_tables n 2) (ring_tables n 3) (ring_demands n)) (sym net_is) there)))

  pub read_tree : IsNetwork net → IsTreeUpdate (record { update = record { net = net; old = old; new = new; demands = demands }; rounds = [] })
  read_tree kept =
      moved (λ (x : Network) (o w : List (List Rule)) (d : List DemandView). IsTreeUpdate (record { update = record { net = x; old = o; new = w; demands = d }; rounds = [] }))
      (ring_tree n some (subst IsNetwork net_is kept))

  pub read_classes : class_count (classes_before net old new demands) ≡ 6 * n
  read_classes = moved (λ (x : Network) (o w : List (List Rule)) (d : List DemandView). class_count (classes_before x o w d) ≡ 6 * n) (class_count_is n some)

  pub read_changes : length (remaining_changes old new) ≡ 4 * (n - 1)
  read_changes = moved (λ (x : Network) (o w : List (List Rule)) (d : List DemandView). length (remaining_changes o w) ≡ 4 * (n - 1)) (changes_are n some)
