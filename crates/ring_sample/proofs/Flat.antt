-- The trees have no float, and aren't deep.
use Rattle.std.proofs.Common.{ℕ, List, [], ◌∷◌, map, refl, arith}
use Rattle.std.specs.Prelude.{flat_map}
use Rattle.std.specs.List.{AllByRecursion}
use Rattle.serde_json.specs.Data.{Data}
use Rattle.net_base.proofs.MemberLaws.{each_append}
use Rattle.config_files.proofs.Flat.{IsFlat, list_flat, each_flat, map_flat}
use Rattle.ring_sample.specs.Ring.{numbers_below, destinations, others}
use Rattle.ring_sample.specs.RingTrees.{switch_tree, link_tree, host_tree, topology_tree, rule_tree, configuration_tree, demand_tree, policy_tree}

flat_flat : (n : ℕ) (group : ℕ → List Data) (xs : List ℕ) → ((x : ℕ) → AllByRecursion (IsFlat n) (group x)) → AllByRecursion (IsFlat n) (flat_map group xs)
flat_flat n group [] each = tt
flat_flat n group (x ∷ xs) each = each_append (IsFlat n) (group x) (flat_map group xs) (each x) (flat_flat n group xs each)

switch_flat : (i : ℕ) → IsFlat 1 (switch_tree i)
switch_flat i = record { no_float = refl; shallow = omega arith }

link_flat : (n i : ℕ) → IsFlat 1 (link_tree n i)
link_flat n i = record { no_float = refl; shallow = omega arith }

host_flat : (i : ℕ) → IsFlat 1 (host_tree i)
host_flat i = record { no_float = refl; shallow = omega arith }

rule_flat : (port i j : ℕ) → IsFlat 1 (rule_tree port i j)
rule_flat port i j = record { no_float = refl; shallow = omega arith }

demand_flat : (i j : ℕ) → IsFlat 1 (demand_tree i j)
demand_flat i j = record { no_float = refl; shallow = omega arith }

pub topology_flat : (n : ℕ) → IsFlat 3 (topology_tree n)
unfolding topology_tree
topology_flat n =
    let switches = map_flat 1 switch_tree (numbers_below n) switch_flat in
    let links = map_flat 1 (link_tree n) (numbers_below n) (link_flat n) in
    let hosts = map_flat 1 host_tree (numbers_below n) host_flat in
    record { no_float = rw (switches.no_float, links.no_float, hosts.no_float) refl; shallow = omega (arith, switches.shallow, links.shallow, hosts.shallow) }

pub configuration_flat : (n port : ℕ) → IsFlat 3 (configuration_tree n port)
unfolding configuration_tree
configuration_flat n port =
    let group : ℕ → List Data = λ i. map (rule_tree port i) destinations in
    let rules = list_flat 1 (flat_map group (numbers_below n)) (flat_flat 1 group (numbers_below n) (λ i. each_flat 1 (rule_tree port i) destinations (rule_flat port i))) in
    record { no_float = rw rules.no_float refl; shallow = omega (arith, rules.shallow) }

pub policy_flat : (n : ℕ) → IsFlat 3 (policy_tree n)
unfolding policy_tree
policy_flat n =
    let group : ℕ → List Data = λ i. map (demand_tree i) (others i) in
    let demands = list_flat 1 (flat_map group (numbers_below n)) (flat_flat 1 group (numbers_below n) (λ i. each_flat 1 (demand_tree i) (others i) (demand_flat i))) in
    record { no_float = rw demands.no_float refl; shallow = omega (arith, demands.shallow) }
