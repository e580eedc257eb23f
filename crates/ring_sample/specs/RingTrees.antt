-- The texts of the ring's files, as JSON trees.
use Rattle.std.specs.Prelude.{ℕ, ◌+◌, ◌%◌, ◌==◌, List, [], ◌∷◌, ◌++◌, map, flat_map, true, codes, decimal, if◌then◌else◌}
use Rattle.serde_json.specs.Data.{Data, boolean, string, object, no_members, put}
use Rattle.net_base.specs.Text.{prefix_text}
use Rattle.config_files.specs.RuleTrees.{whole_tree, list_tree}
use Rattle.ring_sample.specs.Ring.{numbers_below, ring_name, destinations, others, ring_prefix}

-- a reference to a port of switch i
unfoldable pub port_text : ℕ → ℕ → List ℕ
port_text i port = ring_name i ++ codes ":" ++ decimal port

-- ---- the topology

abbrev pub switch_tree : ℕ → Data
switch_tree i = object (put (codes "capacity") (whole_tree 64) (put (codes "name") (string (ring_name i)) no_members))

abbrev pub link_tree : ℕ → ℕ → Data
link_tree n i = list_tree (string (port_text i 2) ∷ string (port_text ((i + 1) % n) 3) ∷ [])

abbrev pub host_tree : ℕ → Data
host_tree i = string (port_text i 1)

unfoldable pub topology_tree : ℕ → Data
topology_tree n =
    object (put (codes "tags") (list_tree (whole_tree 3000 ∷ whole_tree 3000 ∷ [])) (put (codes "vlans") (list_tree (string (codes "untagged") ∷ []))
    (put (codes "hosts") (list_tree (map host_tree (numbers_below n))) (put (codes "links") (list_tree (map (link_tree n) (numbers_below n)))
    (put (codes "switches") (list_tree (map switch_tree (numbers_below n))) no_members)))))

-- ---- a configuration

abbrev pub rule_tree : ℕ → ℕ → ℕ → Data
rule_tree port i j =
    object (put (codes "out") (whole_tree (if i == j then 1 else port)) (put (codes "dst") (string (prefix_text (ring_prefix j)))
    (put (codes "priority") (whole_tree 100) (put (codes "switch") (string (ring_name i)) no_members))))

unfoldable pub configuration_tree : ℕ → ℕ → Data
configuration_tree n port = object (put (codes "rules") (list_tree (flat_map (λ i. map (rule_tree port i) destinations) (numbers_below n))) no_members)

-- ---- the policy

abbrev pub demand_tree : ℕ → ℕ → Data
demand_tree i j =
    object (put (codes "deliver") (boolean true) (put (codes "dst") (string (prefix_text (ring_prefix j))) (put (codes "from") (string (port_text i 1)) no_members)))

unfoldable pub policy_tree : ℕ → Data
policy_tree n = object (put (codes "demands") (list_tree (flat_map (λ i. map (demand_tree i) (others i)) (numbers_below n))) no_members)
