-- The parts of rules, as JSON trees.
use Rattle.std.specs.Prelude.{ℕ, List, Option, Some, None, codes}
use Rattle.serde_json.specs.Data.{Data, number, unsigned, string, array, Members, no_members, put}
use Rattle.serde_json.specs.View.{items_of}
use Rattle.net_base.specs.Text.{prefix_text}
use Rattle.net_base.specs.declared.ids.Port.{Port}
use Rattle.flow_rules.specs.declared.rules.VlanTest.{VlanTest}
use Rattle.flow_rules.specs.declared.rules.VlanTest.TheVariants as test
use Rattle.flow_rules.specs.declared.rules.Action.{Action}
use Rattle.flow_rules.specs.declared.rules.Action.TheVariants.{Discard, Out}
use Rattle.flow_rules.specs.declared.rules.Rule.{Rule}

-- a whole number
abbrev pub whole_tree : ℕ → Data
whole_tree n = number (unsigned n)

-- a list
abbrev pub list_tree : List Data → Data
list_tree ds = array (items_of ds)

-- the members with one more, where there is a value for it; `put` keeps members in the order of their names' bytes
abbrev pub put_some : List ℕ → Option Data → Members → Members
put_some name None ms = ms
put_some name (Some d) ms = put name d ms

-- the ingress port; nothing where any is meant
abbrev pub in_port_tree : Option Port → Option Data
in_port_tree None = None
in_port_tree (Some port) = Some (whole_tree port.0)

-- the VLAN test; nothing where any VLAN is meant
abbrev pub test_tree : VlanTest → Option Data
test_tree test.Any = None
test_tree test.Untagged = Some (string (codes "untagged"))
test_tree (test.Id id) = Some (whole_tree id)

-- the port of the output, or the word for none
abbrev pub out_tree : Action → Data
out_tree Discard = string (codes "drop")
out_tree (Out port rewrite) = whole_tree port.0

-- the members that each rule has, with the name of its switch
abbrev pub fixed_members : List ℕ → Rule → Members
fixed_members name r =
    put (codes "switch") (string name) (put (codes "priority") (whole_tree r.key.priority)
    (put (codes "out") (out_tree r.action) (put (codes "dst") (string (prefix_text r.key.pattern.dst)) no_members)))
