-- The two-phase plan: tagged copies of the new rules first, then the ingress rules by rank, then the exchange of the old rules, and the way back.
use Rattle.std.specs.Prelude.{ℕ, suc, ◌+◌, ◌==◌, ◌&&◌, not, nat_lt, max, Bool, true, false, cond, List, [], ◌∷◌, ◌++◌, length, map, reverse, filter, flat_map, Option, Some, None}
use Rattle.std.specs.Ordering.{is_lt}
use Rattle.std.specs.Option.{option_map_or}
use Rattle.net_base.specs.Blocks.{Block}
use Rattle.net_base.specs.declared.ids.SwitchId.{SwitchId}
use Rattle.net_base.specs.declared.ids.Port.{Port}
use Rattle.net_base.specs.declared.ids.Vlan.{Vlan}
use Rattle.net_base.specs.declared.ids.Vlan.TheVariants as vlan
use Rattle.topology.specs.Networks.{Network, end_at, switch_count}
use Rattle.topology.specs.declared.net.End.{End}
use Rattle.topology.specs.declared.net.End.TheVariants as at
use Rattle.flow_rules.specs.Order.{key_cmp}
use Rattle.flow_rules.specs.Patterns.{admits_port, admits_vlan}
use Rattle.flow_rules.specs.Tables.{rules_at}
use Rattle.flow_rules.specs.declared.rules.VlanTest.{VlanTest}
use Rattle.flow_rules.specs.declared.rules.VlanTest.TheVariants as test
use Rattle.flow_rules.specs.declared.rules.Rewrite.{Rewrite}
use Rattle.flow_rules.specs.declared.rules.Rewrite.TheVariants.{Set, Strip}
use Rattle.flow_rules.specs.declared.rules.Action.{Action}
use Rattle.flow_rules.specs.declared.rules.Action.TheVariants.{Discard, Out}
use Rattle.flow_rules.specs.declared.rules.Rule.{Rule}
use Rattle.update_model.specs.Mixtures.{is_insert}
use Rattle.update_model.specs.Remaining.{remaining_changes}
use Rattle.update_model.specs.declared.Change.{Change}
use Rattle.update_model.specs.declared.Change.TheVariants.{Insert, Delete}
use Rattle.certificates.specs.declared.Label.{Label}
use Rattle.certificates.specs.declared.LabelPick.{LabelPick}
use Rattle.table_difference.specs.SameClasses.{every_address}
use Rattle.net_base.specs.Numbers.{numbers_from}
use Rattle.tag_allocator.specs.Tags.{Tagged, tags_of}
use Rattle.dest_classes.specs.Classes.{ascending_numbers}

-- what is at a port of a switch
abbrev pub end_of_port : Network → SwitchId → Port → End
end_of_port net s port = end_at net (record { switch = s; port = port })

-- whether a host is at the end, and whether a link is
abbrev pub host_end : End → Bool
host_end at.Host = true
host_end (at.Link s p) = false
host_end at.Nothing = false

abbrev pub link_end : End → Bool
link_end at.Host = false
link_end (at.Link s p) = true
link_end at.Nothing = false

-- whether a port of a switch is a host port
abbrev pub is_host : Network → SwitchId → Port → Bool
is_host net s port = host_end (end_of_port net s port)

-- whether a port of a switch is one end of a link
abbrev pub is_link : Network → SwitchId → Port → Bool
is_link net s port = link_end (end_of_port net s port)

-- whether a rule is bound to a host port of its switch
abbrev pub is_host_bound : Network → SwitchId → Rule → Bool
is_host_bound net s r = option_map_or (is_host net s) r.key.pattern.in_port false

-- gives the user's VLAN back
abbrev pub restore : Vlan → Rewrite
restore vlan.Untagged = Strip
restore (vlan.Id id) = Set id

-- the test that names a VLAN
abbrev pub test_of : Vlan → VlanTest
test_of vlan.Untagged = test.Untagged
test_of (vlan.Id id) = test.Id id

-- the action on a packet that carries the tag of a user's VLAN: where it leaves the network the VLAN is given back
abbrev pub tagged_action : Network → SwitchId → Vlan → Action → Action
tagged_action net s user Discard = Discard
tagged_action net s user (Out port rewrite) = cond (is_host net s port) (Out port (restore user)) (Out port rewrite)

-- the action on a packet that enters: where it goes on it carries the tag from then on
abbrev pub ingress_action : Network → SwitchId → ℕ → Action → Action
ingress_action net s tag Discard = Discard
ingress_action net s tag (Out port rewrite) = cond (is_link net s port) (Out port (Set tag)) (Out port rewrite)

-- a rule with this priority and these parts
abbrev pub rule : ℕ → Option Port → VlanTest → Block → Action → Rule
rule priority in_port v dst action = record { key = record { priority = priority; pattern = record { in_port = in_port; vlan = v; dst = dst } }; action = action }

-- the tagged copy of a new rule for a declared VLAN that it covers
abbrev pub tagged_copy : Network → SwitchId → Rule → Tagged → List Rule
tagged_copy net s r v =
    cond (admits_vlan r.key.pattern.vlan v.user)
    (rule (16384 + r.key.priority) r.key.pattern.in_port (test.Id v.tag) r.key.pattern.dst (tagged_action net s v.user r.action) ∷ []) []

-- the tagged rules of a switch: copies of the new rules that are bound to no host port, and a default for each tag
abbrev pub tagged_rules_by : List Tagged → Network → SwitchId → List Rule → List Rule
tagged_rules_by tags net s new =
    flat_map (λ r. cond (is_host_bound net s r) [] (flat_map (tagged_copy net s r) tags)) new
    ++ map (λ v. rule 16384 None (test.Id v.tag) every_address Discard) tags

-- the tagged rules with the network's tags
abbrev pub tagged_rules : Network → SwitchId → List Rule → List Rule
tagged_rules net s new = tagged_rules_by (tags_of net) net s new

-- the ingress copy of a new rule at a host port for a declared VLAN, where it covers both
abbrev pub ingress_copy : Network → SwitchId → Port → Rule → Tagged → List Rule
ingress_copy net s host r v =
    cond (admits_port r.key.pattern.in_port host && admits_vlan r.key.pattern.vlan v.user)
    (rule (32768 + r.key.priority) (Some host) (test_of v.user) r.key.pattern.dst (ingress_action net s v.tag r.action) ∷ []) []

-- the host ports of a switch
abbrev pub hosts_of : Network → SwitchId → List Port
hosts_of net s = map (λ h. h.port) (filter (λ h. h.switch.0 == s.0) net.hosts)

-- the ingress rules of a switch: copies of the new rules at each host port, and a default for each host port
abbrev pub ingress_rules_by : List Tagged → Network → SwitchId → List Rule → List Rule
ingress_rules_by tags net s new =
    flat_map (λ host. flat_map (λ r. flat_map (ingress_copy net s host r) tags) new) (hosts_of net s)
    ++ map (λ host. rule 32768 (Some host) test.Any every_address Discard) (hosts_of net s)

-- the ingress rules with the network's tags
abbrev pub ingress_rules : Network → SwitchId → List Rule → List Rule
ingress_rules net s new = ingress_rules_by (tags_of net) net s new

-- a rule put into a list in key order
abbrev pub with_rule : Rule → List Rule → List Rule
with_rule r [] = r ∷ []
with_rule r (q ∷ rs) = cond (is_lt (key_cmp r.key q.key)) (r ∷ q ∷ rs) (q ∷ with_rule r rs)

-- the rules of a list, in key order
abbrev pub in_key_order : List Rule → List Rule
in_key_order [] = []
in_key_order (r ∷ rs) = with_rule r (in_key_order rs)

-- the switches of a network
abbrev pub switches : Network → List SwitchId
switches net = map (λ (n : ℕ). let s : SwitchId = record { 0 = n } in s) (numbers_from 0 (switch_count net))

-- a change of each rule that a switch has, by switch and then in key order
abbrev pub by_switch : Network → (SwitchId → Rule → Change) → (SwitchId → List Rule) → List Change
by_switch net change rules = flat_map (λ s. map (change s) (in_key_order (rules s))) (switches net)

-- the ranks: the priorities of ingress rules, that of the defaults in any case, ascending and each once
abbrev pub ranks : Network → List (List Rule) → List ℕ
ranks net new = ascending_numbers (32768 ∷ flat_map (λ s. map (λ r. r.key.priority) (ingress_rules net s (rules_at new s))) (switches net))

-- the ingress rules with a mark
abbrev pub of_mark : Network → List (List Rule) → (SwitchId → Rule → ℕ) → ℕ → SwitchId → List Rule
of_mark net new mark k s = filter (λ r. mark s r == k) (ingress_rules net s (rules_at new s))

-- the rounds of a two-phase plan that inserts the ingress rules mark by mark in the one order, and deletes them mark by mark in the other
abbrev pub layered_rounds : Network → List (List Rule) → List (List Rule) → (SwitchId → Rule → ℕ) → List ℕ → List ℕ → List (List Change)
layered_rounds net old new mark laid taken =
    (by_switch net Insert (λ s. tagged_rules net s (rules_at new s)) ∷ [])
    ++ map (λ k. by_switch net Insert (of_mark net new mark k)) laid
    ++ (filter (λ c. not (is_insert c)) (remaining_changes old new) ∷ filter is_insert (remaining_changes old new) ∷ [])
    ++ map (λ k. by_switch net Delete (of_mark net new mark k)) taken
    ++ (by_switch net Delete (λ s. tagged_rules net s (rules_at new s)) ∷ [])

-- the rounds of the two-phase plan: the ingress rules come by descending rank and go by ascending rank
abbrev pub two_phase_rounds : Network → List (List Rule) → List (List Rule) → List (List Change)
two_phase_rounds net old new = layered_rounds net old new (λ s r. r.key.priority) (reverse (ranks net new)) (ranks net new)

-- the label of a VLAN
abbrev pub label : Vlan → Bool → Vlan → Label
label v new user = record { vlan = v; new = new; user = user }

-- the place of a VLAN in a label table: untagged first, then the ids
abbrev pub vlan_number : Vlan → ℕ
vlan_number vlan.Untagged = 0
vlan_number (vlan.Id id) = suc id

-- a label put into a table in order
abbrev pub with_label : Label → List Label → List Label
with_label l [] = l ∷ []
with_label l (m ∷ ls) = cond (nat_lt (vlan_number l.vlan) (vlan_number m.vlan)) (l ∷ m ∷ ls) (m ∷ with_label l ls)

-- the labels in order
abbrev pub labels_in_order : List Label → List Label
labels_in_order [] = []
labels_in_order (l ∷ ls) = with_label l (labels_in_order ls)

-- a label table: the users' VLANs have this version, their tags the new one
abbrev pub label_table : Network → Bool → List Label
label_table net version = labels_in_order (flat_map (λ v. label v.user version v.user ∷ label (vlan.Id v.tag) true v.user ∷ []) (tags_of net))

-- the label tables: the users' VLANs stand for the old version first, and for the new one from the exchange on
abbrev pub label_tables : Network → List (List Label)
label_tables net = label_table net false ∷ label_table net true ∷ []

-- where the ingress rules have so many layers, the first table is in force from round 1, the second from the round of the exchange
abbrev pub label_picks : ℕ → List LabelPick
label_picks layers = record { round = 1; labels = 0 } ∷ record { round = layers + 2; labels = 1 } ∷ []

-- each declared VLAN with some tag, for counts, which don't depend on the tags
abbrev pub counted_tags : Network → List Tagged
counted_tags net = map (λ (v : Vlan). let t : Tagged = record { user = v; tag = 0 } in t) net.vlans

-- the entries that the two-phase plan needs at a switch, counted by the declared VLANs
abbrev pub two_phase_need : Network → List (List Rule) → List (List Rule) → SwitchId → ℕ
two_phase_need net old new s =
    max (length (rules_at old s)) (length (rules_at new s))
    + length (tagged_rules_by (counted_tags net) net s (rules_at new s)) + length (ingress_rules_by (counted_tags net) net s (rules_at new s))
