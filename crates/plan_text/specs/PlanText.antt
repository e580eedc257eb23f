-- The text of a plan, in format 2, and that of rounds.
use Rattle.std.specs.Prelude.{ℕ, ◌==◌, ◌&&◌, Bool, true, false, not, List, [], ◌∷◌, ◌++◌, map, flat_map, filter, position, slice_get, unwrap_or, Option, Some, None, codes}
use Rattle.serde_json.specs.Data.{Data, boolean, string, object, Members, no_members, put}
use Rattle.serde_json.specs.Written.{compact_text}
use Rattle.net_base.specs.declared.ids.SwitchId.{SwitchId}
use Rattle.net_base.specs.declared.ids.Vlan.{Vlan}
use Rattle.net_base.specs.declared.ids.Vlan.TheVariants as vlan
use Rattle.topology.specs.Networks.{Network}
use Rattle.flow_rules.specs.Same.{rule_eq}
use Rattle.flow_rules.specs.declared.rules.Rewrite.TheVariants.{Set, Strip}
use Rattle.flow_rules.specs.declared.rules.Action.{Action}
use Rattle.flow_rules.specs.declared.rules.Action.TheVariants.{Out}
use Rattle.config_files.specs.RuleTrees.{whole_tree, list_tree, put_some, in_port_tree, test_tree, fixed_members}
use Rattle.update_model.specs.Changes.{switch_of, rule_of}
use Rattle.update_model.specs.declared.Change.{Change}
use Rattle.update_model.specs.declared.Change.TheVariants.{Insert, Delete, Replace}
use Rattle.certificates.specs.declared.Shared.{Shared}
use Rattle.certificates.specs.declared.OrderedPick.{OrderedPick}
use Rattle.certificates.specs.declared.Label.{Label}
use Rattle.certificates.specs.declared.LabelPick.{LabelPick}
use Rattle.certificates.specs.declared.Evidence.{Evidence}
use Rattle.certificates.specs.declared.Evidence.TheVariants.{Ordered, TwoPhase}
use Rattle.certificates.specs.declared.Plan.{Plan}
use Rattle.plan_format.specs.declared.rules.PlanRule.{PlanRule}

-- ---- values

-- a list of whole numbers
abbrev pub numbers_tree : List ℕ → Data
numbers_tree ns = list_tree (map whole_tree ns)

-- ---- rules at switches

-- the name of a switch; empty where there is none
abbrev pub name_of : Network → SwitchId → List ℕ
name_of net s = unwrap_or (slice_get net.names s.0) []

-- the id that is set, where one is
abbrev pub set_tree : Action → Option Data
set_tree (Out port (Set id)) = Some (whole_tree id)
set_tree _ = None

-- true where the tag is stripped
abbrev pub strip_tree : Action → Option Data
strip_tree (Out port Strip) = Some (boolean true)
strip_tree _ = None

-- the members of a rule at its switch
unfoldable pub rule_members : Network → PlanRule → Members
rule_members net p =
    put_some (codes "vlan") (test_tree p.rule.key.pattern.vlan) (put_some (codes "strip") (strip_tree p.rule.action)
    (put_some (codes "set") (set_tree p.rule.action) (put_some (codes "in_port") (in_port_tree p.rule.key.pattern.in_port)
    (fixed_members (name_of net p.switch) p.rule))))

-- a rule at its switch, as an object
abbrev pub rule_tree : Network → PlanRule → Data
rule_tree net p = object (rule_members net p)

-- ---- changes as objects

-- what a change does, in a word
abbrev pub word_of : Change → List ℕ
word_of (Insert s r) = codes "insert"
word_of (Delete s r) = codes "delete"
word_of (Replace s r) = codes "replace"

-- the rule of a change at its switch
abbrev pub plan_rule_of : Change → PlanRule
plan_rule_of c = record { switch = switch_of c; rule = rule_of c }

-- a change: what it does beside the members of its rule
abbrev pub change_tree : Network → Change → Data
change_tree net c = object (put (codes "do") (string (word_of c)) (rule_members net (plan_rule_of c)))

-- a round of them
abbrev pub round_tree : Network → List Change → Data
round_tree net round = list_tree (map (change_tree net) round)

-- rounds of them
abbrev pub rounds_tree : Network → List (List Change) → Data
rounds_tree net rounds = list_tree (map (round_tree net) rounds)

-- the compact list of rounds, without a line end
abbrev pub rounds_text : Network → List (List Change) → List ℕ
rounds_text net rounds = compact_text (rounds_tree net rounds)

-- ---- changes by the numbers of their rules

-- whether two rules are the same at the same switch
abbrev pub plan_rule_eq : PlanRule → PlanRule → Bool
plan_rule_eq p q = p.switch.0 == q.switch.0 && rule_eq p.rule q.rule

-- each once, where it stands first
abbrev pub rules_once : List PlanRule → List PlanRule
rules_once [] = []
rules_once (p ∷ ps) = p ∷ filter (λ q. not (plan_rule_eq p q)) (rules_once ps)

-- the rules that rounds use
abbrev pub rules_of : List (List Change) → List PlanRule
rules_of rounds = flat_map (map plan_rule_of) rounds

-- the rounds that were tried
abbrev pub tried_of : Evidence → List (List Change)
tried_of (Ordered e) = []
tried_of (TwoPhase e) = e.tried

-- the rules of a plan, each once, in order of first use
unfoldable pub used_rules : Plan → List PlanRule
used_rules plan = rules_once (rules_of (plan.rounds ++ tried_of plan.evidence))

-- the number of a rule in the list
abbrev pub rule_number : List PlanRule → PlanRule → ℕ
rule_number rules p = unwrap_or (position (plan_rule_eq p) rules) 0

-- a change: what it does, and the number of its rule
abbrev pub numbered_change_tree : List PlanRule → Change → Data
numbered_change_tree rules c = list_tree (string (word_of c) ∷ whole_tree (rule_number rules (plan_rule_of c)) ∷ [])

-- a round of them
abbrev pub numbered_round_tree : List PlanRule → List Change → Data
numbered_round_tree rules round = list_tree (map (numbered_change_tree rules) round)

-- rounds of them
abbrev pub numbered_rounds_tree : List PlanRule → List (List Change) → Data
numbered_rounds_tree rules rounds = list_tree (map (numbered_round_tree rules) rounds)

-- ---- evidence

-- shared evidence: the number of a numbering, and those of before sets
abbrev pub use_tree : Shared → Data
use_tree use_ = list_tree (whole_tree use_.numbering ∷ numbers_tree use_.befores ∷ [])

-- a pick: its round, its class, and the number of its evidence
abbrev pub pick_tree : OrderedPick → Data
pick_tree p = numbers_tree (p.round ∷ p.class ∷ p.shared ∷ [])

-- the text for no tag, or the id
abbrev pub vlan_tree : Vlan → Data
vlan_tree vlan.Untagged = string (codes "untagged")
vlan_tree (vlan.Id id) = whole_tree id

-- the version of a label, in a word
abbrev pub version_text : Bool → List ℕ
version_text true = codes "new"
version_text false = codes "old"

-- a label: its VLAN, its version, and the VLAN of its user
abbrev pub label_tree : Label → Data
label_tree l = list_tree (vlan_tree l.vlan ∷ string (version_text l.new) ∷ vlan_tree l.user ∷ [])

-- a label table
abbrev pub table_tree : List Label → Data
table_tree labels = list_tree (map label_tree labels)

-- a pick: its round, and the number of its label table
abbrev pub label_pick_tree : LabelPick → Data
label_pick_tree p = numbers_tree (p.round ∷ p.labels ∷ [])

-- the members with those of the evidence, where changes go by the numbers of these rules
unfoldable pub with_evidence : List PlanRule → Evidence → Members → Members
with_evidence rules (Ordered e) ms =
    put (codes "kind") (string (codes "ordered")) (put (codes "numberings") (list_tree (map numbers_tree e.numberings))
    (put (codes "befores") (list_tree (map numbers_tree e.befores)) (put (codes "uses") (list_tree (map use_tree e.uses))
    (put (codes "picks") (list_tree (map pick_tree e.picks)) ms))))
with_evidence rules (TwoPhase e) ms =
    put (codes "kind") (string (codes "two-phase")) (put (codes "labels") (list_tree (map table_tree e.labels))
    (put (codes "picks") (list_tree (map label_pick_tree e.picks)) (put (codes "tried") (numbered_rounds_tree rules e.tried) ms)))

-- ---- plans

-- the members of a plan, where changes go by the numbers of these rules
unfoldable pub plan_members : Network → List PlanRule → Plan → Members
plan_members net rules plan =
    with_evidence rules plan.evidence (put (codes "format") (whole_tree 2) (put (codes "rounds") (numbered_rounds_tree rules plan.rounds)
    (put (codes "rules") (list_tree (map (rule_tree net) rules)) no_members)))

-- the object of a plan, with the rules that it uses
abbrev pub plan_tree : Network → Plan → Data
plan_tree net plan = object (plan_members net (used_rules plan) plan)

-- the compact text of a plan, with one line end
abbrev pub plan_text : Network → Plan → List ℕ
plan_text net plan = compact_text (plan_tree net plan) ++ 10 ∷ []
