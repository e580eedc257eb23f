-- What is written has no float, and isn't deep.
use Rattle.std.proofs.Common.{ℕ, List, [], ◌∷◌, map, codes, refl, arith}
use Rattle.serde_json.specs.Data.{Data, string, Members, no_members, put}
use Rattle.net_base.specs.declared.ids.Vlan.{Vlan}
use Rattle.net_base.specs.declared.ids.Vlan.TheVariants as vlan
use Rattle.topology.specs.Networks.{Network}
use Rattle.flow_rules.specs.declared.rules.Rewrite.TheVariants.{Keep, Set, Strip}
use Rattle.flow_rules.specs.declared.rules.Action.{Action}
use Rattle.flow_rules.specs.declared.rules.Action.TheVariants.{Discard, Out}
use Rattle.config_files.specs.RuleTrees.{whole_tree, list_tree}
use Rattle.config_files.proofs.Flat.{IsFlat, AreFlat, IsFlatMember, put_flat, put_some_flat, object_flat, list_flat, map_flat, deeper, whole_flat, text_flat, in_port_flat, test_flat, fixed_flat}
use Rattle.update_model.specs.declared.Change.{Change}
use Rattle.certificates.specs.declared.Shared.{Shared}
use Rattle.certificates.specs.declared.Label.{Label}
use Rattle.certificates.specs.declared.Evidence.{Evidence}
use Rattle.certificates.specs.declared.Evidence.TheVariants.{Ordered, TwoPhase}
use Rattle.certificates.specs.declared.Plan.{Plan}
use Rattle.plan_format.specs.declared.rules.PlanRule.{PlanRule}
use Rattle.plan_text.specs.PlanText.{numbers_tree, name_of, word_of, plan_rule_of, rule_number, version_text, set_tree, strip_tree, rule_members, rule_tree, numbered_change_tree, numbered_round_tree, numbered_rounds_tree, use_tree, pick_tree, vlan_tree, label_tree, table_tree, label_pick_tree, with_evidence, used_rules, plan_members, plan_tree}

numbers_flat : (ns : List ℕ) → IsFlat 1 (numbers_tree ns)
numbers_flat ns = map_flat 0 whole_tree ns (whole_flat 0)

set_flat : (a : Action) → IsFlatMember 0 (set_tree a)
set_flat Discard = tt
set_flat (Out port Keep) = tt
set_flat (Out port (Set id)) = whole_flat 0 id
set_flat (Out port Strip) = tt

strip_flat : (a : Action) → IsFlatMember 0 (strip_tree a)
strip_flat Discard = tt
strip_flat (Out port Keep) = tt
strip_flat (Out port (Set id)) = tt
strip_flat (Out port Strip) = record { no_float = refl; shallow = omega arith }

rule_members_flat : (net : Network) (p : PlanRule) → AreFlat 0 (rule_members net p)
unfolding rule_members
rule_members_flat net p =
    put_some_flat 0 _ _ _ (test_flat p.rule.key.pattern.vlan) (put_some_flat 0 _ _ _ (strip_flat p.rule.action)
    (put_some_flat 0 _ _ _ (set_flat p.rule.action) (put_some_flat 0 _ _ _ (in_port_flat p.rule.key.pattern.in_port) (fixed_flat (name_of net p.switch) p.rule))))

rule_flat : (net : Network) (p : PlanRule) → IsFlat 1 (rule_tree net p)
rule_flat net p = object_flat 0 (rule_members net p) (rule_members_flat net p)

step_flat : (rules : List PlanRule) (c : Change) → IsFlat 1 (numbered_change_tree rules c)
step_flat rules c =
    let n : ℕ = rule_number rules (plan_rule_of c) in
    list_flat 0 (string (word_of c) ∷ whole_tree n ∷ []) (text_flat 0 (word_of c), (whole_flat 0 n, tt))

step_rounds_flat : (rules : List PlanRule) (rounds : List (List Change)) → IsFlat 3 (numbered_rounds_tree rules rounds)
step_rounds_flat rules rounds = map_flat 2 (numbered_round_tree rules) rounds (λ round. map_flat 1 (numbered_change_tree rules) round (step_flat rules))

use_flat : (u : Shared) → IsFlat 2 (use_tree u)
use_flat u = list_flat 1 (whole_tree u.numbering ∷ numbers_tree u.befores ∷ []) (whole_flat 1 u.numbering, (numbers_flat u.befores, tt))

vlan_flat : (v : Vlan) → IsFlat 0 (vlan_tree v)
vlan_flat vlan.Untagged = text_flat 0 (codes "untagged")
vlan_flat (vlan.Id id) = whole_flat 0 id

label_flat : (l : Label) → IsFlat 1 (label_tree l)
label_flat l =
    list_flat 0 (vlan_tree l.vlan ∷ string (version_text l.new) ∷ vlan_tree l.user ∷ []) (vlan_flat l.vlan, (text_flat 0 (version_text l.new), (vlan_flat l.user, tt)))

evidence_flat : (rules : List PlanRule) (e : Evidence) (ms : Members) → AreFlat 3 ms → AreFlat 3 (with_evidence rules e ms)
unfolding with_evidence
evidence_flat rules (Ordered e) ms hs =
    put_flat 3 _ _ _ (text_flat 3 _) (put_flat 3 _ _ _ (deeper 2 3 _ (omega arith) (map_flat 1 numbers_tree e.numberings numbers_flat))
    (put_flat 3 _ _ _ (deeper 2 3 _ (omega arith) (map_flat 1 numbers_tree e.befores numbers_flat)) (put_flat 3 _ _ _ (map_flat 2 use_tree e.uses use_flat)
    (put_flat 3 _ _ _ (deeper 2 3 _ (omega arith) (map_flat 1 pick_tree e.picks (λ p. numbers_flat (p.round ∷ p.class ∷ p.shared ∷ [])))) hs))))
evidence_flat rules (TwoPhase e) ms hs =
    put_flat 3 _ _ _ (text_flat 3 _) (put_flat 3 _ _ _ (map_flat 2 table_tree e.labels (λ t. map_flat 1 label_tree t label_flat))
    (put_flat 3 _ _ _ (deeper 2 3 _ (omega arith) (map_flat 1 label_pick_tree e.picks (λ p. numbers_flat (p.round ∷ p.labels ∷ [])))) (put_flat 3 _ _ _ (step_rounds_flat rules e.tried) hs)))

pub plan_flat : (net : Network) (plan : Plan) → IsFlat 4 (plan_tree net plan)
unfolding plan_members
plan_flat net plan =
    let rules : List PlanRule = used_rules plan in
    let objects : Data = list_tree (map (rule_tree net) rules) in
    let first : Members = put (codes "rules") objects no_members in
    let second : Members = put (codes "rounds") (numbered_rounds_tree rules plan.rounds) first in
    let third : Members = put (codes "format") (whole_tree 2) second in
    let objects_flat : IsFlat 3 objects = deeper 2 3 objects (omega arith) (map_flat 1 (rule_tree net) rules (rule_flat net)) in
    object_flat 3 (with_evidence rules plan.evidence third) (evidence_flat rules plan.evidence third (put_flat 3 (codes "format") (whole_tree 2) second (whole_flat 3 2)
    (put_flat 3 (codes "rounds") (numbered_rounds_tree rules plan.rounds) first (step_rounds_flat rules plan.rounds) (put_flat 3 (codes "rules") objects no_members objects_flat tt))))
