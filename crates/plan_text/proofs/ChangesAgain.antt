-- The rules and the changes that are written are read again.
use Rattle.std.proofs.Common.{◌≡◌, ℕ, suc, ◌+◌, ◌<◌, ◌≤◌, Bool, true, false, List, [], ◌∷◌, ◌++◌, length, map, sum_by, slice_get, codes, Option, Some, None, option_map, Ok, refl, sym, ap, ◌∙◌, append_assoc, arith}
use Rattle.std.specs.List.{AllByRecursion}
use Rattle.std.specs.Option.{unwrap_or}
use Rattle.std.specs.Str.{bytes_eq}
use Rattle.std.proofs.lemmas.Bool.{le-leb, lt-ltb, and_from}
use Rattle.std.proofs.lemmas.List.{append-nil, length-map}
use Rattle.std.proofs.lemmas.List.Sums.{sum_by_push, sum_by-append}
use Rattle.std.proofs.lemmas.Option.{unwrap_or-slice_get}
use Rattle.serde_json.specs.Data.{object, Members}
use Rattle.serde_json.specs.Find.{get_member}
use Rattle.net_base.specs.Members.{IsDistinct}
use Rattle.net_base.specs.declared.field.Field.{Field}
use Rattle.net_base.specs.declared.ids.Port.{Port}
use Rattle.net_base.specs.Fields.{field_name}
use Rattle.net_base.specs.Reading.{in_turn, place_of}
use Rattle.net_base.proofs.Prefixes.{prefix_in-text}
use Rattle.flat_json.proofs.JsonTree.{list_of-items_of}
use Rattle.topology.specs.Networks.{Network, switch_count, switch_named, IsPortNumber}
use Rattle.topology.proofs.NamedLaws.{named_again}
use Rattle.flow_rules.specs.declared.rules.VlanTest.{VlanTest}
use Rattle.flow_rules.specs.declared.rules.VlanTest.TheVariants as test
use Rattle.flow_rules.specs.declared.rules.Rewrite.TheVariants.{Keep, Set, Strip}
use Rattle.flow_rules.specs.declared.rules.Action.{Action}
use Rattle.flow_rules.specs.declared.rules.Action.TheVariants.{Discard, Out}
use Rattle.config_files.specs.RuleTrees.{list_tree, in_port_tree, test_tree, out_tree, fixed_members}
use Rattle.config_files.proofs.PutLaws.{beside, there}
use Rattle.update_model.specs.declared.Change.{Change}
use Rattle.update_model.specs.declared.Change.TheVariants as change
use Rattle.update_model.specs.Ranges.{IsPlanPort, IsPlanVlan, IsPlanAction, IsPlanChange}
use Rattle.plan_format.specs.declared.rules.TestWord.{TestWord}
use Rattle.plan_format.specs.declared.rules.TestWord.TheVariants as word
use Rattle.plan_format.specs.declared.rules.RuleWords.{RuleWords}
use Rattle.plan_format.specs.declared.rules.PlanRule.{PlanRule}
use Rattle.plan_format.specs.declared.changes.Spelling.TheVariants.{Numbers}
use Rattle.plan_format.specs.Changes.{in_port_word, vlan_word, out_word, set_word, strip_word, is_port, port_choice, test_of, action_of, rule_of, rule_in, numbered_change, change_at, round_in, round_at, rounds_in, rule_at, rules_in}
use Rattle.plan_text.specs.PlanText.{name_of, set_tree, strip_tree, rule_members, rule_tree, plan_rule_of, rule_number, numbered_change_tree, numbered_round_tree, numbered_rounds_tree}
use Rattle.plan_text.proofs.InTurn.{turns_again}

-- ---- the members of a rule

fixed_again : (net : Network) (p : PlanRule) (q : List ℕ) → bytes_eq q (codes "vlan") ≡ false → bytes_eq q (codes "strip") ≡ false → bytes_eq q (codes "set") ≡ false → bytes_eq q (codes "in_port") ≡ false
    → get_member q (rule_members net p) ≡ get_member q (fixed_members (name_of net p.switch) p.rule)
unfolding rule_members
fixed_again net p q vlan strip set in_port =
    beside q (codes "vlan") (test_tree p.rule.key.pattern.vlan) _ vlan ∙ beside q (codes "strip") (strip_tree p.rule.action) _ strip
    ∙ beside q (codes "set") (set_tree p.rule.action) _ set ∙ beside q (codes "in_port") (in_port_tree p.rule.key.pattern.in_port) (fixed_members (name_of net p.switch) p.rule) in_port

in_port_again : (net : Network) (p : PlanRule) → get_member (codes "in_port") (rule_members net p) ≡ in_port_tree p.rule.key.pattern.in_port
unfolding rule_members
in_port_again net p =
    beside (codes "in_port") (codes "vlan") (test_tree p.rule.key.pattern.vlan) _ refl ∙ beside (codes "in_port") (codes "strip") (strip_tree p.rule.action) _ refl
    ∙ beside (codes "in_port") (codes "set") (set_tree p.rule.action) _ refl ∙ there (codes "in_port") (in_port_tree p.rule.key.pattern.in_port) (fixed_members (name_of net p.switch) p.rule) refl

set_again : (net : Network) (p : PlanRule) → get_member (codes "set") (rule_members net p) ≡ set_tree p.rule.action
unfolding rule_members
set_again net p =
    beside (codes "set") (codes "vlan") (test_tree p.rule.key.pattern.vlan) _ refl ∙ beside (codes "set") (codes "strip") (strip_tree p.rule.action) _ refl
    ∙ there (codes "set") (set_tree p.rule.action) _ (beside (codes "set") (codes "in_port") (in_port_tree p.rule.key.pattern.in_port) (fixed_members (name_of net p.switch) p.rule) refl)

strip_again : (net : Network) (p : PlanRule) → get_member (codes "strip") (rule_members net p) ≡ strip_tree p.rule.action
unfolding rule_members
strip_again net p =
    beside (codes "strip") (codes "vlan") (test_tree p.rule.key.pattern.vlan) _ refl
    ∙ there (codes "strip") (strip_tree p.rule.action) _ (beside (codes "strip") (codes "set") (set_tree p.rule.action) _ refl
    ∙ beside (codes "strip") (codes "in_port") (in_port_tree p.rule.key.pattern.in_port) (fixed_members (name_of net p.switch) p.rule) refl)

vlan_again : (net : Network) (p : PlanRule) → get_member (codes "vlan") (rule_members net p) ≡ test_tree p.rule.key.pattern.vlan
unfolding rule_members
vlan_again net p =
    there (codes "vlan") (test_tree p.rule.key.pattern.vlan) _ (beside (codes "vlan") (codes "strip") (strip_tree p.rule.action) _ refl
    ∙ beside (codes "vlan") (codes "set") (set_tree p.rule.action) _ refl ∙ beside (codes "vlan") (codes "in_port") (in_port_tree p.rule.key.pattern.in_port) (fixed_members (name_of net p.switch) p.rule) refl)

-- ---- its words

in_port_read : (o : Option Port) → in_port_word (in_port_tree o) ≡ Some (option_map (λ q. q.0) o)
in_port_read None = refl
in_port_read (Some q) = refl

abbrev test_word : VlanTest → TestWord
test_word test.Any = word.Any
test_word test.Untagged = word.Untagged
test_word (test.Id id) = word.Number id

vlan_read : (t : VlanTest) → vlan_word (test_tree t) ≡ Some (test_word t)
vlan_read test.Any = refl
vlan_read test.Untagged = refl
vlan_read (test.Id id) = refl

abbrev out_of : Action → Option ℕ
out_of Discard = None
out_of (Out port rewrite) = Some port.0

out_read : (a : Action) → out_word (Some (out_tree a)) ≡ Some (out_of a)
out_read Discard = refl
out_read (Out port rewrite) = refl

abbrev set_of : Action → Option ℕ
set_of (Out port (Set id)) = Some id
set_of _ = None

set_read : (a : Action) → set_word (set_tree a) ≡ Some (set_of a)
set_read Discard = refl
set_read (Out port Keep) = refl
set_read (Out port (Set id)) = refl
set_read (Out port Strip) = refl

abbrev strip_of : Action → Bool
strip_of (Out port Strip) = true
strip_of _ = false

strip_read : (a : Action) → strip_word (strip_tree a) ≡ Some (strip_of a)
strip_read Discard = refl
strip_read (Out port Keep) = refl
strip_read (Out port (Set id)) = refl
strip_read (Out port Strip) = refl

-- ---- names

name_read : (net : Network) (n : ℕ) → IsDistinct net.names → n < switch_count net → switch_named net.names (unwrap_or (slice_get net.names n) []) ≡ Some n
name_read net n distinct lt = rw (unwrap_or-slice_get net.names n []) (named_again net.names n distinct lt)

-- ---- rules

-- the numbers of a rule are in range
abbrev pub IsInRange : Network → PlanRule → Type 0
IsInRange net p = IsPlanChange net (change.Insert p.switch p.rule)

abbrev words_of : PlanRule → RuleWords
words_of p = record {
  switch = p.switch;
  priority = p.rule.key.priority;
  in_port = option_map (λ q. q.0) p.rule.key.pattern.in_port;
  vlan = test_word p.rule.key.pattern.vlan;
  dst = Some p.rule.key.pattern.dst;
  out = out_of p.rule.action;
  set = set_of p.rule.action;
  strip = strip_of p.rule.action;
}

port_in_range : (n : ℕ) → IsPortNumber n → is_port n ≡ true
port_in_range n h = and_from _ _ (le-leb 1 n h.0) (le-leb n 65279 h.1)

port_made : (o : Option Port) → IsPlanPort o → port_choice (option_map (λ q. q.0) o) ≡ Some o
port_made None h = refl
port_made (Some q) h = rw (port_in_range q.0 h) refl

test_made : (t : VlanTest) → IsPlanVlan t → test_of (test_word t) ≡ Some t
test_made test.Any h = refl
test_made test.Untagged h = refl
test_made (test.Id id) h = rw (le-leb 1 id h.0, le-leb id 4094 h.1) refl

action_made : (a : Action) → IsPlanAction a → action_of (out_of a) (set_of a) (strip_of a) ≡ Some a
action_made Discard h = refl
action_made (Out port Keep) h = rw (port_in_range port.0 h.0) refl
action_made (Out port (Set id)) h = rw (le-leb 1 id h.1.0, le-leb id 4094 h.1.1, port_in_range port.0 h.0) refl
action_made (Out port Strip) h = rw (port_in_range port.0 h.0) refl

rule_made : (net : Network) (place : ℕ) (p : PlanRule) → IsInRange net p → rule_of place (words_of p) ≡ Ok p
unfolding rule_of
rule_made net place p h =
    rw (
      le-leb 1 p.rule.key.priority h.priority,
      le-leb p.rule.key.priority 65535 h.priority_most,
      port_made p.rule.key.pattern.in_port h.port,
      test_made p.rule.key.pattern.vlan h.vlan,
      action_made p.rule.action h.action,
    ) refl

rule_again : (net : Network) (place : ℕ) (p : PlanRule) → IsDistinct net.names → IsInRange net p → rule_in net place (rule_tree net p) ≡ Ok p
unfolding rule_in
rule_again net place p distinct h =
    rw (
      fixed_again net p (codes "switch") refl refl refl refl,
      name_read net p.switch.0 distinct h.switch,
      fixed_again net p (codes "priority") refl refl refl refl,
      in_port_again net p,
      in_port_read p.rule.key.pattern.in_port,
      vlan_again net p,
      vlan_read p.rule.key.pattern.vlan,
      fixed_again net p (codes "dst") refl refl refl refl,
      fixed_again net p (codes "out") refl refl refl refl,
      out_read p.rule.action,
      set_again net p,
      set_read p.rule.action,
      strip_again net p,
      strip_read p.rule.action,
      prefix_in-text p.rule.key.pattern.dst h.dst,
    ) (rule_made net place p h)

next_rule : (net : Network) (i : ℕ) (before : List PlanRule) (p : PlanRule) → IsDistinct net.names → i < 2200000 → IsInRange net p
    → rule_at net (place_of i) before (rule_tree net p) ≡ Ok (before ++ p ∷ [])
unfolding rule_at
next_rule net i before p distinct lt h =
    let small : place_of i < 2200000 = omega arith in
    rw (lt-ltb (place_of i) 2200000 small, rule_again net (place_of i) p distinct h) refl

pub rules_again : (net : Network) (ms : Members) (rules : List PlanRule) → get_member (codes "rules") ms ≡ Some (list_tree (map (rule_tree net) rules))
    → IsDistinct net.names → length rules ≤ 2200000 → AllByRecursion (IsInRange net) rules → rules_in net (object ms) ≡ Ok rules
unfolding rules_in
rules_again net ms rules at distinct few hs =
    rw (at, list_of-items_of (map (rule_tree net) rules))
    (turns_again (rule_at net) (rule_tree net) (IsInRange net) 2200000 (λ i before p lt h. next_rule net i before p distinct lt h) 0 [] rules (omega arith) hs)

-- ---- changes by the numbers of their rules

-- the rule of the change stands in the list at its number
abbrev pub HasNumber : List PlanRule → Change → Type 0
HasNumber rules c = slice_get rules (rule_number rules (plan_rule_of c)) ≡ Some (plan_rule_of c)

step_again : (rules : List PlanRule) (list : Field) (place : ℕ) (c : Change) → HasNumber rules c → numbered_change rules list place (numbered_change_tree rules c) ≡ Ok c
unfolding numbered_change
step_again rules list place (change.Insert s r) h = rw h refl
step_again rules list place (change.Delete s r) h = rw h refl
step_again rules list place (change.Replace s r) h = rw h refl

next_step : (net : Network) (rules : List PlanRule) (list : Field) (i : ℕ) (before : List Change) (c : Change) → i < 2200000 → HasNumber rules c
    → change_at net (Numbers rules) list (place_of i) before (numbered_change_tree rules c) ≡ Ok (before ++ c ∷ [])
unfolding change_at
next_step net rules list i before c lt h =
    let small : place_of i < 2200000 = omega arith in
    rw (lt-ltb (place_of i) 2200000 small, step_again rules list (place_of i) c h) refl

round_again : (net : Network) (rules : List PlanRule) (list : Field) (place number : ℕ) (round : List Change) → number + length round ≤ 2200000 → AllByRecursion (HasNumber rules) round
    → round_in net (Numbers rules) list place number (numbered_round_tree rules round) ≡ Ok round
unfolding round_in
round_again net rules list place number round few hs =
    rw (list_of-items_of (map (numbered_change_tree rules) round))
    (turns_again (change_at net (Numbers rules) list) (numbered_change_tree rules) (HasNumber rules) 2200000 (λ i before c lt h. next_step net rules list i before c lt h) number [] round few hs)

next_round : (net : Network) (rules : List PlanRule) (list : Field) (first place : ℕ) (before : List (List Change)) (round : List Change)
    → (first + sum_by length before) + length round ≤ 2200000 → AllByRecursion (HasNumber rules) round
    → round_at net (Numbers rules) list first place before (numbered_round_tree rules round) ≡ Ok (before ++ round ∷ [])
unfolding round_at
next_round net rules list first place before round few hs = rw (round_again net rules list place (first + sum_by length before) round few hs) refl

each_round : (net : Network) (rules : List PlanRule) (list : Field) (first n : ℕ) (before rounds : List (List Change)) → first + (sum_by length before + sum_by length rounds) ≤ 2200000
    → AllByRecursion (AllByRecursion (HasNumber rules)) rounds
    → in_turn (round_at net (Numbers rules) list first) n before (map (numbered_round_tree rules) rounds) ≡ Ok (before ++ rounds)
unfolding in_turn
each_round net rules list first n before [] few hs = ap (λ (r : List (List Change)). Ok r) (sym (append-nil before))
each_round net rules list first n before (round ∷ rounds) few hs =
    let count : sum_by length (before ++ round ∷ []) ≡ sum_by length before + length round = sum_by_push (λ (r : List Change). length r) before round in
    let more : sum_by length (round ∷ rounds) ≡ (0 + length round) + sum_by length rounds = sum_by-append (λ (r : List Change). length r) (round ∷ []) rounds in
    rw (next_round net rules list first (place_of n) before round (omega arith) hs.0)
    (each_round net rules list first (suc n) (before ++ round ∷ []) rounds (omega arith) hs.1 ∙ ap (λ (r : List (List Change)). Ok r) (append_assoc before (round ∷ []) rounds))

pub rounds_again : (net : Network) (rules : List PlanRule) (list : Field) (most first : ℕ) (ms : Members) (rounds : List (List Change))
    → get_member (field_name list) ms ≡ Some (numbered_rounds_tree rules rounds) → length rounds ≤ most → first + sum_by length rounds ≤ 2200000
    → AllByRecursion (AllByRecursion (HasNumber rules)) rounds → rounds_in net (Numbers rules) list most first (object ms) ≡ Ok rounds
unfolding rounds_in
rounds_again net rules list most first ms rounds at short few hs =
    rw (at, list_of-items_of (map (numbered_round_tree rules) rounds), length-map rounds (numbered_round_tree rules), le-leb (length rounds) most short)
    (each_round net rules list first 0 [] rounds (omega arith) hs)
