-- What is written of a valid plan is read as the same tree: its numbers fit 64 bits, and its members are in order.
use Rattle.std.proofs.Common.{◌≡◌, ℕ, ◌^◌, ◌<◌, ◌≤◌, Bool, true, false, cond, nat_lt, List, [], ◌∷◌, ◌++◌, length, map, sum_by, codes, Option, Some, None, option_map, refl, sym, ap, ◌∙◌, append-nil, arith}
use Rattle.std.specs.List.{AllByRecursion, position_or_len}
use Rattle.std.specs.Option.{unwrap_or}
use Rattle.std.specs.Str.{IsUtf8}
use Rattle.json.specs.Tree as tree
use Rattle.json.specs.Lex.{tokens}
use Rattle.json.specs.Print.{print}
use Rattle.json.specs.Written.{Written}
use Rattle.json.proofs.Printed.Trees.{value-json_tokens}
use Rattle.serde_json.specs.Data.{Data, null, boolean, number, string, array, object, Items, no_items, item, Members, no_members, member, put, depth, items_depth, members_depth}
use Rattle.serde_json.specs.Read.{read, max_depth, of_json, of_items, of_members}
use Rattle.serde_json.specs.View.{items_of}
use Rattle.serde_json.specs.Written.{outline, items_outline, members_outline, compact_text}
use Rattle.serde_json.proofs.Numbers.{number_of-decimal}
use Rattle.serde_json.proofs.Texts.{print-outline}
use Rattle.net_base.specs.declared.ids.Port.{Port}
use Rattle.net_base.specs.declared.ids.Vlan.{Vlan}
use Rattle.net_base.specs.declared.ids.Vlan.TheVariants as vlan
use Rattle.net_base.specs.Text.{prefix_text}
use Rattle.flat_json.specs.JsonTree.{tree_in}
use Rattle.flat_json.proofs.LineEnd.{tree_in-line_end}
use Rattle.topology.specs.Networks.{Network, switch_count, IsVlan}
use Rattle.flow_rules.specs.declared.rules.VlanTest.{VlanTest}
use Rattle.flow_rules.specs.declared.rules.VlanTest.TheVariants as test
use Rattle.flow_rules.specs.declared.rules.Rewrite.TheVariants.{Keep, Set, Strip}
use Rattle.flow_rules.specs.declared.rules.Action.{Action}
use Rattle.flow_rules.specs.declared.rules.Action.TheVariants.{Discard, Out}
use Rattle.config_files.specs.RuleTrees.{whole_tree, list_tree, in_port_tree, test_tree, out_tree}
use Rattle.update_model.specs.declared.Change.{Change}
use Rattle.update_model.specs.Ranges.{IsPlanPort, IsPlanVlan, IsPlanAction}
use Rattle.certificates.specs.declared.Shared.{Shared}
use Rattle.certificates.specs.declared.OrderedPick.{OrderedPick}
use Rattle.certificates.specs.declared.Label.{Label}
use Rattle.certificates.specs.declared.LabelPick.{LabelPick}
use Rattle.certificates.specs.declared.OrderedEvidence.{OrderedEvidence}
use Rattle.certificates.specs.declared.TwoPhaseEvidence.{TwoPhaseEvidence}
use Rattle.certificates.specs.Valid.{IsValidNumbering, IsValidBefore, IsValidUse, IsValidPick, IsValidTable, IsValidLabelPick, IsValidOrdered, IsValidTwoPhase}
use Rattle.plan_format.specs.declared.rules.PlanRule.{PlanRule}
use Rattle.plan_text.specs.PlanText.{numbers_tree, name_of, set_tree, strip_tree, rule_members, rule_tree, plan_rule_eq, plan_rule_of, rule_number, word_of, numbered_change_tree, numbered_round_tree, numbered_rounds_tree, use_tree, pick_tree, vlan_tree, version_text, label_tree, table_tree, label_pick_tree}
use Rattle.plan_text.specs.Tokens.{tokens_of, ordered_members, two_phase_members, Adds}
use Rattle.plan_text.proofs.Order.{member_if, in_order, put_all, put_in_order, rule_in_order, rule_is}
use Rattle.plan_text.proofs.ChangesAgain.{IsInRange}
use Rattle.net_base.specs.Switches.{most_switches}

-- its JSON is read as it
pub record IsRead (d : Data) : Type 0 where
  pub again : of_json (outline d) ≡ Some d

-- where there is a value
abbrev IsReadIf : Option Data → Type 0
IsReadIf None = Unit {0}
IsReadIf (Some d) = IsRead d

text_read : (s : List ℕ) → IsRead (string s)
text_read s = record { again = refl }

whole_read : (n : ℕ) → n < 2 ^ 64 → IsRead (whole_tree n)
whole_read n fits = record { again = ap (option_map number) (number_of-decimal n fits) }

-- ---- lists

items_read : (ds : List Data) → AllByRecursion IsRead ds → of_items (items_outline (items_of ds)) ≡ Some (items_of ds)
items_read [] hs = refl
items_read (d ∷ ds) hs =
    let first = hs.0 in
    rw (first.again, items_read ds hs.1) refl

list_read : (ds : List Data) → AllByRecursion IsRead ds → IsRead (list_tree ds)
list_read ds hs = record { again = ap (option_map array) (items_read ds hs) }

each_read : {X : Type 0} (tree : X → Data) (P : X → Type 0) → ((x : X) → P x → IsRead (tree x)) → (xs : List X) → AllByRecursion P xs → AllByRecursion IsRead (map tree xs)
each_read tree P each [] hs = tt
each_read tree P each (x ∷ xs) hs = (each x hs.0, each_read tree P each xs hs.1)

map_read : {X : Type 0} (tree : X → Data) (P : X → Type 0) → ((x : X) → P x → IsRead (tree x)) → (xs : List X) → AllByRecursion P xs → IsRead (list_tree (map tree xs))
map_read tree P each xs hs = list_read (map tree xs) (each_read tree P each xs hs)

numbers_read : (P : ℕ → Type 0) → ((n : ℕ) → P n → n < 2 ^ 64) → (ns : List ℕ) → AllByRecursion P ns → IsRead (numbers_tree ns)
numbers_read P fits ns hs = map_read whole_tree P (λ n h. whole_read n (fits n h)) ns hs

-- ---- members

abbrev AreRead : Members → Type 0
AreRead no_members = Unit {0}
AreRead (member k d ms) = IsRead d × AreRead ms

members_read : (ms found : Members) → AreRead ms → of_members (members_outline ms) found ≡ Some (put_all ms found)
members_read no_members found hs = refl
members_read (member k d ms) found hs =
    let first = hs.0 in
    rw first.again (members_read ms (put k d found) hs.1)

if_read : (k : List ℕ) (o : Option Data) (ms : Members) → IsReadIf o → AreRead ms → AreRead (member_if k o ms)
if_read k None ms h hs = hs
if_read k (Some d) ms h hs = (h, hs)

object_read : (ms : Members) → of_members (members_outline ms) no_members ≡ Some ms → IsRead (object ms)
object_read ms e = record { again = ap (option_map object) e }

-- ---- rules

in_port_read : (o : Option Port) → IsPlanPort o → IsReadIf (in_port_tree o)
in_port_read None h = tt
in_port_read (Some p) h = whole_read p.0 (omega (arith, h.1))

test_read : (t : VlanTest) → IsPlanVlan t → IsReadIf (test_tree t)
test_read test.Any h = tt
test_read test.Untagged h = text_read (codes "untagged")
test_read (test.Id id) h = whole_read id (omega (arith, h.1))

out_read : (a : Action) → IsPlanAction a → IsRead (out_tree a)
out_read Discard h = text_read (codes "drop")
out_read (Out port rewrite) h = whole_read port.0 (omega (arith, h.0.1))

set_read : (a : Action) → IsPlanAction a → IsReadIf (set_tree a)
set_read Discard h = tt
set_read (Out port Keep) h = tt
set_read (Out port (Set id)) h = whole_read id (omega (arith, h.1.1))
set_read (Out port Strip) h = tt

strip_read : (a : Action) → IsReadIf (strip_tree a)
strip_read Discard = tt
strip_read (Out port Keep) = tt
strip_read (Out port (Set id)) = tt
strip_read (Out port Strip) = record { again = refl }

in_order_read : (x y z w : Data) (a b c e : Option Data) → IsRead x → IsRead y → IsRead z → IsRead w → IsReadIf a → IsReadIf b → IsReadIf c → IsReadIf e → AreRead (in_order x y z w a b c e)
in_order_read x y z w a b c e hx hy hz hw ha hb hc he =
    let last : Members = member (codes "switch") w (member_if (codes "vlan") e no_members) in
    let set : Members = member_if (codes "set") b (member_if (codes "strip") c last) in (
      hx,
      if_read (codes "in_port") a (member (codes "out") y (member (codes "priority") z set)) ha
          (hy, (hz, if_read (codes "set") b (member_if (codes "strip") c last) hb (if_read (codes "strip") c last hc (hw, if_read (codes "vlan") e no_members he tt)))),
    )

rule_read : (net : Network) (p : PlanRule) → IsInRange net p → IsRead (rule_tree net p)
rule_read net p h =
    let dst : Data = string (prefix_text p.rule.key.pattern.dst) in
    let out : Data = out_tree p.rule.action in
    let priority : Data = whole_tree p.rule.key.priority in
    let name : Data = string (name_of net p.switch) in
    let in_port : Option Data = in_port_tree p.rule.key.pattern.in_port in
    let set : Option Data = set_tree p.rule.action in
    let strip : Option Data = strip_tree p.rule.action in
    let vlan_test : Option Data = test_tree p.rule.key.pattern.vlan in
    let each : AreRead (in_order dst out priority name in_port set strip vlan_test) =
    in_order_read dst out priority name in_port set strip vlan_test (text_read (prefix_text p.rule.key.pattern.dst)) (out_read p.rule.action h.action)
    (whole_read p.rule.key.priority (omega (arith, h.priority_most))) (text_read (name_of net p.switch)) (in_port_read p.rule.key.pattern.in_port h.port)
    (set_read p.rule.action h.action) (strip_read p.rule.action) (test_read p.rule.key.pattern.vlan h.vlan) in
    let all : of_members (members_outline (rule_in_order net p)) no_members ≡ Some (rule_in_order net p) =
    members_read (rule_in_order net p) no_members each ∙ ap (λ (ms : Members). Some ms) (put_in_order dst out priority name in_port set strip vlan_test).1 in
    object_read (rule_members net p) (rw (rule_is net p) all)

-- ---- changes by the numbers of their rules

place_within : {A : Type 0} (test : A → Bool) (xs : List A) → position_or_len test xs ≤ length xs
place_within test [] = omega arith
place_within test (x ∷ xs) = let h = place_within test xs in grind arith

number_within : (rules : List PlanRule) (p : PlanRule) → rule_number rules p ≤ length rules
number_within rules p =
    let i : ℕ = position_or_len (plan_rule_eq p) rules in
    let h : i ≤ length rules = place_within (plan_rule_eq p) rules in
    elim (nat_lt i (length rules)) as (λ b. unwrap_or (cond b (Some i) None) 0 ≤ length rules) [
      | true ↦ h
      | false ↦ omega arith
    ]

step_read : (rules : List PlanRule) → length rules ≤ 2200000 → (c : Change) → IsRead (numbered_change_tree rules c)
step_read rules few c =
    let n : ℕ = rule_number rules (plan_rule_of c) in
    let h : n ≤ length rules = number_within rules (plan_rule_of c) in
    list_read (string (word_of c) ∷ whole_tree n ∷ []) (text_read (word_of c), (whole_read n (omega arith), tt))

any : {X : Type 0} (xs : List X) → AllByRecursion (λ _. Unit {0}) xs
any [] = tt
any (x ∷ xs) = (tt, any xs)

rounds_read : (rules : List PlanRule) → length rules ≤ 2200000 → (rounds : List (List Change)) → IsRead (numbered_rounds_tree rules rounds)
rounds_read rules few rounds =
    map_read (numbered_round_tree rules) (λ _. Unit {0}) (λ round _. map_read (numbered_change_tree rules) (λ _. Unit {0}) (λ c _. step_read rules few c) round (any round)) rounds (any rounds)

-- ---- evidence

numbering_read : (net : Network) (ns : List ℕ) → IsValidNumbering net ns → IsRead (numbers_tree ns)
numbering_read net ns h = numbers_read (λ x. x ≤ 65535) (λ n le. omega arith) ns h.1

before_read : (net : Network) → switch_count net ≤ most_switches → (ns : List ℕ) → IsValidBefore net ns → IsRead (numbers_tree ns)
before_read net few ns h = numbers_read (λ s. s < switch_count net) (λ n lt. omega arith) ns h.0

use_read : (numberings befores : ℕ) → befores < 2 ^ 64 → (u : Shared) → IsValidUse numberings befores u → IsRead (use_tree u)
use_read numberings befores few u h =
    list_read (whole_tree u.numbering ∷ numbers_tree u.befores ∷ [])
    (whole_read u.numbering (omega (arith, h.1)), (numbers_read (λ i. i < befores) (λ n lt. omega arith) u.befores h.2, tt))

pick_read : (rounds uses : ℕ) → rounds ≤ 4200 → (p : OrderedPick) → IsValidPick rounds uses p → IsRead (pick_tree p)
pick_read rounds uses few p h =
    list_read (whole_tree p.round ∷ whole_tree p.class ∷ whole_tree p.shared ∷ [])
    (whole_read p.round (omega (arith, h.1)), (whole_read p.class (omega (arith, h.2)), (whole_read p.shared (omega (arith, h.4)), tt)))

vlan_read : (v : Vlan) → IsVlan v → IsRead (vlan_tree v)
vlan_read vlan.Untagged h = text_read (codes "untagged")
vlan_read (vlan.Id id) h = whole_read id (omega (arith, h.1))

label_read : (l : Label) → IsVlan l.vlan × IsVlan l.user → IsRead (label_tree l)
label_read l h =
    list_read (vlan_tree l.vlan ∷ string (version_text l.new) ∷ vlan_tree l.user ∷ []) (vlan_read l.vlan h.0, (text_read (version_text l.new), (vlan_read l.user h.1, tt)))

table_read : (t : List Label) → IsValidTable t → IsRead (table_tree t)
table_read t h = map_read label_tree (λ l. IsVlan l.vlan × IsVlan l.user) label_read t h.0

label_pick_read : (rounds tables : ℕ) → rounds ≤ 4200 → (p : LabelPick) → IsValidLabelPick rounds tables p → IsRead (label_pick_tree p)
label_pick_read rounds tables few p h =
    list_read (whole_tree p.round ∷ whole_tree p.labels ∷ []) (whole_read p.round (omega (arith, h.1)), (whole_read p.labels (omega (arith, h.3)), tt))

-- ---- plans

module _ (net : Network) (rules : List PlanRule) (rounds : List (List Change)) (few_rules : length rules ≤ 2200000) (in_range : AllByRecursion (IsInRange net) rules) (few_rounds : length rounds ≤ 4200) where
  objects_read : IsRead (list_tree (map (rule_tree net) rules))
  objects_read = map_read (rule_tree net) (IsInRange net) (rule_read net) rules in_range

  pub ordered_read : (e : OrderedEvidence) → switch_count net ≤ most_switches → length e.befores < 2 ^ 64 → IsValidOrdered net (length rounds) e → IsRead (object (ordered_members net rules rounds e))
  ordered_read e switches few h =
      let each : AreRead (ordered_members net rules rounds e) = (
        map_read numbers_tree (IsValidBefore net) (before_read net switches) e.befores h.befores,
        (
          whole_read 2 (omega arith),
          (
            text_read (codes "ordered"),
            (
              map_read numbers_tree (IsValidNumbering net) (numbering_read net) e.numberings h.numberings,
              (
                map_read pick_tree (IsValidPick (length rounds) (length e.uses)) (pick_read (length rounds) (length e.uses) few_rounds) e.picks h.picks,
                (
                  rounds_read rules few_rules rounds,
                  (
                    objects_read,
                    (map_read use_tree (IsValidUse (length e.numberings) (length e.befores)) (use_read (length e.numberings) (length e.befores) few) e.uses h.uses, tt),
                  ),
                ),
              ),
            ),
          ),
        ),
      ) in
      object_read (ordered_members net rules rounds e) (members_read (ordered_members net rules rounds e) no_members each)

  pub two_phase_read : (e : TwoPhaseEvidence) → IsValidTwoPhase net (length rounds) (sum_by length rounds) e → IsRead (object (two_phase_members net rules rounds e))
  two_phase_read e h =
      let each : AreRead (two_phase_members net rules rounds e) = (
        whole_read 2 (omega arith),
        (
          text_read (codes "two-phase"),
          (
            map_read table_tree IsValidTable table_read e.labels h.labels,
            (
              map_read label_pick_tree (IsValidLabelPick (length rounds) (length e.labels)) (label_pick_read (length rounds) (length e.labels) few_rounds) e.picks h.picks,
              (
                rounds_read rules few_rules rounds,
                (
                  objects_read,
                  (rounds_read rules few_rules e.tried, tt),
                ),
              ),
            ),
          ),
        ),
      ) in
      object_read (two_phase_members net rules rounds e) (members_read (two_phase_members net rules rounds e) no_members each)

-- ---- the bytes of a writer

mutual
  outline_shallow : (d : Data) (n : ℕ) → depth d ≤ n → tree.depth (outline d) ≤ n
  outline_shallow null n h = h
  outline_shallow (boolean b) n h = h
  outline_shallow (number x) n h = h
  outline_shallow (string s) n h = h
  outline_shallow (array ds) n h = let inside = items_shallow ds (items_depth ds) (omega arith) in omega arith
  outline_shallow (object ms) n h = let inside = members_shallow ms (members_depth ms) (omega arith) in omega arith

  items_shallow : (ds : Items) (n : ℕ) → items_depth ds ≤ n → tree.items_depth (items_outline ds) ≤ n
  items_shallow no_items n h = h
  items_shallow (item d ds) n h = let first = outline_shallow d n (omega arith) in let rest = items_shallow ds n (omega arith) in omega arith

  members_shallow : (ms : Members) (n : ℕ) → members_depth ms ≤ n → tree.members_depth (members_outline ms) ≤ n
  members_shallow no_members n h = h
  members_shallow (member k d ms) n h = let first = outline_shallow d n (omega arith) in let rest = members_shallow ms n (omega arith) in omega arith

-- it has written the value, and nothing else
module _ (start w : Written) (d : Data) (before : start.before ≡ []) (none : start.tokens ≡ []) (adds : Adds start w (tokens_of d)) where
  tokens_are : w.tokens ≡ tokens_of d
  tokens_are = adds.tokens ∙ ap (λ ts. ts ++ tokens_of d) none

  nothing_before : w.before ≡ []
  nothing_before = adds.before ∙ before

  pub bytes_are : w.before ++ print w.tokens ≡ compact_text d
  bytes_are = ap (λ (s : List ℕ). s ++ print w.tokens) nothing_before ∙ ap print tokens_are ∙ print-outline d

  pub tree_is : tokens (print w.tokens) ≡ w.tokens → IsUtf8 (print w.tokens) → IsRead d → depth d ≤ 127 → tree_in ((w.before ++ print w.tokens) ++ 10 ∷ []) ≡ Some d
  tree_is same utf8 h shallow =
      let text : w.before ++ print w.tokens ≡ print w.tokens = ap (λ (s : List ℕ). s ++ print w.tokens) nothing_before in
      let found : tokens (print w.tokens) ≡ tokens_of d ++ [] = same ∙ tokens_are ∙ sym (append-nil (tokens_of d)) in
      let reads : read (print w.tokens) ≡ Some d = rw (found, value-json_tokens (outline d) max_depth [] (outline_shallow d 127 shallow)) h.again in
      ap (λ (s : List ℕ). tree_in (s ++ 10 ∷ [])) text ∙ tree_in-line_end (print w.tokens) d (ap print (sym same)) utf8 reads
