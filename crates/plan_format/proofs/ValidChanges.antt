-- The rules, changes and rounds that are read are in range.
use Rattle.std.proofs.Common.{◌≡◌, ℕ, suc, ◌+◌, ◌-◌, ◌%◌, ◌<◌, ◌≤◌, ◌^◌, Bool, true, false, List, [], ◌∷◌, ◌++◌, length, Option, Some, None, Ok, refl, sym, ap, subst, ◌∙◌, arith}
use Rattle.std.specs.Prelude.{sum_by, slice_get, option_and_then, ◌&&◌, nat_le, nat_lt, codes}
use Rattle.std.specs.List.{AllByRecursion}
use Rattle.std.proofs.lemmas.Bool.{and_parts, leb-true, ltb-true, eqb-true}
use Rattle.std.proofs.lemmas.Option.{option_and_then_some, cond_some, same_Some}
use Rattle.std.proofs.lemmas.List.Quantifiers.{position-Some}
use Rattle.std.proofs.lemmas.List.Sums.{sum_by_push}
use Rattle.serde_json.specs.Data.{Data}
use Rattle.serde_json.specs.Find.{get}
use Rattle.net_base.specs.declared.field.Field.{Field}
use Rattle.net_base.specs.declared.field.Field.TheVariants as field
use Rattle.net_base.specs.declared.ids.Port.{Port}
use Rattle.net_base.specs.Blocks.{Block, IsBlock}
use Rattle.net_base.specs.Fields.{field_name}
use Rattle.net_base.specs.Reading.{check, need, in_turn, place_of}
use Rattle.net_base.specs.Text.{prefix_in, is_based}
use Rattle.flat_json.specs.JsonTree.{is_object, text_at, whole_at, list_in, list_at}
use Rattle.net_base.proofs.Prefixes.{address_in-some}
use Rattle.net_base.proofs.Decimals.{decimal_in-some}
use Rattle.net_base.proofs.Turns.{ok_is, in_turn-keeps}
use Rattle.topology.specs.Networks.{Network, switch_count, switch_named, is_vlan_id}
use Rattle.flow_rules.specs.declared.rules.VlanTest.{VlanTest}
use Rattle.flow_rules.specs.declared.rules.VlanTest.TheVariants as test
use Rattle.flow_rules.specs.declared.rules.Rewrite.{Rewrite}
use Rattle.flow_rules.specs.declared.rules.Rewrite.TheVariants.{Set}
use Rattle.flow_rules.specs.declared.rules.Action.{Action}
use Rattle.flow_rules.specs.declared.rules.Action.TheVariants.{Out}
use Rattle.update_model.specs.Ranges.{IsPlanPort, IsPlanVlan, IsPlanRewrite, IsPlanAction, IsPlanChange}
use Rattle.update_model.specs.declared.Change.{Change}
use Rattle.plan_format.specs.declared.rules.TestWord.{TestWord}
use Rattle.plan_format.specs.declared.rules.TestWord.TheVariants as word
use Rattle.plan_format.specs.declared.rules.RuleWords.{RuleWords}
use Rattle.plan_format.specs.declared.rules.PlanRule.{PlanRule}
use Rattle.plan_format.specs.declared.changes.ChangeKind.{ChangeKind}
use Rattle.plan_format.specs.declared.changes.ChangeKind.TheVariants.{Insert, Delete, Replace}
use Rattle.plan_format.specs.declared.changes.Spelling.{Spelling}
use Rattle.plan_format.specs.declared.changes.Spelling.TheVariants.{Objects, Numbers}
use Rattle.plan_format.specs.declared.fault.PlanFault.{PlanFault}
use Rattle.plan_format.specs.declared.fault.PlanFault.TheVariants.{Shape, UnknownSwitch, BadRule, BadIndex, TooMany}
use Rattle.plan_format.specs.Changes.{in_port_word, vlan_word, out_word, set_word, strip_word, is_port, port_choice, test_of, rewrite_of, output_of, drop_of, action_of, rule_of, rule_in, kind_of, change_of, object_change, kind_and_number, numbered_change, change_in, change_at, round_in, round_at, rounds_in, rule_at, rules_in}
use Rattle.plan_format.proofs.ReadLaws.{step, needed, checked, each_push, each_got, length_push, one_for_each}

-- ---- rules

-- a rule of a switch of the network, with numbers in range
pub record IsRule (net : Network) (r : PlanRule) : Type 0 where
  pub switch : r.switch.0 < switch_count net
  pub priority : 1 ≤ r.rule.key.priority
  pub most : r.rule.key.priority ≤ 65535
  pub port : IsPlanPort r.rule.key.pattern.in_port
  pub vlan : IsPlanVlan r.rule.key.pattern.vlan
  pub dst : IsBlock r.rule.key.pattern.dst
  pub action : IsPlanAction r.rule.action

block_is : (s : List ℕ) (b : Block) → prefix_in s ≡ Some b → IsBlock b
unfolding prefix_in
block_is s b e =
    let small : 32 < 2 ^ 64 = omega arith in
    option_and_then_some {A = List ℕ × List ℕ} _ _ b e (λ p hp e1.
    option_and_then_some {A = ℕ} _ _ b e1 (λ a ha e2.
    option_and_then_some {A = ℕ} _ _ b e2 (λ l hl e3.
    let t = cond_some (is_based a l) (record { base = a; len = l }) b e3 in
    let base = (address_in-some p.0 a ha).1 in
    let len = (decimal_in-some p.1 32 l small hl).1 in
    let based = eqb-true (a % 2 ^ (32 - l)) 0 t.0 in
    subst IsBlock t.1 (record { length = len; base = base; aligned = based }))))

port_is : (n : Option ℕ) (p : Option Port) → port_choice n ≡ Some p → IsPlanPort p
port_is None p e = subst IsPlanPort (same_Some _ _ e) tt
port_is (Some n) p e =
    let h = cond_some (is_port n) (Some (record { 0 = n })) p e in
    let parts = and_parts (nat_le 1 n) (nat_le n 65279) h.0 in
    subst IsPlanPort h.1 (leb-true 1 n parts.0, leb-true n 65279 parts.1)

test_is : (w : TestWord) (t : VlanTest) → test_of w ≡ Some t → IsPlanVlan t
test_is word.Any t e = subst IsPlanVlan (same_Some _ _ e) tt
test_is word.Untagged t e = subst IsPlanVlan (same_Some _ _ e) tt
test_is (word.Number n) t e =
    let h = cond_some (is_vlan_id n) (test.Id n) t e in
    let parts = and_parts (nat_le 1 n) (nat_le n 4094) h.0 in
    subst IsPlanVlan h.1 (leb-true 1 n parts.0, leb-true n 4094 parts.1)

rewrite_is : (set : Option ℕ) (strip : Bool) (r : Rewrite) → rewrite_of set strip ≡ Some r → IsPlanRewrite r
rewrite_is None false r e = subst IsPlanRewrite (same_Some _ _ e) tt
rewrite_is None true r e = subst IsPlanRewrite (same_Some _ _ e) tt
rewrite_is (Some id) false r e =
    let h = cond_some (is_vlan_id id) (Set id) r e in
    let parts = and_parts (nat_le 1 id) (nat_le id 4094) h.0 in
    subst IsPlanRewrite h.1 (leb-true 1 id parts.0, leb-true id 4094 parts.1)
rewrite_is (Some id) true r e = absurd cc

output_is : (port : ℕ) (o : Option Rewrite) (a : Action) → ((r : Rewrite) → o ≡ Some r → IsPlanRewrite r) → output_of port o ≡ Some a → IsPlanAction a
output_is port None a good e = absurd cc
output_is port (Some rewrite) a good e =
    let h = cond_some (is_port port) (Out (record { 0 = port }) rewrite) a e in
    let parts = and_parts (nat_le 1 port) (nat_le port 65279) h.0 in
    subst IsPlanAction h.1 ((leb-true 1 port parts.0, leb-true port 65279 parts.1), good rewrite refl)

drop_is : (set : Option ℕ) (strip : Bool) (a : Action) → drop_of set strip ≡ Some a → IsPlanAction a
drop_is None false a e = subst IsPlanAction (same_Some _ _ e) tt
drop_is None true a e = absurd cc
drop_is (Some id) strip a e = absurd cc

action_is : (out set : Option ℕ) (strip : Bool) (a : Action) → action_of out set strip ≡ Some a → IsPlanAction a
action_is None set strip a e = drop_is set strip a e
action_is (Some port) set strip a e = output_is port (rewrite_of set strip) a (λ r h. rewrite_is set strip r h) e

module _ (net : Network) where
  ranges_are : (place : ℕ) (w : RuleWords) (r : PlanRule) → w.switch.0 < switch_count net → ((b : Block) → w.dst ≡ Some b → IsBlock b) → rule_of place w ≡ Ok r → IsRule net r
  unfolding rule_of
  ranges_are place w r low block e =
      step (check (nat_le 1 w.priority && nat_le w.priority 65535) (BadRule place)) _ r e (λ _ h0 e0.
      step (need (port_choice w.in_port) (BadRule place)) _ r e0 (λ in_port h1 e1.
      step (need (test_of w.vlan) (BadRule place)) _ r e1 (λ vlan h2 e2.
      step (need w.dst (BadRule place)) _ r e2 (λ dst h3 e3.
      step (need (action_of w.out w.set w.strip) (BadRule place)) _ r e3 (λ action h4 e4.
      let p = and_parts (nat_le 1 w.priority) (nat_le w.priority 65535) (checked (nat_le 1 w.priority && nat_le w.priority 65535) (BadRule place) tt h0) in
      let one : PlanRule = record { switch = w.switch; rule = record { key = record { priority = w.priority; pattern = record { in_port = in_port; vlan = vlan; dst = dst } }; action = action } } in
      subst (IsRule net) (ok_is {E = PlanFault} one r e4) (record {
        switch = low;
        priority = leb-true 1 w.priority p.0;
        most = leb-true w.priority 65535 p.1;
        port = port_is w.in_port in_port (needed (port_choice w.in_port) (BadRule place) in_port h1);
        vlan = test_is w.vlan vlan (needed (test_of w.vlan) (BadRule place) vlan h2);
        dst = block dst (needed w.dst (BadRule place) dst h3);
        action = action_is w.out w.set w.strip action (needed (action_of w.out w.set w.strip) (BadRule place) action h4);
      }))))))

  pub rule_is : (place : ℕ) (d : Data) (r : PlanRule) → rule_in net place d ≡ Ok r → IsRule net r
  unfolding rule_in
  rule_is place d r e =
      step (need (text_at (codes "switch") d) (Shape field.Switch place)) _ r e (λ name h0 e0.
      step (need (switch_named net.names name) (UnknownSwitch place)) _ r e0 (λ switch h1 e1.
      step (need (whole_at (codes "priority") d) (Shape field.Priority place)) _ r e1 (λ priority h2 e2.
      step (need (in_port_word (get (codes "in_port") d)) (Shape field.InPort place)) _ r e2 (λ in_port h3 e3.
      step (need (vlan_word (get (codes "vlan") d)) (Shape field.Vlan place)) _ r e3 (λ vlan h4 e4.
      step (need (text_at (codes "dst") d) (Shape field.Dst place)) _ r e4 (λ dst h5 e5.
      step (need (out_word (get (codes "out") d)) (Shape field.Out place)) _ r e5 (λ out h6 e6.
      step (need (set_word (get (codes "set") d)) (Shape field.Set place)) _ r e6 (λ set h7 e7.
      step (need (strip_word (get (codes "strip") d)) (Shape field.Strip place)) _ r e7 (λ strip h8 e8.
      ranges_are place _ r (position-Some _ net.names switch [] (needed (switch_named net.names name) (UnknownSwitch place) switch h1)).0 (λ b h. block_is dst b h) e8)))))))))

  change_is : (kind : ChangeKind) (r : PlanRule) → IsRule net r → IsPlanChange net (change_of kind r)
  change_is Insert r h = record { switch = h.switch; priority = h.priority; priority_most = h.most; port = h.port; vlan = h.vlan; dst = h.dst; action = h.action }
  change_is Delete r h = record { switch = h.switch; priority = h.priority; priority_most = h.most; port = h.port; vlan = h.vlan; dst = h.dst; action = h.action }
  change_is Replace r h = record { switch = h.switch; priority = h.priority; priority_most = h.most; port = h.port; vlan = h.vlan; dst = h.dst; action = h.action }

  object_is : (list : Field) (place : ℕ) (d : Data) (c : Change) → object_change net list place d ≡ Ok c → IsPlanChange net c
  unfolding object_change
  object_is list place d c e =
      step (check (is_object d) (Shape list place)) _ c e (λ _ h0 e0.
      step (need (option_and_then kind_of (text_at (codes "do") d)) (Shape field.Do place)) _ c e0 (λ kind h1 e1.
      step (rule_in net place d) _ c e1 (λ rule h2 e2.
      subst (IsPlanChange net) (ok_is {E = PlanFault} (change_of kind rule) c e2) (change_is kind rule (rule_is place d rule h2)))))

  numbered_is : (rules : List PlanRule) (list : Field) (place : ℕ) (d : Data) (c : Change) → AllByRecursion (IsRule net) rules → numbered_change rules list place d ≡ Ok c → IsPlanChange net c
  unfolding numbered_change
  numbered_is rules list place d c good e =
      step (need (option_and_then kind_and_number (list_in d)) (Shape list place)) _ c e (λ words h0 e0.
      step (need (slice_get rules words.1) (BadIndex place)) _ c e0 (λ rule h1 e1.
      let is = each_got (IsRule net) rules words.1 rule good (needed (slice_get rules words.1) (BadIndex place) rule h1) in
      subst (IsPlanChange net) (ok_is {E = PlanFault} (change_of words.0 rule) c e1) (change_is words.0 rule is)))

  -- the rules that changes name are in range
  abbrev pub IsSpelling : Spelling → Type 0
  IsSpelling Objects = Unit {0}
  IsSpelling (Numbers rules) = AllByRecursion (IsRule net) rules

  spelled_is : (spelling : Spelling) (list : Field) (place : ℕ) (d : Data) (c : Change) → IsSpelling spelling → change_in net spelling list place d ≡ Ok c → IsPlanChange net c
  spelled_is Objects list place d c good e = object_is list place d c e
  spelled_is (Numbers rules) list place d c good e = numbered_is rules list place d c good e

  next_rule : (place : ℕ) (before after : List PlanRule) (d : Data) → AllByRecursion (IsRule net) before → rule_at net place before d ≡ Ok after → AllByRecursion (IsRule net) after
  unfolding rule_at
  next_rule place before after d all e =
      step (check (nat_lt place 2200000) (TooMany field.Rules)) _ after e (λ _ h0 e0.
      step (check (is_object d) (Shape field.Rules place)) _ after e0 (λ _ h1 e1.
      step (rule_in net place d) _ after e1 (λ rule h2 e2.
      subst (AllByRecursion (IsRule net)) (ok_is {E = PlanFault} (before ++ rule ∷ []) after e2) (each_push (IsRule net) before rule all (rule_is place d rule h2)))))

  pub rules_are : (top : Data) (rules : List PlanRule) → rules_in net top ≡ Ok rules → AllByRecursion (IsRule net) rules
  unfolding rules_in
  rules_are top rules e =
      step (need (list_at (codes "rules") top) (Shape field.Rules 0)) _ rules e (λ items h0 e0.
      in_turn-keeps (rule_at net) (AllByRecursion (IsRule net)) (λ n s t d all h. next_rule n s t d all h) 0 [] rules items tt e0)

  -- ---- rounds

  module _ (spelling : Spelling) (list : Field) (good : IsSpelling spelling) where
    abbrev AreChanges : List Change → Type 0
    AreChanges changes = AllByRecursion (IsPlanChange net) changes

    next_change : (place : ℕ) (before after : List Change) (d : Data) → AreChanges before → change_at net spelling list place before d ≡ Ok after
        → AreChanges after × (length after ≡ length before + 1) × (place < 2200000)
    unfolding change_at
    next_change place before after d all e =
        step (check (nat_lt place 2200000) (TooMany list)) _ after e (λ _ h0 e0.
        step (change_in net spelling list place d) _ after e0 (λ change h1 e1.
        let is = ok_is {E = PlanFault} (before ++ change ∷ []) after e1 in
        (subst AreChanges is (each_push (IsPlanChange net) before change all (spelled_is spelling list place d change good h1)), sym (ap length is) ∙ length_push before change, ltb-true place 2200000 (checked (nat_lt place 2200000) (TooMany list) tt h0))))

    changes_are : (n : ℕ) (before after : List Change) (ds : List Data) → AreChanges before → in_turn (change_at net spelling list) n before ds ≡ Ok after
        → AreChanges after × (length after ≤ length before + (2200000 - n))
    unfolding in_turn
    changes_are n before after [] all e = let is = ok_is {E = PlanFault} before after e in (subst AreChanges is all, omega (arith, ap length is))
    changes_are n before after (d ∷ ds) all e =
        step (change_at net spelling list (place_of n) before d) (λ t. in_turn (change_at net spelling list) (suc n) t ds) after e (λ t h e1.
        let (one, longer, few) = next_change (place_of n) before t d all h in
        let (rest, bound) = changes_are (suc n) t after ds one e1 in
        (rest, omega (arith, longer, few, bound)))

    round_is : (place number : ℕ) (d : Data) (round : List Change) → round_in net spelling list place number d ≡ Ok round → AreChanges round × (length round ≤ 2200000 - number)
    unfolding round_in
    round_is place number d round e =
        step (need (list_in d) (Shape list place)) _ round e (λ items h0 e0.
        let (all, few) = changes_are number [] round items tt e0 in (all, omega (arith, few)))

    -- rounds in range, whose first change has this number
    pub record AreRounds (first : ℕ) (rounds : List (List Change)) : Type 0 where
      pub few : first + sum_by length rounds ≤ 2200000
      pub each : AllByRecursion AreChanges rounds

    next_round : (first place : ℕ) (before after : List (List Change)) (d : Data) → AreRounds first before → round_at net spelling list first place before d ≡ Ok after → AreRounds first after
    unfolding round_at
    next_round first place before after d all e =
        step (round_in net spelling list place (first + sum_by length before) d) _ after e (λ round h0 e0.
        let (one, few) = round_is place (first + sum_by length before) d round h0 in
        let sum = sum_by_push length before round in
        subst (AreRounds first) (ok_is {E = PlanFault} (before ++ round ∷ []) after e0) (record { few = omega (arith, sum, few, all.few); each = each_push AreChanges before round all.each one }))

    one_round : (first place : ℕ) (before after : List (List Change)) (d : Data) → round_at net spelling list first place before d ≡ Ok after → length after ≡ length before + 1
    unfolding round_at
    one_round first place before after d e =
        step (round_in net spelling list place (first + sum_by length before) d) _ after e (λ round h0 e0.
        sym (ap length (ok_is {E = PlanFault} (before ++ round ∷ []) after e0)) ∙ length_push before round)

    pub rounds_are : (most first : ℕ) (top : Data) (rounds : List (List Change)) → first ≤ 2200000 → rounds_in net spelling list most first top ≡ Ok rounds
        → AreRounds first rounds × (length rounds ≤ most)
    unfolding rounds_in
    rounds_are most first top rounds low e =
        step (need (list_at (field_name list) top) (Shape list 0)) _ rounds e (λ items h0 e0.
        step (check (nat_le (length items) most) (TooMany list)) _ rounds e0 (λ _ h1 e1.
        let many = leb-true (length items) most (checked (nat_le (length items) most) (TooMany list) tt h1) in
        let all = in_turn-keeps (round_at net spelling list first) (AreRounds first) (λ n s t d all h. next_round first n s t d all h) 0 [] rounds items (record { few = omega (arith, low); each = tt }) e1 in
        let count = one_for_each (round_at net spelling list first) (λ n s t d h. one_round first n s t d h) 0 [] rounds items e1 in
        (all, omega (arith, many, count))))
