-- The rule of an entry is one that a user may write.
use Rattle.std.proofs.Common.{◌≡◌, ◌&&◌, ◌||◌, ◌==◌, ℕ, ◌^◌, ◌<◌, ◌≤◌, Bool, true, false, cond, Result, Ok, refl, sym, ap, subst, ◌∙◌, inl, inr}
use Rattle.std.specs.Prelude.{Option, Some, None, not, nat_le}
use Rattle.std.proofs.lemmas.Bool.{and_parts, or_cases, leb-true, not-true, false≢true}
use Rattle.net_base.specs.Blocks.{IsBlock}
use Rattle.net_base.specs.Reading.{◌>>=◌, check, need}
use Rattle.net_base.specs.declared.ids.SwitchId.{SwitchId}
use Rattle.net_base.specs.declared.ids.Port.{Port}
use Rattle.net_base.proofs.Turns.{bind_ok, ok_is}
use Rattle.topology.specs.Networks.{Network, IsAvailableTag, is_tag, is_vlan_id}
use Rattle.topology.proofs.EntryLaws.{tag_found}
use Rattle.flow_rules.specs.declared.rules.Key.{Key}
use Rattle.flow_rules.specs.declared.rules.VlanTest.{VlanTest}
use Rattle.flow_rules.specs.declared.rules.VlanTest.TheVariants as test
use Rattle.flow_rules.specs.declared.rules.Rewrite.TheVariants.{Keep}
use Rattle.flow_rules.specs.declared.rules.Action.{Action}
use Rattle.flow_rules.specs.declared.rules.Action.TheVariants.{Discard, Out}
use Rattle.flow_rules.specs.declared.rules.Rule.{Rule}
use Rattle.openflow10.specs.Match.{any_vlan, vlan_in, vlan_none}
use Rattle.openflow10.specs.declared.ofp_match.MatchFields.{MatchFields}
use Rattle.path_walk.specs.UserConfigs.{IsUserPort, IsUserVlan, IsUserAction, IsUserRule}
use Rattle.config_files.proofs.Ports.{used_shown}
use Rattle.config_files.proofs.Steps.{need_passed, check_passed}
use Rattle.flow_stats.specs.Profile.{has_wildcards, has_in_port, has_vlan, has_priority, has_no_timeouts, key_in, action_of, profile_rule, is_port_used, is_action_used, is_reserved, has_used_ports, rule_in}
use Rattle.flow_stats.specs.declared.entries.Entry.{Entry}
use Rattle.flow_stats.specs.declared.entries.EntryActions.{EntryActions}
use Rattle.flow_stats.specs.declared.entries.EntryActions.TheVariants.{Empty, Output, Other}
use Rattle.flow_stats.specs.declared.fault.StatsFault.{StatsFault}
use Rattle.flow_stats.specs.declared.fault.StatsFault.TheVariants.{Profile, BadPort, ReservedVlan}
use Rattle.flow_stats.specs.declared.fault.StatsField.TheVariants.{Wildcards, InPort, Vlan, DlType, Priority, Timeouts, Actions}
use Rattle.flow_stats.proofs.Destinations.{dst_block}

-- what the tests of an entry's fields say of its rule
record IsProfiled (e : Entry) (r : Rule) : Type 0 where
  vlan : has_vlan e.fields.pattern ≡ true
  priority : has_priority e.fields ≡ true
  key : key_in e.fields ≡ r.key
  action : action_of e.actions ≡ Some r.action

module _ (place : ℕ) (e : Entry) where
  abbrev rule_by : Action → Rule
  rule_by a = record { key = key_in e.fields; action = a }

  abbrev after_timeouts : Result Rule StatsFault
  after_timeouts = need (action_of e.actions) (Profile place Actions) >>= λ a. Ok (rule_by a)

  abbrev after_priority : Result Rule StatsFault
  after_priority = check (has_no_timeouts e.fields) (Profile place Timeouts) >>= λ _. after_timeouts

  abbrev after_type : Result Rule StatsFault
  after_type = check (has_priority e.fields) (Profile place Priority) >>= λ _. after_priority

  abbrev after_vlan : Result Rule StatsFault
  after_vlan = check (e.fields.pattern.dl_type == 0x0800) (Profile place DlType) >>= λ _. after_type

  abbrev after_port : Result Rule StatsFault
  after_port = check (has_vlan e.fields.pattern) (Profile place Vlan) >>= λ _. after_vlan

  abbrev after_wildcards : Result Rule StatsFault
  after_wildcards = check (has_in_port e.fields.pattern) (Profile place InPort) >>= λ _. after_port

  profiled_shown : (r : Rule) → profile_rule place e ≡ Ok r → IsProfiled e r
  unfolding profile_rule
  profiled_shown r e0 =
      let (h1, e1) = check_passed (has_wildcards e.fields.pattern) (Profile place Wildcards) after_wildcards r e0 in
      let (h2, e2) = check_passed (has_in_port e.fields.pattern) (Profile place InPort) after_port r e1 in
      let (h3, e3) = check_passed (has_vlan e.fields.pattern) (Profile place Vlan) after_vlan r e2 in
      let (h4, e4) = check_passed (e.fields.pattern.dl_type == 0x0800) (Profile place DlType) after_type r e3 in
      let (h5, e5) = check_passed (has_priority e.fields) (Profile place Priority) after_priority r e4 in
      let (h6, e6) = check_passed (has_no_timeouts e.fields) (Profile place Timeouts) after_timeouts r e5 in
      let (a, there, e7) = need_passed (action_of e.actions) (Profile place Actions) (λ a. Ok (rule_by a)) r e6 in
      let same = ok_is (rule_by a) r e7 in
      record {
        vlan = h3;
        priority = h5;
        key = ap (λ (x : Rule). x.key) same;
        action = there ∙ ap (λ (x : Rule). Some x.action) same;
      }

-- ---- VLANs and actions

id_when : (b c : Bool) (n id : ℕ) → cond b test.Any (cond c test.Untagged (test.Id n)) ≡ test.Id id → (b ≡ false) × (c ≡ false) × (n ≡ id)
id_when true c n id e = absurd cc
id_when false true n id e = absurd cc
id_when false false n id e = (refl, refl, (let f : test.Id n ≡ test.Id id = e in cc))

-- an id that is tested is one from 1 to 4094
id_shown : (m : MatchFields) (id : ℕ) → has_vlan m ≡ true → vlan_in m ≡ test.Id id → (1 ≤ id) × (id ≤ 4094)
unfolding has_vlan
id_shown m id h is =
    let (not_any, tagged, same) = id_when (any_vlan m.wildcards) (m.dl_vlan == vlan_none) m.dl_vlan id is in
    let in_range : (nat_le 1 m.dl_vlan && nat_le m.dl_vlan 4094) ≡ true =
    elim (or_cases (any_vlan m.wildcards || (m.dl_vlan == vlan_none)) (nat_le 1 m.dl_vlan && nat_le m.dl_vlan 4094) h) [
      | inl f ↦ elim (or_cases (any_vlan m.wildcards) (m.dl_vlan == vlan_none) f) [
        | inl g ↦ absurd (false≢true (sym not_any ∙ g))
        | inr g ↦ absurd (false≢true (sym tagged ∙ g))
      ]
      | inr f ↦ f
    ] in
    let (low, high) = and_parts (nat_le 1 m.dl_vlan) (nat_le m.dl_vlan 4094) in_range in
    subst (λ (n : ℕ). (1 ≤ n) × (n ≤ 4094)) same (leb-true 1 m.dl_vlan low, leb-true m.dl_vlan 4094 high)

-- an id that the test passes is no available tag
tag_missed : (net : Network) (id : ℕ) → is_tag net id ≡ false → ¬ IsAvailableTag net id
tag_missed net id e tag = false≢true (sym e ∙ (tag_found net id).1 tag)

vlan_shown : (net : Network) (m : MatchFields) (t : VlanTest) → has_vlan m ≡ true → vlan_in m ≡ t → is_reserved net t ≡ false → IsUserVlan net t
vlan_shown net m test.Any h is free = tt
vlan_shown net m test.Untagged h is free = tt
vlan_shown net m (test.Id id) h is free = (id_shown m id h is, tag_missed net id free)

port_shown : (net : Network) (s : SwitchId) (o : Option Port) → is_port_used net s o ≡ true → IsUserPort net s o
port_shown net s None used = tt
port_shown net s (Some p) used = used_shown net (record { switch = s; port = p }) used

action_shown : (net : Network) (s : SwitchId) (x : EntryActions) (a : Action) → action_of x ≡ Some a → is_action_used net s a ≡ true → IsUserAction net s a
action_shown net s Empty Discard e used = tt
action_shown net s Empty (Out p w) e used = absurd (let f : Some Discard ≡ Some (Out p w) = e in cc)
action_shown net s (Output q) Discard e used = tt
action_shown net s (Output q) (Out p w) e used = (used_shown net (record { switch = s; port = p }) used, (let f : Some (Out q Keep) ≡ Some (Out p w) = e in cc))
action_shown net s Other a e used = absurd (let f : None ≡ Some a = e in cc)

-- ---- the rule

pub rule_shown : (net : Network) (place : ℕ) (s : SwitchId) (e : Entry) (r : Rule) → e.fields.pattern.nw_dst < 2 ^ 32 → rule_in net place s e ≡ Ok r → IsUserRule net s r
unfolding rule_in has_used_ports has_priority
rule_shown net place s e r below e0 =
    let (rule, read, e1) = bind_ok (profile_rule place e) (λ rule. check (has_used_ports net s rule) (BadPort place) >>= λ _. check (not (is_reserved net rule.key.pattern.vlan)) (ReservedVlan place) >>= λ _. Ok rule) r e0 in
    let (used, e2) = check_passed (has_used_ports net s rule) (BadPort place) (check (not (is_reserved net rule.key.pattern.vlan)) (ReservedVlan place) >>= λ _. Ok rule) r e1 in
    let (free, e3) = check_passed (not (is_reserved net rule.key.pattern.vlan)) (ReservedVlan place) (Ok rule) r e2 in
    let shown = profiled_shown place e rule read in
    let (port, action) = and_parts (is_port_used net s rule.key.pattern.in_port) (is_action_used net s rule.action) used in
    let (low, high) = and_parts (nat_le 1 e.fields.priority) (nat_le e.fields.priority 16383) shown.priority in
    let least = leb-true 1 e.fields.priority low in
    let most = leb-true e.fields.priority 16383 high in
    let priority : e.fields.priority ≡ rule.key.priority = ap (λ (k : Key). k.priority) shown.key in
    subst (IsUserRule net s) {x = rule} (ok_is rule r e3) (record {
      above = subst (λ (n : ℕ). 1 ≤ n) priority least;
      below = subst (λ (n : ℕ). n ≤ 16383) priority most;
      port = port_shown net s rule.key.pattern.in_port port;
      vlan = vlan_shown net e.fields.pattern rule.key.pattern.vlan shown.vlan (ap (λ (k : Key). k.pattern.vlan) shown.key) (not-true (is_reserved net rule.key.pattern.vlan) free);
      dst = subst IsBlock (ap (λ (k : Key). k.pattern.dst) shown.key) (dst_block e.fields.pattern below);
      action = action_shown net s e.actions rule.action shown.action action;
    })
