-- A rule that was read is one that a user may write.
use Rattle.std.proofs.Common.{◌≡◌, ℕ, ◌≤◌, ◌&&◌, true, false, Ok, List, refl, sym, ap, subst, arith}
use Rattle.std.specs.Prelude.{Option, Some, None, IfSome, not, nat_le, codes, if◌then◌else◌}
use Rattle.std.specs.List.{list_any}
use Rattle.std.proofs.lemmas.Bool.{false≢true, and_parts, and_from, eqb-true, leb-true, le-leb, not-true, both_ways}
use Rattle.std.proofs.lemmas.Option.{option_and_then_some, cond_some}
use Rattle.serde_json.specs.Data.{Data}
use Rattle.serde_json.specs.Find.{get}
use Rattle.net_base.specs.Blocks.{Block, IsBlock}
use Rattle.net_base.specs.Members.{IsIn}
use Rattle.net_base.specs.Reading.{◌>>=◌, check, need}
use Rattle.net_base.specs.Text.{prefix_in, is_based}
use Rattle.flat_json.specs.JsonTree.{whole_in, whole_at, text_at}
use Rattle.net_base.specs.declared.ids.SwitchId.{SwitchId}
use Rattle.net_base.specs.declared.ids.Port.{Port}
use Rattle.net_base.specs.declared.ids.Vlan.{Vlan}
use Rattle.net_base.specs.declared.ids.Vlan.TheVariants as vlan
use Rattle.net_base.specs.declared.field.Field.{Field}
use Rattle.net_base.specs.declared.field.Field.TheVariants as field
use Rattle.net_base.proofs.Turns.{bind_ok, ok_is}
use Rattle.net_base.proofs.Prefixes.{address_in-some}
use Rattle.net_base.proofs.Decimals.{decimal_in-some}
use Rattle.net_base.proofs.ListLaws.{in_from_any}
use Rattle.topology.specs.Networks.{Network, TagRange, IsUsed, IsAvailableTag, is_used, is_tag, in_range, vlan_eq}
use Rattle.flow_rules.specs.declared.rules.VlanTest.{VlanTest}
use Rattle.flow_rules.specs.declared.rules.VlanTest.TheVariants as test
use Rattle.flow_rules.specs.declared.rules.Pattern.{Pattern}
use Rattle.flow_rules.specs.declared.rules.Action.{Action}
use Rattle.flow_rules.specs.declared.rules.Rule.{Rule}
use Rattle.path_walk.specs.UserConfigs.{IsUserPort, IsUserVlan, IsUserAction, IsUserRule}
use Rattle.config_files.specs.declared.fault.ConfigFault.TheVariants.{Shape, BadPriority, BadPort, BadVlan, ReservedVlan, BadPrefix}
use Rattle.config_files.specs.Configuration.{is_text, port_in, some_port, port_or, in_port_in, id_in, vlan_in, action_by, priority_in, dst_in, pattern_in, action_in, rule_in}
use Rattle.config_files.proofs.Ports.{used_shown}
use Rattle.config_files.proofs.Steps.{need_is, need_passed, check_passed}

-- ---- prefixes

pub block_read : (s : List ℕ) (b : Block) → prefix_in s ≡ Some b → IsBlock b
unfolding prefix_in
block_read s b e =
    option_and_then_some _ _ b e (λ (p : List ℕ × List ℕ) hp e1.
    option_and_then_some _ _ b e1 (λ (a : ℕ) ha e2.
    option_and_then_some _ _ b e2 (λ (l : ℕ) hl e3.
    let t = cond_some (is_based a l) (record { base = a; len = l }) b e3 in
    let da = address_in-some p.0 a ha in
    let dl = decimal_in-some p.1 32 l (omega arith) hl in
    let block : Block = record { base = a; len = l } in
    let is : IsBlock block = record { length = dl.1; base = da.1; aligned = eqb-true _ 0 t.0 } in
    subst IsBlock t.1 is)))

-- ---- ports

port_shown : (field : Field) (place : ℕ) (net : Network) (s : SwitchId) (d : Data) (p : Port) → port_in field place net s d ≡ Ok p → IsUsed net (record { switch = s; port = p })
unfolding port_in
port_shown field place net s d p e =
    let (n, there, e1) = need_passed (whole_in d) (Shape field place) (λ number. check (is_used net (record { switch = s; port = record { 0 = number } })) (BadPort place) >>= λ _. Ok (record { 0 = number })) p e in
    let (used, e2) = check_passed (is_used net (record { switch = s; port = record { 0 = n } })) (BadPort place) (Ok (record { 0 = n })) p e1 in
    let is = ok_is (record { 0 = n }) p e2 in
    subst (λ (q : Port). IsUsed net (record { switch = s; port = q })) is (used_shown net (record { switch = s; port = record { 0 = n } }) used)

some_port_shown : (field : Field) (place : ℕ) (net : Network) (s : SwitchId) (d : Data) (o : Option Port) → some_port field place net s d ≡ Ok o → IsUserPort net s o
unfolding some_port
some_port_shown field place net s d o e =
    let (p, read, e1) = bind_ok (port_in field place net s d) (λ port. Ok (Some port)) o e in
    subst (IsUserPort net s) (ok_is (Some p) o e1) (port_shown field place net s d p read)

port_or_shown : (word : List ℕ) (field : Field) (place : ℕ) (net : Network) (s : SwitchId) (d : Data) (o : Option Port) → port_or word field place net s d ≡ Ok o → IsUserPort net s o
port_or_shown word field place net s d o e =
    elim (is_text word d) as (λ b. (if b then Ok None else some_port field place net s d) ≡ Ok o → IsUserPort net s o) [
      | true ↦ λ f. subst (IsUserPort net s) (ok_is None o f) tt
      | false ↦ λ f. some_port_shown field place net s d o f
    ] e

in_port_shown : (place : ℕ) (net : Network) (s : SwitchId) (d : Option Data) (o : Option Port) → in_port_in place net s d ≡ Ok o → IsUserPort net s o
in_port_shown place net s None o e = subst (IsUserPort net s) (ok_is None o e) tt
in_port_shown place net s (Some d) o e = port_or_shown (codes "any") field.InPort place net s d o e

user_action : (net : Network) (s : SwitchId) (o : Option Port) → IsUserPort net s o → IsUserAction net s (action_by o)
user_action net s None used = tt
user_action net s (Some p) used = (used, refl)

-- ---- VLANs

same_vlan : (id : ℕ) (v : Vlan) → vlan_eq (vlan.Id id) v ≡ true → v ≡ vlan.Id id
same_vlan id vlan.Untagged e = absurd (false≢true e)
same_vlan id (vlan.Id n) e = ap vlan.Id (sym (eqb-true id n e))

in_range_from : (range : Option TagRange) (id : ℕ) → IfSome range (λ t. (t.first ≤ id) × (id ≤ t.last)) → ¬ (range ≡ None) → in_range range id ≡ true
in_range_from None id h some = absurd (some refl)
in_range_from (Some t) id h some = and_from _ _ (le-leb t.first id h.0) (le-leb id t.last h.1)

-- an id that the test passes is no available tag
tag_missed : (net : Network) (id : ℕ) → not (is_tag net id) ≡ true → ¬ IsAvailableTag net id
tag_missed net id e tag =
    let ranged = in_range_from net.tags id tag.in_range tag.some_range in
    elim (list_any (vlan_eq (vlan.Id id)) net.vlans) as (λ b. list_any (vlan_eq (vlan.Id id)) net.vlans ≡ b → ⊥) [
      | true ↦ λ f. (let (v, i, same) = in_from_any (vlan_eq (vlan.Id id)) net.vlans f in tag.undeclared (subst (λ w. IsIn w net.vlans) (same_vlan id v same) i))
      | false ↦ λ f. both_ways (is_tag net id) (not-true (is_tag net id) e) (and_from (in_range net.tags id) (not (list_any (vlan_eq (vlan.Id id)) net.vlans)) ranged (ap not f))
    ] refl

id_shown : (place : ℕ) (net : Network) (d : Data) (t : VlanTest) → id_in place net d ≡ Ok t → IsUserVlan net t
unfolding id_in
id_shown place net d t e =
    let (id, there, e1) = need_passed (whole_in d) (Shape field.Vlan place)
    (λ id. check (nat_le 1 id && nat_le id 4094) (BadVlan place) >>= λ _. check (not (is_tag net id)) (ReservedVlan place) >>= λ _. Ok (test.Id id)) t e in
    let (within, e2) = check_passed (nat_le 1 id && nat_le id 4094) (BadVlan place) (check (not (is_tag net id)) (ReservedVlan place) >>= λ _. Ok (test.Id id)) t e1 in
    let (free, e3) = check_passed (not (is_tag net id)) (ReservedVlan place) (Ok (test.Id id)) t e2 in
    let (low, high) = and_parts (nat_le 1 id) (nat_le id 4094) within in
    subst (IsUserVlan net) (ok_is (test.Id id) t e3) ((leb-true 1 id low, leb-true id 4094 high), tag_missed net id free)

vlan_shown : (place : ℕ) (net : Network) (d : Option Data) (t : VlanTest) → vlan_in place net d ≡ Ok t → IsUserVlan net t
vlan_shown place net None t e = subst (IsUserVlan net) (ok_is test.Any t e) tt
vlan_shown place net (Some d) t e =
    elim (is_text (codes "any") d) as (λ b. (if b then Ok test.Any else (if is_text (codes "untagged") d then Ok test.Untagged else id_in place net d)) ≡ Ok t → IsUserVlan net t) [
      | true ↦ λ f. subst (IsUserVlan net) (ok_is test.Any t f) tt
      | false ↦ λ f. elim (is_text (codes "untagged") d) as (λ b. (if b then Ok test.Untagged else id_in place net d) ≡ Ok t → IsUserVlan net t) [
        | true ↦ λ g. subst (IsUserVlan net) (ok_is test.Untagged t g) tt
        | false ↦ λ g. id_shown place net d t g
      ] f
    ] e

-- ---- the parts of a rule

priority_shown : (place : ℕ) (d : Data) (n : ℕ) → priority_in place d ≡ Ok n → (1 ≤ n) × (n ≤ 16383)
unfolding priority_in
priority_shown place d n e =
    let (priority, there, e1) = need_passed (whole_at (codes "priority") d) (Shape field.Priority place) (λ k. check (nat_le 1 k && nat_le k 16383) (BadPriority place) >>= λ _. Ok k) n e in
    let (within, e2) = check_passed (nat_le 1 priority && nat_le priority 16383) (BadPriority place) (Ok priority) n e1 in
    let (low, high) = and_parts (nat_le 1 priority) (nat_le priority 16383) within in
    subst (λ (k : ℕ). (1 ≤ k) × (k ≤ 16383)) (ok_is priority n e2) (leb-true 1 priority low, leb-true priority 16383 high)

dst_shown : (place : ℕ) (d : Data) (b : Block) → dst_in place d ≡ Ok b → IsBlock b
unfolding dst_in
dst_shown place d b e =
    let (text, there, e1) = need_passed (text_at (codes "dst") d) (Shape field.Dst place) (λ text. need (prefix_in text) (BadPrefix place)) b e in
    block_read text b (need_is (prefix_in text) (BadPrefix place) b e1)

record IsUserPattern (net : Network) (s : SwitchId) (p : Pattern) : Type 0 where
  pub port : IsUserPort net s p.in_port
  pub vlan : IsUserVlan net p.vlan
  pub dst : IsBlock p.dst

pattern_shown : (place : ℕ) (net : Network) (s : SwitchId) (d : Data) (p : Pattern) → pattern_in place net s d ≡ Ok p → IsUserPattern net s p
unfolding pattern_in
pattern_shown place net s d p e =
    let made : Option Port → VlanTest → Block → Pattern = λ in_port vlan dst. record { in_port = in_port; vlan = vlan; dst = dst } in
    let (in_port, port_read, e1) = bind_ok (in_port_in place net s (get (codes "in_port") d)) (λ o. vlan_in place net (get (codes "vlan") d) >>= λ t. dst_in place d >>= λ b. Ok (made o t b)) p e in
    let (vlan, vlan_read, e2) = bind_ok (vlan_in place net (get (codes "vlan") d)) (λ t. dst_in place d >>= λ b. Ok (made in_port t b)) p e1 in
    let (dst, dst_read, e3) = bind_ok (dst_in place d) (λ b. Ok (made in_port vlan b)) p e2 in
    subst (IsUserPattern net s) {x = made in_port vlan dst} (ok_is (made in_port vlan dst) p e3) (record {
      port = in_port_shown place net s (get (codes "in_port") d) in_port port_read;
      vlan = vlan_shown place net (get (codes "vlan") d) vlan vlan_read;
      dst = dst_shown place d dst dst_read;
    })

action_shown : (place : ℕ) (net : Network) (s : SwitchId) (d : Data) (a : Action) → action_in place net s d ≡ Ok a → IsUserAction net s a
unfolding action_in
action_shown place net s d a e =
    let (out, there, e1) = need_passed (get (codes "out") d) (Shape field.Out place) (λ out. port_or (codes "drop") field.Out place net s out >>= λ o. Ok (action_by o)) a e in
    let (port, read, e2) = bind_ok (port_or (codes "drop") field.Out place net s out) (λ o. Ok (action_by o)) a e1 in
    subst (IsUserAction net s) (ok_is (action_by port) a e2) (user_action net s port (port_or_shown (codes "drop") field.Out place net s out port read))

-- ---- the rule

pub rule_shown : (place : ℕ) (net : Network) (s : SwitchId) (d : Data) (r : Rule) → rule_in place net s d ≡ Ok r → IsUserRule net s r
unfolding rule_in
rule_shown place net s d r e =
    let made : ℕ → Pattern → Action → Rule = λ priority pattern action. record { key = record { priority = priority; pattern = pattern }; action = action } in
    let (priority, priority_read, e1) = bind_ok (priority_in place d) (λ n. pattern_in place net s d >>= λ p. action_in place net s d >>= λ a. Ok (made n p a)) r e in
    let (pattern, pattern_read, e2) = bind_ok (pattern_in place net s d) (λ p. action_in place net s d >>= λ a. Ok (made priority p a)) r e1 in
    let (action, action_read, e3) = bind_ok (action_in place net s d) (λ a. Ok (made priority pattern a)) r e2 in
    let (low, high) = priority_shown place d priority priority_read in
    let user = pattern_shown place net s d pattern pattern_read in
    subst (IsUserRule net s) {x = made priority pattern action} (ok_is (made priority pattern action) r e3) (record {
      above = low;
      below = high;
      port = user.port;
      vlan = user.vlan;
      dst = user.dst;
      action = action_shown place net s d action action_read;
    })
