-- The rules of the plan have numbers in range.
use Rattle.std.proofs.Common.{◌≡◌, ℕ, ◌<◌, ◌≤◌, true, false, cond, List, [], ◌∷◌, refl, sym, subst, inl, inr, arith}
use Rattle.std.specs.Prelude.{◌==◌, filter, flat_map, Option, Some, None, IfSome}
use Rattle.std.specs.List.{AllByRecursion}
use Rattle.net_base.specs.Blocks.{IsBlock}
use Rattle.net_base.specs.Members.{IsIn}
use Rattle.net_base.proofs.MemberLaws.{each_at, in_append_left, in_from_map, in_from_filter, each_weaker}
use Rattle.net_base.specs.declared.ids.SwitchId.{SwitchId}
use Rattle.net_base.specs.declared.ids.Port.{Port}
use Rattle.net_base.specs.declared.ids.Stop.{Stop}
use Rattle.net_base.specs.declared.ids.Vlan.{Vlan}
use Rattle.net_base.specs.declared.ids.Vlan.TheVariants as vlan
use Rattle.topology.specs.Networks.{Network, IsNetwork, TagRange, IsVlan, IsVlanId, IsPortNumber, switch_count}
use Rattle.topology.specs.declared.net.Link.{Link}
use Rattle.flow_rules.specs.Tables.{rules_at}
use Rattle.flow_rules.specs.declared.rules.Rewrite.TheVariants.{Set}
use Rattle.flow_rules.specs.declared.rules.Action.{Action}
use Rattle.flow_rules.specs.declared.rules.Action.TheVariants.{Discard, Out}
use Rattle.flow_rules.specs.declared.rules.Rule.{Rule}
use Rattle.path_walk.specs.UserConfigs.{IsUserConfig, IsUserRule, IsUserAction}
use Rattle.update_model.specs.Changes.{rule_of}
use Rattle.update_model.specs.Ranges.{IsPlanVlan, IsPlanRewrite, IsPlanAction, IsPlanChange}
use Rattle.update_model.specs.declared.Change.{Change}
use Rattle.law_plan_rules.specs.PlanRules.{IsPlanRule}
use Rattle.law_plan_rules.proofs.UserRules.{keep_plan, change_plan, used_number, port_plan, rule_plan}
use Rattle.tag_allocator.specs.Tags.{Tagged, tags_of, available_tags}
use Rattle.tag_allocator.proofs.TagLaws.{tag_available}
use Rattle.table_difference.specs.SameClasses.{every_address}
use Rattle.two_phase.specs.TwoPhasePlan.{is_host, is_link, restore, test_of, tagged_action, ingress_action, tagged_rules, ingress_rules, hosts_of, layered_rounds}
use Rattle.two_phase.proofs.TagLaws.{paired_user, paired_tag}
use Rattle.two_phase.proofs.BandLaws.{tagged_cases, ingress_cases}
use Rattle.two_phase.proofs.OwnChanges.{IsOfPlan, IsAmong, all_of_plan}

every_block : IsBlock every_address
every_block = record { length = omega arith; base = omega arith; aligned = refl }

in_range_id : (tags : Option TagRange) (id : ℕ) → IfSome tags (λ t. IsVlanId t.first × IsVlanId t.last × (t.first ≤ t.last)) → IfSome tags (λ t. (t.first ≤ id) × (id ≤ t.last)) → ¬ (tags ≡ None) → IsVlanId id
in_range_id None id all within some = absurd (some refl)
in_range_id (Some t) id all within some = let (first, last, order) = all in let (low, high) = within in (omega arith, omega arith)

module _ (net : Network) (is_net : IsNetwork net) where
  -- tags are ids, and declared VLANs are VLANs
  pub tag_id : (v : Tagged) → IsIn v (tags_of net) → IsVlanId v.tag
  tag_id v i = let a = tag_available net v.tag (paired_tag net.vlans (available_tags net) v i) in in_range_id net.tags v.tag is_net.tags a.in_range a.some_range

  pub user_vlan : (v : Tagged) → IsIn v (tags_of net) → IsVlan v.user
  user_vlan v i = each_at IsVlan net.vlans v.user is_net.vlans (paired_user net.vlans (available_tags net) v i)

  host_number : (s : SwitchId) (host : Port) → IsIn host (hosts_of net s) → IsPortNumber host.0
  host_number s host i =
      let (stop, j, e) = in_from_map (λ (h : Stop). h.port) host (filter (λ h. h.switch.0 == s.0) net.hosts) i in
      let k = (in_from_filter (λ (h : Stop). h.switch.0 == s.0) stop net.hosts j).0 in
      subst (λ (p : Port). IsPortNumber p.0) (sym e) (used_number net is_net stop (in_append_left stop net.hosts (flat_map (λ (l : Link). l.one ∷ l.other ∷ []) net.links) k))

  restore_plan : (v : Vlan) → IsVlan v → IsPlanRewrite (restore v)
  restore_plan vlan.Untagged is = tt
  restore_plan (vlan.Id id) is = is

  test_plan : (v : Vlan) → IsVlan v → IsPlanVlan (test_of v)
  test_plan vlan.Untagged is = tt
  test_plan (vlan.Id id) is = is

  tagged_action_plan : (s : SwitchId) (v : Vlan) (action : Action) → IsVlan v → IsUserAction net s action → IsPlanAction (tagged_action net s v action)
  tagged_action_plan s v Discard is user = tt
  tagged_action_plan s v (Out port rewrite) is user =
      let number = used_number net is_net (record { switch = s; port = port }) user.0 in
      elim (is_host net s port) as (λ b. IsPlanAction (cond b (Out port (restore v)) (Out port rewrite))) [ true ↦ (number, restore_plan v is) | false ↦ (number, keep_plan rewrite user.1) ]

  ingress_action_plan : (s : SwitchId) (tag : ℕ) (action : Action) → IsVlanId tag → IsUserAction net s action → IsPlanAction (ingress_action net s tag action)
  ingress_action_plan s tag Discard is user = tt
  ingress_action_plan s tag (Out port rewrite) is user =
      let number = used_number net is_net (record { switch = s; port = port }) user.0 in
      elim (is_link net s port) as (λ b. IsPlanAction (cond b (Out port (Set tag)) (Out port rewrite))) [ true ↦ (number, is) | false ↦ (number, keep_plan rewrite user.1) ]

  module _ (s : SwitchId) (new : List Rule) (user : AllByRecursion (IsUserRule net s) new) where
    tagged_plan : (q : Rule) → IsIn q (tagged_rules net s new) → IsPlanRule q
    tagged_plan q i =
        elim (tagged_cases net s new q i) [
          | inl c ↦ (
              let of = each_at (IsUserRule net s) new c.of_rule user c.is_new in
              let below = of.below in
              subst IsPlanRule (sym c.is) (record {
                priority = omega arith;
                priority_most = omega arith;
                port = port_plan net is_net s c.of_rule.key.pattern.in_port of.port;
                vlan = tag_id c.of_tag c.is_tag;
                dst = of.dst;
                action = tagged_action_plan s c.of_tag.user c.of_rule.action (user_vlan c.of_tag c.is_tag) of.action;
              }))
          | inr d ↦ subst IsPlanRule (sym d.is) (record { priority = omega arith; priority_most = omega arith; port = tt; vlan = tag_id d.of_tag d.is_tag; dst = every_block; action = tt })
        ]

    ingress_plan : (q : Rule) → IsIn q (ingress_rules net s new) → IsPlanRule q
    ingress_plan q i =
        elim (ingress_cases net s new q i) [
          | inl c ↦ (
              let of = each_at (IsUserRule net s) new c.of_rule user c.is_new in
              let below = of.below in
              subst IsPlanRule (sym c.is) (record {
                priority = omega arith;
                priority_most = omega arith;
                port = host_number s c.host c.is_host_port;
                vlan = test_plan c.of_tag.user (user_vlan c.of_tag c.is_tag);
                dst = of.dst;
                action = ingress_action_plan s c.of_tag.tag c.of_rule.action (tag_id c.of_tag c.is_tag) of.action;
              }))
          | inr d ↦ subst IsPlanRule (sym d.is) (record { priority = omega arith; priority_most = omega arith; port = host_number s d.host d.is_host_port; vlan = tt; dst = every_block; action = tt })
        ]

  module _ (old new : List (List Rule)) (old_user : IsUserConfig net old) (new_user : IsUserConfig net new) where
    among_plan : (s : SwitchId) (r : Rule) → IsAmong net old new s r → IsPlanRule r
    among_plan s r (inl (inl i)) = tagged_plan s (rules_at new s) (new_user.rules s) r i
    among_plan s r (inl (inr i)) = ingress_plan s (rules_at new s) (new_user.rules s) r i
    among_plan s r (inr (inl i)) = rule_plan net is_net s r (each_at (IsUserRule net s) (rules_at old s) r (old_user.rules s) i)
    among_plan s r (inr (inr i)) = rule_plan net is_net s r (each_at (IsUserRule net s) (rules_at new s) r (new_user.rules s) i)

    own_change_plan : (c : Change) → IsOfPlan net old new c → IsPlanChange net c
    own_change_plan c of = change_plan net c (subst (λ (s : SwitchId). s.0 < switch_count net) (sym of.switch) of.inside) (among_plan of.at (rule_of c) of.among)

    pub changes_plan : (mark : SwitchId → Rule → ℕ) (laid taken : List ℕ) → AllByRecursion (AllByRecursion (IsPlanChange net)) (layered_rounds net old new mark laid taken)
    changes_plan mark laid taken =
        each_weaker (AllByRecursion (IsOfPlan net old new)) (AllByRecursion (IsPlanChange net)) (λ round h. each_weaker (IsOfPlan net old new) (IsPlanChange net) own_change_plan round h)
        (layered_rounds net old new mark laid taken) (all_of_plan net old new mark laid taken old_user.count)
