-- The plan's rules are no more than those that are counted by declared VLANs.
use Rattle.std.proofs.Common.{◌≡◌, ◌≤◌, ℕ, Bool, true, false, cond, List, [], ◌∷◌, map, length, refl, sym, ◌∙◌, ap, arith, length-append}
use Rattle.std.specs.Prelude.{◌&&◌, flat_map, Some, None}
use Rattle.net_base.specs.declared.ids.SwitchId.{SwitchId}
use Rattle.net_base.specs.declared.ids.Port.{Port}
use Rattle.net_base.specs.declared.ids.Vlan.{Vlan}
use Rattle.topology.specs.Networks.{Network}
use Rattle.flow_rules.specs.Patterns.{admits_port, admits_vlan}
use Rattle.flow_rules.specs.declared.rules.Rule.{Rule}
use Rattle.flow_rules.specs.declared.rules.Action.TheVariants.{Discard}
use Rattle.flow_rules.specs.declared.rules.VlanTest.TheVariants as test
use Rattle.tag_allocator.specs.Tags.{Tagged, tags_paired, tags_of, available_tags}
use Rattle.table_difference.specs.SameClasses.{every_address}
use Rattle.two_phase.specs.TwoPhasePlan.{is_host_bound, tagged_copy, ingress_copy, hosts_of, rule, tagged_rules, tagged_rules_by, ingress_rules, ingress_rules_by, counted_tags}

-- the lists for tags of one user are of one length
abbrev IsByUser : (Tagged → List Rule) → Type 0
IsByUser f = (x y : Tagged) → x.user ≡ y.user → length (f x) ≡ length (f y)

abbrev counted : List Vlan → List Tagged
counted vs = map (λ (v : Vlan). let t : Tagged = record { user = v; tag = 0 } in t) vs

counted_more : (f : Tagged → List Rule) → IsByUser f → (vs : List Vlan) (ts : List ℕ) → length (flat_map f (tags_paired vs ts)) ≤ length (flat_map f (counted vs))
counted_more f same [] ts = omega arith
counted_more f same (v ∷ vs) [] = omega arith
counted_more f same (v ∷ vs) (t ∷ ts) =
    let here : Tagged = record { user = v; tag = t } in
    let there : Tagged = record { user = v; tag = 0 } in
    let e = same here there refl in
    let rest = counted_more f same vs ts in
    let a = length-append (f here) (flat_map f (tags_paired vs ts)) in
    let b = length-append (f there) (flat_map f (counted vs)) in
    omega arith

counted_images : (f : Tagged → Rule) (vs : List Vlan) (ts : List ℕ) → length (map f (tags_paired vs ts)) ≤ length (map f (counted vs))
counted_images f [] ts = omega arith
counted_images f (v ∷ vs) [] = omega arith
counted_images f (v ∷ vs) (t ∷ ts) = let rest = counted_images f vs ts in omega arith

each_more : {A : Type 0} (f g : A → List Rule) (xs : List A) → ((x : A) → length (f x) ≤ length (g x)) → length (flat_map f xs) ≤ length (flat_map g xs)
each_more f g [] more = omega arith
each_more f g (x ∷ xs) more =
    let here = more x in
    let rest = each_more f g xs more in
    let a = length-append (f x) (flat_map f xs) in
    let b = length-append (g x) (flat_map g xs) in
    omega arith

-- one rule or none, by the test alone
pub one_or_none : (b : Bool) (r : Rule) → length (cond b (r ∷ []) []) ≡ cond b 1 0
one_or_none true r = refl
one_or_none false r = refl

either_more : (b : Bool) (xs ys : List Rule) → length xs ≤ length ys → length (cond b [] xs) ≤ length (cond b [] ys)
either_more true xs ys more = omega arith
either_more false xs ys more = more

module _ (net : Network) (s : SwitchId) where
  tagged_by_user : (r : Rule) → IsByUser (tagged_copy net s r)
  tagged_by_user r x y e = one_or_none (admits_vlan r.key.pattern.vlan x.user) _ ∙ ap (λ v. cond (admits_vlan r.key.pattern.vlan v) 1 0) e ∙ sym (one_or_none (admits_vlan r.key.pattern.vlan y.user) _)

  ingress_by_user : (host : Port) (r : Rule) → IsByUser (ingress_copy net s host r)
  ingress_by_user host r x y e =
      one_or_none (admits_port r.key.pattern.in_port host && admits_vlan r.key.pattern.vlan x.user) _
      ∙ ap (λ v. cond (admits_port r.key.pattern.in_port host && admits_vlan r.key.pattern.vlan v) 1 0) e
      ∙ sym (one_or_none (admits_port r.key.pattern.in_port host && admits_vlan r.key.pattern.vlan y.user) _)

  -- the tagged rules are no more than those that are counted
  pub tagged_counted : (new : List Rule) → length (tagged_rules net s new) ≤ length (tagged_rules_by (counted_tags net) net s new)
  tagged_counted new =
      let copies : (ts : List Tagged) → List Rule = λ ts. flat_map (λ r. cond (is_host_bound net s r) [] (flat_map (tagged_copy net s r) ts)) new in
      let defaults : (ts : List Tagged) → List Rule = λ ts. map (λ v. rule 16384 None (test.Id v.tag) every_address Discard) ts in
      let a = each_more (λ r. cond (is_host_bound net s r) [] (flat_map (tagged_copy net s r) (tags_of net))) (λ r. cond (is_host_bound net s r) [] (flat_map (tagged_copy net s r) (counted net.vlans))) new
      (λ r. either_more (is_host_bound net s r) (flat_map (tagged_copy net s r) (tags_of net)) (flat_map (tagged_copy net s r) (counted net.vlans))
      (counted_more (tagged_copy net s r) (tagged_by_user r) net.vlans (available_tags net))) in
      let b = counted_images (λ v. rule 16384 None (test.Id v.tag) every_address Discard) net.vlans (available_tags net) in
      let c = length-append (copies (tags_of net)) (defaults (tags_of net)) in
      let d = length-append (copies (counted net.vlans)) (defaults (counted net.vlans)) in
      omega arith

  -- the ingress rules are no more than those that are counted
  pub ingress_counted : (new : List Rule) → length (ingress_rules net s new) ≤ length (ingress_rules_by (counted_tags net) net s new)
  ingress_counted new =
      let copies : (ts : List Tagged) → List Rule = λ ts. flat_map (λ host. flat_map (λ r. flat_map (ingress_copy net s host r) ts) new) (hosts_of net s) in
      let a = each_more (λ host. flat_map (λ r. flat_map (ingress_copy net s host r) (tags_of net)) new) (λ host. flat_map (λ r. flat_map (ingress_copy net s host r) (counted net.vlans)) new) (hosts_of net s)
      (λ host. each_more (λ r. flat_map (ingress_copy net s host r) (tags_of net)) (λ r. flat_map (ingress_copy net s host r) (counted net.vlans)) new
      (λ r. counted_more (ingress_copy net s host r) (ingress_by_user host r) net.vlans (available_tags net))) in
      let c = length-append (copies (tags_of net)) (map (λ host. rule 32768 (Some host) test.Any every_address Discard) (hosts_of net s)) in
      let d = length-append (copies (counted net.vlans)) (map (λ host. rule 32768 (Some host) test.Any every_address Discard) (hosts_of net s)) in
      omega arith
