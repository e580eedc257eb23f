-- The tagged rules and the ingress rules of a switch, counted by the declared VLANs, and how many rules and host ports it has at most.
use Rattle.std.proofs.Common.{◌≡◌, ℕ, ◌+◌, ◌*◌, ◌<◌, ◌≤◌, Bool, true, false, cond, List, [], ◌∷◌, ◌++◌, map, length, take, sum_by, refl, ◌∙◌, ap, arith, length-append}
use Rattle.std.specs.Prelude.{◌&&◌, ◌==◌, count_by, filter, flat_map, Some, None}
use Rattle.std.proofs.Math.Nat.{mul-le-mul_right}
use Rattle.std.proofs.lemmas.List.{length-map}
use Rattle.std.proofs.lemmas.List.Concat.{length-flat_map}
use Rattle.std.proofs.lemmas.List.Sums.{sum_by-cons, sum_by-append, sum_by-take-le, length-filter}
use Rattle.net_base.specs.declared.ids.SwitchId.{SwitchId}
use Rattle.net_base.specs.declared.ids.Port.{Port}
use Rattle.net_base.specs.declared.ids.Stop.{Stop}
use Rattle.net_base.specs.declared.ids.Vlan.{Vlan}
use Rattle.net_base.proofs.MemberLaws.{each_weaker, each_get_or}
use Rattle.topology.specs.Networks.{Network, IsNetwork, switch_count, capacity_of}
use Rattle.topology.specs.declared.net.Link.{Link}
use Rattle.flow_rules.specs.Patterns.{admits_port, admits_vlan}
use Rattle.flow_rules.specs.Tables.{rules_at}
use Rattle.flow_rules.specs.declared.rules.Rule.{Rule}
use Rattle.flow_rules.specs.declared.rules.Action.TheVariants.{Discard}
use Rattle.flow_rules.specs.declared.rules.VlanTest.TheVariants as test
use Rattle.path_walk.specs.UserConfigs.{IsUserConfig}
use Rattle.tag_allocator.specs.Tags.{Tagged}
use Rattle.table_difference.specs.SameClasses.{every_address}
use Rattle.two_phase.specs.TwoPhasePlan.{is_host_bound, tagged_copy, ingress_copy, hosts_of, rule, tagged_rules_by, ingress_rules_by, counted_tags}
use Rattle.two_phase.proofs.CountLaws.{one_or_none}

abbrev counted : List Vlan → List Tagged
counted vs = map (λ (v : Vlan). let t : Tagged = record { user = v; tag = 0 } in t) vs

-- a rule for each VLAN that passes a test
each_passed : (p : Vlan → Bool) (f : Tagged → List Rule) → ((t : Tagged) → length (f t) ≡ cond (p t.user) 1 0) → (vs : List Vlan) → length (flat_map f (counted vs)) ≡ count_by p vs
each_passed p f one [] = refl
each_passed p f one (v ∷ vs) =
    let t : Tagged = record { user = v; tag = 0 } in
    let here = one t in
    let rest = each_passed p f one vs in
    let more : count_by p (v ∷ vs) ≡ cond (p v) 1 0 + count_by p vs = sum_by-cons (λ w. cond (p w) 1 0) v vs in
    let apart = length-append (f t) (flat_map f (counted vs)) in
    omega arith

none_or_all : (b : Bool) (xs : List Rule) → length (cond b [] xs) ≡ cond b 0 (length xs)
none_or_all true xs = refl
none_or_all false xs = refl

none_passes : (vs : List Vlan) → sum_by (λ (v : Vlan). 0) vs ≡ 0
none_passes [] = refl
none_passes (v ∷ vs) = let e = sum_by-cons (λ (v : Vlan). 0) v vs in let rest = none_passes vs in omega arith

-- a test that holds of all or of none, in front of another
all_or_none : (a : Bool) (p : Vlan → Bool) (vs : List Vlan) → count_by (λ v. a && p v) vs ≡ cond a (count_by p vs) 0
all_or_none true p vs = refl
all_or_none false p vs = none_passes vs

-- the ports of a switch among some stops
abbrev pub ports_of : SwitchId → List Stop → List Port
ports_of s stops = map (λ h. h.port) (filter (λ h. h.switch.0 == s.0) stops)

module _ (net : Network) (s : SwitchId) where
  pub tagged_count : (new : List Rule) → length (tagged_rules_by (counted_tags net) net s new) ≡ length net.vlans + sum_by (λ r. cond (is_host_bound net s r) 0 (count_by (admits_vlan r.key.pattern.vlan) net.vlans)) new
  tagged_count new =
      let copies : Rule → List Rule = λ r. cond (is_host_bound net s r) [] (flat_map (tagged_copy net s r) (counted net.vlans)) in
      let default : Tagged → Rule = λ v. rule 16384 None (test.Id v.tag) every_address Discard in
      let apart = length-append (flat_map copies new) (map default (counted net.vlans)) in
      let defaults = length-map (counted net.vlans) default in
      let tags = length-map net.vlans (λ (v : Vlan). let t : Tagged = record { user = v; tag = 0 } in t) in
      let sum : length (flat_map copies new) ≡ sum_by (λ r. cond (is_host_bound net s r) 0 (count_by (admits_vlan r.key.pattern.vlan) net.vlans)) new = length-flat_map copies new ∙ ap (λ (f : Rule → ℕ). sum_by f new) (λ j r. of_rule r j) in
      omega arith
    where
      of_rule : (r : Rule) → length (cond (is_host_bound net s r) [] (flat_map (tagged_copy net s r) (counted net.vlans))) ≡ cond (is_host_bound net s r) 0 (count_by (admits_vlan r.key.pattern.vlan) net.vlans)
      of_rule r =
          none_or_all (is_host_bound net s r) (flat_map (tagged_copy net s r) (counted net.vlans))
          ∙ ap (cond (is_host_bound net s r) 0) (each_passed (admits_vlan r.key.pattern.vlan) (tagged_copy net s r) (λ t. one_or_none (admits_vlan r.key.pattern.vlan t.user) _) net.vlans)

  -- how many ingress copies the new rules have at a host port
  abbrev pub at_host : List Rule → Port → ℕ
  at_host new host = sum_by (λ r. cond (admits_port r.key.pattern.in_port host) (count_by (admits_vlan r.key.pattern.vlan) net.vlans) 0) new

  pub ingress_count : (new : List Rule) → length (ingress_rules_by (counted_tags net) net s new) ≡ sum_by (at_host new) (hosts_of net s) + length (hosts_of net s)
  ingress_count new =
      let copies : Port → List Rule = λ host. flat_map (λ r. flat_map (ingress_copy net s host r) (counted net.vlans)) new in
      let default : Port → Rule = λ host. rule 32768 (Some host) test.Any every_address Discard in
      let apart = length-append (flat_map copies (hosts_of net s)) (map default (hosts_of net s)) in
      let defaults = length-map (hosts_of net s) default in
      let sum : length (flat_map copies (hosts_of net s)) ≡ sum_by (at_host new) (hosts_of net s) = length-flat_map copies (hosts_of net s) ∙ ap (λ (f : Port → ℕ). sum_by f (hosts_of net s)) (λ j host. of_host host j) in
      omega arith
    where
      of_rule : (host : Port) (r : Rule) → length (flat_map (ingress_copy net s host r) (counted net.vlans)) ≡ cond (admits_port r.key.pattern.in_port host) (count_by (admits_vlan r.key.pattern.vlan) net.vlans) 0
      of_rule host r =
          each_passed (λ v. admits_port r.key.pattern.in_port host && admits_vlan r.key.pattern.vlan v) (ingress_copy net s host r)
          (λ t. one_or_none (admits_port r.key.pattern.in_port host && admits_vlan r.key.pattern.vlan t.user) _) net.vlans
          ∙ all_or_none (admits_port r.key.pattern.in_port host) (admits_vlan r.key.pattern.vlan) net.vlans

      of_host : (host : Port) → length (flat_map (λ r. flat_map (ingress_copy net s host r) (counted net.vlans)) new) ≡ at_host new host
      of_host host = length-flat_map (λ r. flat_map (ingress_copy net s host r) (counted net.vlans)) new ∙ ap (λ (f : Rule → ℕ). sum_by f new) (λ j r. of_rule host r j)

  -- a switch has few host ports
  pub few_hosts : IsNetwork net → (i : ℕ) → length (ports_of s (take i net.hosts)) ≤ 64
  few_hosts is i =
      let on : Stop → Bool = λ h. h.switch.0 == s.0 in
      let mapped = length-map (filter on (take i net.hosts)) (λ (h : Stop). h.port) in
      let some = length-filter on (take i net.hosts) in
      let fewer : count_by on (take i net.hosts) ≤ count_by on net.hosts = sum_by-take-le (λ h. cond (on h) 1 0) net.hosts i in
      let links = flat_map (λ (l : Link). l.one ∷ l.other ∷ []) net.links in
      let more : count_by on (net.hosts ++ links) ≡ count_by on net.hosts + count_by on links = sum_by-append (λ h. cond (on h) 1 0) net.hosts links in
      let all = length-filter on (net.hosts ++ links) in
      let few = is.few_ports s in
      omega arith

  pub few_counted : IsNetwork net → (i count most : ℕ) → count ≤ length (ports_of s (take i net.hosts)) * most → count ≤ 64 * most
  few_counted is i count most le = let m = mul-le-mul_right most (few_hosts is i) in omega arith

pub capacity_most : (net : Network) → IsNetwork net → (s : SwitchId) → capacity_of net s ≤ 8192
capacity_most net is s =
    each_get_or (λ c. c ≤ 8192) net.capacities s.0 0 (each_weaker (λ c. (1 ≤ c) × (c ≤ 8192)) (λ c. c ≤ 8192) (λ c h. h.1) net.capacities is.capacities) (omega arith)

-- a switch has few rules of a user configuration
pub few_rules : (net : Network) → IsNetwork net → (tables : List (List Rule)) → IsUserConfig net tables → (s : SwitchId) → s.0 < switch_count net → length (rules_at tables s) ≤ 8192
few_rules net is tables user s within = let fits = user.fits s within in let most = capacity_most net is s in omega arith
