-- The rules of the two bands: where each comes from, its priority, and which packets it covers.
use Rattle.std.proofs.Common.{◌≡◌, ◌⊎◌, ℕ, ◌+◌, ◌<◌, ◌≤◌, ◌^◌, ◌&&◌, true, false, cond, List, [], map, refl, sym, subst, ap, inl, inr, arith}
use Rattle.std.specs.Prelude.{◌==◌, flat_map, filter, Some, None}
use Rattle.std.specs.List.{list_any, AllByRecursion}
use Rattle.std.proofs.lemmas.Bool.{eqb-true, eq-eqb, and_parts, and_from, both_ways, lt-ltb, le-leb}
use Rattle.net_base.specs.Blocks.{in_block}
use Rattle.net_base.specs.Members.{IsIn}
use Rattle.net_base.proofs.MemberLaws.{in_append_left, in_append_right, in_append_cases, in_map, in_from_map, in_from_filter, each_at}
use Rattle.net_base.specs.declared.ids.SwitchId.{SwitchId}
use Rattle.net_base.specs.declared.ids.Port.{Port}
use Rattle.net_base.specs.declared.ids.Stop.{Stop}
use Rattle.net_base.specs.declared.ids.Vlan.{Vlan}
use Rattle.net_base.specs.declared.ids.Vlan.TheVariants as vlan
use Rattle.topology.specs.Networks.{Network, far_end, stop_eq}
use Rattle.topology.specs.declared.net.End.TheVariants as at
use Rattle.flow_rules.specs.Patterns.{Header, covers, admits_port, admits_vlan}
use Rattle.flow_rules.specs.declared.rules.Pattern.{Pattern}
use Rattle.flow_rules.specs.declared.rules.VlanTest.TheVariants as test
use Rattle.flow_rules.specs.declared.rules.Action.TheVariants.{Discard}
use Rattle.flow_rules.specs.declared.rules.Rule.{Rule}
use Rattle.path_walk.specs.UserConfigs.{IsUserRule}
use Rattle.tag_allocator.specs.Tags.{Tagged, tags_of}
use Rattle.table_difference.specs.SameClasses.{every_address}
use Rattle.two_phase.specs.TwoPhasePlan.{host_end, is_host, is_host_bound, test_of, tagged_action, ingress_action, rule, tagged_copy, tagged_rules, ingress_copy, hosts_of, ingress_rules}
use Rattle.net_base.proofs.ListLaws.{in_flat_map, in_from_flat_map, in_when, when_in, any_in}

abbrev pub header : Port → Vlan → ℕ → Header
header port v dst = record { port = port; vlan = v; dst = dst }

pub covers_parts : (p : Pattern) (h : Header) → covers p h ≡ true → (admits_port p.in_port h.port ≡ true) × (admits_vlan p.vlan h.vlan ≡ true) × (in_block p.dst h.dst ≡ true)
covers_parts p h c =
    let (front, dst) = and_parts (admits_port p.in_port h.port && admits_vlan p.vlan h.vlan) (in_block p.dst h.dst) c in
    let (port, v) = and_parts (admits_port p.in_port h.port) (admits_vlan p.vlan h.vlan) front in
    (port, v, dst)

pub covers_from : (p : Pattern) (h : Header) → admits_port p.in_port h.port ≡ true → admits_vlan p.vlan h.vlan ≡ true → in_block p.dst h.dst ≡ true → covers p h ≡ true
covers_from p h port v dst = and_from _ _ (and_from _ _ port v) dst

-- the parts of a rule that a rule is
pub covers_as : (q r : Rule) (h : Header) → q ≡ r → covers q.key.pattern h ≡ true
    → (admits_port r.key.pattern.in_port h.port ≡ true) × (admits_vlan r.key.pattern.vlan h.vlan ≡ true) × (in_block r.key.pattern.dst h.dst ≡ true)
covers_as q r h e c = covers_parts r.key.pattern h (subst (λ x. covers x.key.pattern h ≡ true) e c)

pub every_has : (dst : ℕ) → dst < 2 ^ 32 → in_block every_address dst ≡ true
every_has dst less = and_from _ _ (le-leb 0 dst (omega arith)) (lt-ltb dst (0 + 2 ^ 32) (omega arith))

pub names_it : (v : Vlan) → admits_vlan (test_of v) v ≡ true
names_it vlan.Untagged = refl
names_it (vlan.Id n) = eq-eqb n n refl

pub named_is : (v w : Vlan) → admits_vlan (test_of v) w ≡ true → v ≡ w
named_is vlan.Untagged vlan.Untagged e = refl
named_is vlan.Untagged (vlan.Id n) e = absurd (both_ways false refl e)
named_is (vlan.Id m) vlan.Untagged e = absurd (both_ways false refl e)
named_is (vlan.Id m) (vlan.Id n) e = ap vlan.Id (eqb-true m n e)

-- a test that names an id admits that id alone
pub id_is : (t : ℕ) (v : Vlan) → admits_vlan (test.Id t) v ≡ true → v ≡ vlan.Id t
id_is t vlan.Untagged e = absurd (both_ways false refl e)
id_is t (vlan.Id n) e = ap vlan.Id (sym (eqb-true t n e))

module _ (net : Network) (s : SwitchId) where
  -- a host port of the list is a host port
  pub is_host_in : (p : Port) → IsIn p (hosts_of net s) → is_host net s p ≡ true
  is_host_in p i =
      let stop : Stop = record { switch = s; port = p } in
      let (h, j, e) = in_from_map (λ (x : Stop). x.port) p (filter (λ x. x.switch.0 == s.0) net.hosts) i in
      let (k, f) = in_from_filter (λ (x : Stop). x.switch.0 == s.0) h net.hosts j in
      let found : list_any (stop_eq stop) net.hosts ≡ true =
      any_in (stop_eq stop) h net.hosts k (and_from _ _ (eq-eqb s.0 h.switch.0 (sym (eqb-true h.switch.0 s.0 f))) (eq-eqb p.0 h.port.0 (ap (λ x. x.0) e))) in
      subst (λ b. host_end (cond b at.Host (far_end stop net.links)) ≡ true) (sym found) refl

  module _ (new : List Rule) where
    -- the tagged copy of a new rule
    pub record IsCopy (q : Rule) : Type 0 where
      pub of_rule : Rule
      pub of_tag : Tagged
      pub is_new : IsIn of_rule new
      pub is_tag : IsIn of_tag (tags_of net)
      pub free : is_host_bound net s of_rule ≡ false
      pub admits : admits_vlan of_rule.key.pattern.vlan of_tag.user ≡ true
      pub is : q ≡ rule (16384 + of_rule.key.priority) of_rule.key.pattern.in_port (test.Id of_tag.tag) of_rule.key.pattern.dst (tagged_action net s of_tag.user of_rule.action)

    -- the default of a tag
    pub record IsTagDefault (q : Rule) : Type 0 where
      pub of_tag : Tagged
      pub is_tag : IsIn of_tag (tags_of net)
      pub is : q ≡ rule 16384 None (test.Id of_tag.tag) every_address Discard

    -- the ingress copy of a new rule
    pub record IsEntering (q : Rule) : Type 0 where
      pub host : Port
      pub of_rule : Rule
      pub of_tag : Tagged
      pub is_host_port : IsIn host (hosts_of net s)
      pub is_new : IsIn of_rule new
      pub is_tag : IsIn of_tag (tags_of net)
      pub port : admits_port of_rule.key.pattern.in_port host ≡ true
      pub admits : admits_vlan of_rule.key.pattern.vlan of_tag.user ≡ true
      pub is : q ≡ rule (32768 + of_rule.key.priority) (Some host) (test_of of_tag.user) of_rule.key.pattern.dst (ingress_action net s of_tag.tag of_rule.action)

    -- the default of a host port
    pub record IsHostDefault (q : Rule) : Type 0 where
      pub host : Port
      pub is_host_port : IsIn host (hosts_of net s)
      pub is : q ≡ rule 32768 (Some host) test.Any every_address Discard

    abbrev copies : Rule → List Rule
    copies r = flat_map (tagged_copy net s r) (tags_of net)

    abbrev free_copies : Rule → List Rule
    free_copies r = cond (is_host_bound net s r) [] (copies r)

    abbrev tag_default : Tagged → Rule
    tag_default v = rule 16384 None (test.Id v.tag) every_address Discard

    pub tagged_cases : (q : Rule) → IsIn q (tagged_rules net s new) → IsCopy q ⊎ IsTagDefault q
    tagged_cases q i =
        elim (in_append_cases q (flat_map free_copies new) (map tag_default (tags_of net)) i) [
          | inl j ↦ (
              let (r, k, l) = in_from_flat_map free_copies q new j in
              elim (is_host_bound net s r) as (λ b. is_host_bound net s r ≡ b → IsIn q (cond b [] (copies r)) → IsCopy q ⊎ IsTagDefault q) [
                | true ↦ λ _ m. absurd m
                | false ↦ λ free m.
                    let (v, n, o) = in_from_flat_map (tagged_copy net s r) q (tags_of net) m in
                    let (admits, e) = in_when (admits_vlan r.key.pattern.vlan v.user) q _ o in
                    inl (record { of_rule = r; of_tag = v; is_new = k; is_tag = n; free = free; admits = admits; is = e })
              ] refl l)
          | inr j ↦ let (v, k, e) = in_from_map tag_default q (tags_of net) j in inr (record { of_tag = v; is_tag = k; is = e })
        ]

    abbrev copy_of : Rule → Tagged → Rule
    copy_of r v = rule (16384 + r.key.priority) r.key.pattern.in_port (test.Id v.tag) r.key.pattern.dst (tagged_action net s v.user r.action)

    pub copy_in : (q : Rule) → IsCopy q → IsIn q (tagged_rules net s new)
    copy_in q c =
        subst (λ x. IsIn x (tagged_rules net s new)) (sym c.is)
        (in_append_left (copy_of c.of_rule c.of_tag) (flat_map free_copies new) (map tag_default (tags_of net))
        (in_flat_map free_copies c.of_rule (copy_of c.of_rule c.of_tag) new c.is_new
        (subst (λ b. IsIn (copy_of c.of_rule c.of_tag) (cond b [] (copies c.of_rule))) (sym c.free)
        (in_flat_map (tagged_copy net s c.of_rule) c.of_tag (copy_of c.of_rule c.of_tag) (tags_of net) c.is_tag (when_in (admits_vlan c.of_rule.key.pattern.vlan c.of_tag.user) (copy_of c.of_rule c.of_tag) c.admits)))))

    pub tag_default_in : (v : Tagged) → IsIn v (tags_of net) → IsIn (tag_default v) (tagged_rules net s new)
    tag_default_in v i = in_append_right (tag_default v) (flat_map free_copies new) (map tag_default (tags_of net)) (in_map tag_default v (tags_of net) i)

    abbrev entering : Port → List Rule
    entering host = flat_map (λ r. flat_map (ingress_copy net s host r) (tags_of net)) new

    abbrev host_default : Port → Rule
    host_default host = rule 32768 (Some host) test.Any every_address Discard

    pub ingress_cases : (q : Rule) → IsIn q (ingress_rules net s new) → IsEntering q ⊎ IsHostDefault q
    ingress_cases q i =
        elim (in_append_cases q (flat_map entering (hosts_of net s)) (map host_default (hosts_of net s)) i) [
          | inl j ↦ (
              let (host, k, l) = in_from_flat_map entering q (hosts_of net s) j in
              let (r, m, n) = in_from_flat_map (λ r. flat_map (ingress_copy net s host r) (tags_of net)) q new l in
              let (v, o, p) = in_from_flat_map (ingress_copy net s host r) q (tags_of net) n in
              let (both, e) = in_when (admits_port r.key.pattern.in_port host && admits_vlan r.key.pattern.vlan v.user) q _ p in
              let (port, admits) = and_parts (admits_port r.key.pattern.in_port host) (admits_vlan r.key.pattern.vlan v.user) both in
              inl (record { host = host; of_rule = r; of_tag = v; is_host_port = k; is_new = m; is_tag = o; port = port; admits = admits; is = e }))
          | inr j ↦ let (host, k, e) = in_from_map host_default q (hosts_of net s) j in inr (record { host = host; is_host_port = k; is = e })
        ]

    pub entering_in : (q : Rule) → IsEntering q → IsIn q (ingress_rules net s new)
    entering_in q c =
        subst (λ x. IsIn x (ingress_rules net s new)) (sym c.is)
        (in_append_left _ (flat_map entering (hosts_of net s)) (map host_default (hosts_of net s))
        (in_flat_map entering c.host _ (hosts_of net s) c.is_host_port
        (in_flat_map (λ r. flat_map (ingress_copy net s c.host r) (tags_of net)) c.of_rule _ new c.is_new
        (in_flat_map (ingress_copy net s c.host c.of_rule) c.of_tag _ (tags_of net) c.is_tag
        (when_in (admits_port c.of_rule.key.pattern.in_port c.host && admits_vlan c.of_rule.key.pattern.vlan c.of_tag.user) _ (and_from _ _ c.port c.admits))))))

    pub host_default_in : (host : Port) → IsIn host (hosts_of net s) → IsIn (host_default host) (ingress_rules net s new)
    host_default_in host i = in_append_right (host_default host) (flat_map entering (hosts_of net s)) (map host_default (hosts_of net s)) (in_map host_default host (hosts_of net s) i)

    module _ (user : AllByRecursion (IsUserRule net s) new) where
      pub tagged_low : (q : Rule) → IsIn q (tagged_rules net s new) → 16384 ≤ q.key.priority
      tagged_low q i = elim (tagged_cases q i) [ inl c ↦ (let e = ap (λ x. x.key.priority) c.is in omega arith) | inr d ↦ (let e = ap (λ x. x.key.priority) d.is in omega arith) ]

      pub tagged_high : (q : Rule) → IsIn q (tagged_rules net s new) → q.key.priority < 32768
      tagged_high q i =
          elim (tagged_cases q i) [
            | inl c ↦ (let e = ap (λ x. x.key.priority) c.is in let low = (each_at (IsUserRule net s) new c.of_rule user c.is_new).below in omega arith)
            | inr d ↦ (let e = ap (λ x. x.key.priority) d.is in omega arith)
          ]

      pub ingress_low : (q : Rule) → IsIn q (ingress_rules net s new) → 32768 ≤ q.key.priority
      ingress_low q i = elim (ingress_cases q i) [ inl c ↦ (let e = ap (λ x. x.key.priority) c.is in omega arith) | inr d ↦ (let e = ap (λ x. x.key.priority) d.is in omega arith) ]
