-- The bands are clear, name no key twice, and their rounds name no entry twice.
use Rattle.std.proofs.Common.{◌≡◌, ◌⊎◌, ℕ, ◌+◌, ◌≤◌, Bool, true, false, cond, List, [], ◌∷◌, map, refl, sym, ◌∙◌, subst, ap, inl, inr, arith}
use Rattle.std.specs.Prelude.{◌==◌, ◌&&◌, flat_map, filter, Option, Some, None}
use Rattle.std.specs.Ordering.{is_lt}
use Rattle.std.specs.List.{AllByRecursion}
use Rattle.std.proofs.lemmas.Bool.{eqb-true, eq-eqb, cond_both, and_parts}
use Rattle.net_base.specs.Blocks.{in_block}
use Rattle.net_base.specs.Members.{IsIn, IsDistinct}
use Rattle.net_base.proofs.MemberLaws.{in_map, in_from_map, in_from_filter, each_at}
use Rattle.net_base.specs.declared.ids.SwitchId.{SwitchId}
use Rattle.net_base.specs.declared.ids.Port.{Port}
use Rattle.net_base.specs.declared.ids.Stop.{Stop}
use Rattle.net_base.specs.declared.ids.Vlan.{Vlan}
use Rattle.net_base.specs.declared.ids.Vlan.TheVariants as vlan
use Rattle.topology.specs.Networks.{Network, IsNetwork, switch_count}
use Rattle.flow_rules.specs.Order.{key_cmp}
use Rattle.flow_rules.specs.Patterns.{admits_port, admits_vlan}
use Rattle.flow_rules.specs.Tables.{IsClear, IsTable}
use Rattle.flow_rules.specs.declared.rules.VlanTest.TheVariants as test
use Rattle.flow_rules.specs.declared.rules.Action.TheVariants.{Discard}
use Rattle.flow_rules.specs.declared.rules.Rule.{Rule}
use Rattle.path_walk.specs.UserConfigs.{IsUserRule}
use Rattle.update_model.specs.Changes.{switch_of, rule_of, entry_named}
use Rattle.update_model.specs.declared.Change.{Change}
use Rattle.update_model.proofs.MadeLaws.{distinct_some}
use Rattle.net_base.specs.Numbers.{numbers_from}
use Rattle.tag_allocator.specs.Tags.{Tagged, tags_of}
use Rattle.table_difference.specs.SameClasses.{every_address}
use Rattle.two_phase.specs.TwoPhasePlan.{is_host_bound, test_of, tagged_action, ingress_action, rule, tagged_copy, tagged_rules, ingress_copy, hosts_of, ingress_rules, with_rule, in_key_order, switches, by_switch}
use Rattle.net_base.proofs.ListLaws.{in_flat_map, in_from_flat_map, in_when, told_from_distinct, distinct_append, distinct_members, distinct_map, distinct_flat_map}
use Rattle.two_phase.proofs.TagLaws.{IsTagging}
use Rattle.net_base.proofs.NameLaws.{same_port, same_switch}
use Rattle.two_phase.proofs.BandLaws.{header, covers_as, covers_from, names_it, named_is, id_is, IsCopy, tagged_cases, ingress_cases}
use Rattle.two_phase.proofs.SweepLaws.{IsSweep}
use Rattle.update_model.proofs.MatchLaws.{some_filter}
use Rattle.net_base.proofs.ItemLaws.{distinct_first}
use Rattle.net_base.proofs.NumberLaws.{numbers_below, numbers_distinct, in_numbers}
use Rattle.flow_rules.proofs.OverlapLaws.{base_in}

-- some port, and some VLAN, that a test admits
abbrev a_port : Option Port → Port
a_port None = record { 0 = 0 }
a_port (Some p) = p

admits_a_port : (o : Option Port) → admits_port o (a_port o) ≡ true
admits_a_port None = refl
admits_a_port (Some p) = eq-eqb p.0 p.0 refl

pub distinct_images : {A B C : Type 0} (f : A → B) (g : B → C) (xs : List A) → IsDistinct xs → ((x y : A) → IsIn x xs → IsIn y xs → g (f x) ≡ g (f y) → x ≡ y) → IsDistinct (map g (map f xs))
distinct_images f g [] distinct told = tt
distinct_images f g (x ∷ xs) distinct told = (
  λ i.
      let (b, j, e) = in_from_map g (g (f x)) (map f xs) i in
      let (y, k, h) = in_from_map f b xs j in
      distinct.0 (subst (λ w. IsIn w xs) (sym (told x y (inl refl) (inr k) (e ∙ ap g h))) k),
  distinct_images f g xs distinct.1 (λ y z i j. told y z (inr i) (inr j)),
)

when_distinct : {A B : Type 0} (g : A → B) (b : Bool) (x : A) → IsDistinct (map g (cond b (x ∷ []) []))
when_distinct g true x = (λ i. i, tt)
when_distinct g false x = tt

pub hosts_distinct : (net : Network) → IsNetwork net → (s : SwitchId) → IsDistinct (hosts_of net s)
hosts_distinct net is s =
    let here = filter (λ (h : Stop). h.switch.0 == s.0) net.hosts in
    distinct_map (λ (h : Stop). h.port) here
    (distinct_members (λ (h : Stop). h) here (distinct_some (λ (h : Stop). h) here net.hosts (some_filter (λ (h : Stop). h.switch.0 == s.0) net.hosts) (map_self net.hosts (distinct_first net.hosts _ is.ports_once))))
    (λ a b i j e.
    let f = eqb-true a.switch.0 s.0 (in_from_filter (λ (h : Stop). h.switch.0 == s.0) a net.hosts i).1 in
    let g = eqb-true b.switch.0 s.0 (in_from_filter (λ (h : Stop). h.switch.0 == s.0) b net.hosts j).1 in
    ap (λ (x : SwitchId). let y : Stop = record { switch = x; port = a.port } in y) (same_switch a.switch b.switch (f ∙ sym g))
    ∙ ap (λ (x : Port). let y : Stop = record { switch = b.switch; port = x } in y) e)
  where
    map_self : (xs : List Stop) → IsDistinct xs → IsDistinct (map (λ (h : Stop). h) xs)
    map_self xs distinct = distinct_map (λ (h : Stop). h) xs distinct (λ a b i j e. e)

module _ (net : Network) (is : IsNetwork net) (tags : IsTagging net) (s : SwitchId) (new : List Rule) (table : IsTable new) (clear : IsClear new) (user : AllByRecursion (IsUserRule net s) new) where
  copies_same : (a b : Rule) (x : IsCopy net s new a) (y : IsCopy net s new b) → x.of_rule ≡ y.of_rule → x.of_tag ≡ y.of_tag → a ≡ b
  copies_same a b x y e f =
      x.is ∙ ap (λ r. rule (16384 + r.key.priority) r.key.pattern.in_port (test.Id x.of_tag.tag) r.key.pattern.dst (tagged_action net s x.of_tag.user r.action)) e
      ∙ ap (λ v. rule (16384 + y.of_rule.key.priority) y.of_rule.key.pattern.in_port (test.Id v.tag) y.of_rule.key.pattern.dst (tagged_action net s v.user y.of_rule.action)) f ∙ sym y.is

  tag_same : (v w : Tagged) → IsIn v (tags_of net) → IsIn w (tags_of net) → (x : Vlan) → x ≡ vlan.Id v.tag → x ≡ vlan.Id w.tag → v ≡ w
  tag_same v w i j x e f = let g : vlan.Id v.tag ≡ vlan.Id w.tag = sym e ∙ f in let h : v.tag ≡ w.tag = cc in tags.by_tag v w i j h

  priority_above : (r : Rule) → IsIn r new → 1 ≤ r.key.priority
  priority_above r i = (each_at (IsUserRule net s) new r user i).above

  pub tagged_clear : IsClear (tagged_rules net s new)
  tagged_clear h a b i j c d e =
      elim (tagged_cases net s new a i) [
        | inl x ↦ elim (tagged_cases net s new b j) [
          | inl y ↦ (
              let p = covers_as a _ h x.is c in
              let q = covers_as b _ h y.is d in
              let v : x.of_tag ≡ y.of_tag = tag_same x.of_tag y.of_tag x.is_tag y.is_tag h.vlan (id_is x.of_tag.tag h.vlan p.1) (id_is y.of_tag.tag h.vlan q.1) in
              let f = ap (λ z. z.key.priority) x.is in
              let g = ap (λ z. z.key.priority) y.is in
              let k = header h.port y.of_tag.user h.dst in
              let r : x.of_rule ≡ y.of_rule = clear k x.of_rule y.of_rule x.is_new y.is_new
              (covers_from x.of_rule.key.pattern k p.0 (subst (λ w. admits_vlan x.of_rule.key.pattern.vlan w.user ≡ true) v x.admits) p.2) (covers_from y.of_rule.key.pattern k q.0 y.admits q.2) (omega arith) in
              copies_same a b x y r v)
          | inr y ↦ (let f = ap (λ z. z.key.priority) x.is in let g = ap (λ z. z.key.priority) y.is in let u = priority_above x.of_rule x.is_new in absurd (omega arith))
        ]
        | inr x ↦ elim (tagged_cases net s new b j) [
          | inl y ↦ (let f = ap (λ z. z.key.priority) x.is in let g = ap (λ z. z.key.priority) y.is in let u = priority_above y.of_rule y.is_new in absurd (omega arith))
          | inr y ↦ (
              let p = covers_as a _ h x.is c in
              let q = covers_as b _ h y.is d in
              let v : x.of_tag ≡ y.of_tag = tag_same x.of_tag y.of_tag x.is_tag y.is_tag h.vlan (id_is x.of_tag.tag h.vlan p.1) (id_is y.of_tag.tag h.vlan q.1) in
              x.is ∙ ap (λ w. rule 16384 None (test.Id w.tag) every_address Discard) v ∙ sym y.is)
        ]
      ]

  pub ingress_clear : IsClear (ingress_rules net s new)
  ingress_clear h a b i j c d e =
      elim (ingress_cases net s new a i) [
        | inl x ↦ elim (ingress_cases net s new b j) [
          | inl y ↦ (
              let p = covers_as a _ h x.is c in
              let q = covers_as b _ h y.is d in
              let host_x : x.host ≡ h.port = same_port x.host h.port (eqb-true x.host.0 h.port.0 p.0) in
              let host_y : y.host ≡ h.port = same_port y.host h.port (eqb-true y.host.0 h.port.0 q.0) in
              let v : x.of_tag ≡ y.of_tag = tags.by_user x.of_tag y.of_tag x.is_tag y.is_tag (named_is x.of_tag.user h.vlan p.1 ∙ sym (named_is y.of_tag.user h.vlan q.1)) in
              let f = ap (λ z. z.key.priority) x.is in
              let g = ap (λ z. z.key.priority) y.is in
              let k = header h.port y.of_tag.user h.dst in
              let r : x.of_rule ≡ y.of_rule = clear k x.of_rule y.of_rule x.is_new y.is_new
              (covers_from x.of_rule.key.pattern k (subst (λ w. admits_port x.of_rule.key.pattern.in_port w ≡ true) host_x x.port) (subst (λ w. admits_vlan x.of_rule.key.pattern.vlan w.user ≡ true) v x.admits) p.2)
              (covers_from y.of_rule.key.pattern k (subst (λ w. admits_port y.of_rule.key.pattern.in_port w ≡ true) host_y y.port) y.admits q.2) (omega arith) in
              x.is ∙ ap (λ w. rule (32768 + x.of_rule.key.priority) (Some w) (test_of x.of_tag.user) x.of_rule.key.pattern.dst (ingress_action net s x.of_tag.tag x.of_rule.action)) (host_x ∙ sym host_y)
              ∙ ap (λ w. rule (32768 + w.key.priority) (Some y.host) (test_of x.of_tag.user) w.key.pattern.dst (ingress_action net s x.of_tag.tag w.action)) r
              ∙ ap (λ w. rule (32768 + y.of_rule.key.priority) (Some y.host) (test_of w.user) y.of_rule.key.pattern.dst (ingress_action net s w.tag y.of_rule.action)) v ∙ sym y.is)
          | inr y ↦ (let f = ap (λ z. z.key.priority) x.is in let g = ap (λ z. z.key.priority) y.is in let u = priority_above x.of_rule x.is_new in absurd (omega arith))
        ]
        | inr x ↦ elim (ingress_cases net s new b j) [
          | inl y ↦ (let f = ap (λ z. z.key.priority) x.is in let g = ap (λ z. z.key.priority) y.is in let u = priority_above y.of_rule y.is_new in absurd (omega arith))
          | inr y ↦ (
              let p = covers_as a _ h x.is c in
              let q = covers_as b _ h y.is d in
              let host : x.host ≡ y.host = same_port x.host y.host (eqb-true x.host.0 h.port.0 p.0 ∙ sym (eqb-true y.host.0 h.port.0 q.0)) in
              x.is ∙ ap (λ w. rule 32768 (Some w) test.Any every_address Discard) host ∙ sym y.is)
        ]
      ]

  -- two rules of a list with one priority that cover one header of a VLAN are one
  rules_same : (x y : Rule) → IsIn x new → IsIn y new → (port : Port) → admits_port x.key.pattern.in_port port ≡ true → admits_port y.key.pattern.in_port port ≡ true → (v : Vlan)
      → admits_vlan x.key.pattern.vlan v ≡ true → admits_vlan y.key.pattern.vlan v ≡ true → x.key.pattern.dst ≡ y.key.pattern.dst → x.key.priority ≡ y.key.priority → x ≡ y
  rules_same x y i j port px py v vx vy dst prio =
      let h = header port v x.key.pattern.dst.base in
      clear h x y i j (covers_from x.key.pattern h px vx (base_in x.key.pattern.dst)) (covers_from y.key.pattern h py vy (subst (λ b. in_block b x.key.pattern.dst.base ≡ true) dst (base_in x.key.pattern.dst))) prio

  list_distinct : IsDistinct new
  list_distinct = distinct_members (λ r. r.key) new table

  pub tagged_distinct : IsTable (tagged_rules net s new)
  tagged_distinct =
      distinct_append (λ r. r.key) (flat_map free new) (map default (tags_of net))
      (distinct_flat_map (λ r. r.key) free new list_distinct (λ r _. free_distinct r) free_told)
      (distinct_images default (λ r. r.key) (tags_of net) tags.distinct (λ v w i j e. tags.by_tag v w i j (let f : test.Id v.tag ≡ test.Id w.tag = ap (λ k. k.pattern.vlan) e in let g : v.tag ≡ w.tag = cc in g)))
      (λ a b i j e.
      let (r, k, l) = in_from_flat_map free a new i in
      let (v, m, is_a) = free_is r a l in
      let (w, n, is_b) = in_from_map default b (tags_of net) j in
      let f = ap (λ z. z.key.priority) is_a in
      let g = ap (λ z. z.key.priority) is_b in
      let h = ap (λ z. z.priority) e in
      let u = priority_above r k in
      absurd (omega arith))
    where
      copy : Rule → Tagged → Rule
      copy r v = rule (16384 + r.key.priority) r.key.pattern.in_port (test.Id v.tag) r.key.pattern.dst (tagged_action net s v.user r.action)

      free : Rule → List Rule
      free r = cond (is_host_bound net s r) [] (flat_map (tagged_copy net s r) (tags_of net))

      default : Tagged → Rule
      default v = rule 16384 None (test.Id v.tag) every_address Discard

      free_is : (r a : Rule) → IsIn a (free r) → (v : Tagged) × (IsIn v (tags_of net) × (admits_vlan r.key.pattern.vlan v.user ≡ true)) × (a ≡ copy r v)
      free_is r a i =
          let j : IsIn a (flat_map (tagged_copy net s r) (tags_of net)) = cond_both (is_host_bound net s r) [] (flat_map (tagged_copy net s r) (tags_of net)) (λ zs. IsIn a zs → IsIn a (flat_map (tagged_copy net s r) (tags_of net))) (λ _ k. absurd k) (λ _ k. k) i in
          let (v, k, l) = in_from_flat_map (tagged_copy net s r) a (tags_of net) j in
          let (admits, e) = in_when (admits_vlan r.key.pattern.vlan v.user) a (copy r v) l in
          (v, (k, admits), e)

      free_distinct : (r : Rule) → IsDistinct (map (λ x. x.key) (free r))
      free_distinct r =
          cond_both (is_host_bound net s r) [] (flat_map (tagged_copy net s r) (tags_of net)) (λ zs. IsDistinct (map (λ x. x.key) zs)) (λ _. tt)
          (λ _. distinct_flat_map (λ x. x.key) (tagged_copy net s r) (tags_of net) tags.distinct (λ v _. when_distinct (λ x. x.key) (admits_vlan r.key.pattern.vlan v.user) (copy r v))
          (λ v w a b i j k l e.
          let f = (in_when (admits_vlan r.key.pattern.vlan v.user) a (copy r v) k).1 in
          let g = (in_when (admits_vlan r.key.pattern.vlan w.user) b (copy r w) l).1 in
          let h : test.Id v.tag ≡ test.Id w.tag = sym (ap (λ x. x.key.pattern.vlan) f) ∙ ap (λ x. x.pattern.vlan) e ∙ ap (λ x. x.key.pattern.vlan) g in
          let m : v.tag ≡ w.tag = cc in
          tags.by_tag v w i j m))

      free_told : (x y a b : Rule) → IsIn x new → IsIn y new → IsIn a (free x) → IsIn b (free y) → a.key ≡ b.key → x ≡ y
      free_told x y a b i j k l e =
          let (v, (iv, av), f) = free_is x a k in
          let (w, (iw, aw), g) = free_is y b l in
          let key : (copy x v).key ≡ (copy y w).key = sym (ap (λ z. z.key) f) ∙ e ∙ ap (λ z. z.key) g in
          let h : test.Id v.tag ≡ test.Id w.tag = ap (λ z. z.pattern.vlan) key in
          let m : v.tag ≡ w.tag = cc in
          let same : v ≡ w = tags.by_tag v w iv iw m in
          let port : x.key.pattern.in_port ≡ y.key.pattern.in_port = ap (λ z. z.pattern.in_port) key in
          let n = ap (λ z. z.priority) key in
          rules_same x y i j (a_port x.key.pattern.in_port) (admits_a_port x.key.pattern.in_port) (subst (λ o. admits_port o (a_port x.key.pattern.in_port) ≡ true) port (admits_a_port x.key.pattern.in_port)) v.user av
          (subst (λ z. admits_vlan y.key.pattern.vlan z.user ≡ true) (sym same) aw) (ap (λ z. z.pattern.dst) key) (omega arith)

  pub ingress_distinct : IsTable (ingress_rules net s new)
  ingress_distinct =
      distinct_append (λ r. r.key) (flat_map by_host (hosts_of net s)) (map default (hosts_of net s))
      (distinct_flat_map (λ r. r.key) by_host (hosts_of net s) (hosts_distinct net is s) (λ host _. host_distinct host)
      (λ p q a b i j k l e.
      let (r, v, _, f) = of_host p a k in
      let (t, w, _, g) = of_host q b l in
      let h : Some p ≡ Some q = sym (ap (λ z. z.key.pattern.in_port) f) ∙ ap (λ z. z.pattern.in_port) e ∙ ap (λ z. z.key.pattern.in_port) g in
      cc))
      (distinct_images default (λ r. r.key) (hosts_of net s) (hosts_distinct net is s) (λ p q i j e. let h : Some p ≡ Some q = ap (λ k. k.pattern.in_port) e in cc))
      (λ a b i j e.
      let (host, k, l) = in_from_flat_map by_host a (hosts_of net s) i in
      let (r, v, m, f) = of_host host a l in
      let (p, n, g) = in_from_map default b (hosts_of net s) j in
      let x = ap (λ z. z.key.priority) f in
      let y = ap (λ z. z.key.priority) g in
      let h = ap (λ z. z.priority) e in
      let u = priority_above r m.0 in
      absurd (omega arith))
    where
      copy : Port → Rule → Tagged → Rule
      copy host r v = rule (32768 + r.key.priority) (Some host) (test_of v.user) r.key.pattern.dst (ingress_action net s v.tag r.action)

      by_rule : Port → Rule → List Rule
      by_rule host r = flat_map (ingress_copy net s host r) (tags_of net)

      by_host : Port → List Rule
      by_host host = flat_map (by_rule host) new

      default : Port → Rule
      default host = rule 32768 (Some host) test.Any every_address Discard

      of_rule : (host : Port) (r a : Rule) → IsIn a (by_rule host r) → (v : Tagged) × (IsIn v (tags_of net) × (admits_port r.key.pattern.in_port host ≡ true) × (admits_vlan r.key.pattern.vlan v.user ≡ true)) × (a ≡ copy host r v)
      of_rule host r a i =
          let (v, k, l) = in_from_flat_map (ingress_copy net s host r) a (tags_of net) i in
          let (both, e) = in_when (admits_port r.key.pattern.in_port host && admits_vlan r.key.pattern.vlan v.user) a (copy host r v) l in
          let (port, admits) = and_parts (admits_port r.key.pattern.in_port host) (admits_vlan r.key.pattern.vlan v.user) both in
          (v, (k, port, admits), e)

      of_host : (host : Port) (a : Rule) → IsIn a (by_host host) → (r : Rule) × (v : Tagged) × (IsIn r new × Unit {0}) × (a ≡ copy host r v)
      of_host host a i =
          let (r, j, k) = in_from_flat_map (by_rule host) a new i in
          let (v, _, e) = of_rule host r a k in
          (r, v, (j, tt), e)

      named_same : (v w : Vlan) → test_of v ≡ test_of w → v ≡ w
      named_same v w e = named_is v w (subst (λ t. admits_vlan t w ≡ true) (sym e) (names_it w))

      host_distinct : (host : Port) → IsDistinct (map (λ x. x.key) (by_host host))
      host_distinct host =
          distinct_flat_map (λ x. x.key) (by_rule host) new list_distinct
          (λ r _. distinct_flat_map (λ x. x.key) (ingress_copy net s host r) (tags_of net) tags.distinct
          (λ v _. when_distinct (λ x. x.key) (admits_port r.key.pattern.in_port host && admits_vlan r.key.pattern.vlan v.user) (copy host r v))
          (λ v w a b i j k l e.
          let f = (in_when (admits_port r.key.pattern.in_port host && admits_vlan r.key.pattern.vlan v.user) a (copy host r v) k).1 in
          let g = (in_when (admits_port r.key.pattern.in_port host && admits_vlan r.key.pattern.vlan w.user) b (copy host r w) l).1 in
          let h : test_of v.user ≡ test_of w.user = sym (ap (λ x. x.key.pattern.vlan) f) ∙ ap (λ x. x.pattern.vlan) e ∙ ap (λ x. x.key.pattern.vlan) g in
          tags.by_user v w i j (named_same v.user w.user h)))
          (λ x y a b i j k l e.
          let (v, (iv, pv, av), f) = of_rule host x a k in
          let (w, (iw, pw, aw), g) = of_rule host y b l in
          let key : (copy host x v).key ≡ (copy host y w).key = sym (ap (λ z. z.key) f) ∙ e ∙ ap (λ z. z.key) g in
          let same : v.user ≡ w.user = named_same v.user w.user (ap (λ z. z.pattern.vlan) key) in
          let n = ap (λ z. z.priority) key in
          rules_same x y i j host pv pw v.user av (subst (λ z. admits_vlan y.key.pattern.vlan z ≡ true) (sym same) aw) (ap (λ z. z.pattern.dst) key) (omega arith))

in_with_rule : (r q : Rule) (rs : List Rule) → (q ≡ r) ⊎ IsIn q rs → IsIn q (with_rule r rs)
in_with_rule r q [] i = i
in_with_rule r q (x ∷ rs) i =
    cond_both (is_lt (key_cmp r.key x.key)) (r ∷ x ∷ rs) (x ∷ with_rule r rs) (IsIn q) (λ _. i)
    (λ _. elim i [ inl e ↦ inr (in_with_rule r q rs (inl e)) | inr j ↦ elim j [ inl e ↦ inl e | inr k ↦ inr (in_with_rule r q rs (inr k)) ] ])

pub from_with_rule : (r q : Rule) (rs : List Rule) → IsIn q (with_rule r rs) → (q ≡ r) ⊎ IsIn q rs
from_with_rule r q [] i = i
from_with_rule r q (x ∷ rs) i =
    cond_both (is_lt (key_cmp r.key x.key)) (r ∷ x ∷ rs) (x ∷ with_rule r rs) (λ zs. IsIn q zs → (q ≡ r) ⊎ IsIn q (x ∷ rs)) (λ _ j. j)
    (λ _ j. elim j [ inl e ↦ inr (inl e) | inr k ↦ elim (from_with_rule r q rs k) [ inl e ↦ inl e | inr n ↦ inr (inr n) ] ]) i

pub in_ordered : (q : Rule) (rs : List Rule) → IsIn q rs → IsIn q (in_key_order rs)
in_ordered q [] i = i
in_ordered q (r ∷ rs) (inl e) = in_with_rule r q (in_key_order rs) (inl e)
in_ordered q (r ∷ rs) (inr i) = in_with_rule r q (in_key_order rs) (inr (in_ordered q rs i))

pub from_ordered : (q : Rule) (rs : List Rule) → IsIn q (in_key_order rs) → IsIn q rs
from_ordered q [] i = i
from_ordered q (r ∷ rs) i = elim (from_with_rule r q (in_key_order rs) i) [ inl e ↦ inl e | inr j ↦ inr (from_ordered q rs j) ]

with_rule_distinct : (r : Rule) (rs : List Rule) → ¬ IsIn r rs → IsDistinct rs → IsDistinct (with_rule r rs)
with_rule_distinct r [] fresh distinct = (fresh, tt)
with_rule_distinct r (x ∷ rs) fresh distinct =
    cond_both (is_lt (key_cmp r.key x.key)) (r ∷ x ∷ rs) (x ∷ with_rule r rs) IsDistinct (λ _. (fresh, distinct))
    (λ _. (λ i. elim (from_with_rule r x rs i) [ inl e ↦ fresh (inl (sym e)) | inr j ↦ distinct.0 j ], with_rule_distinct r rs (λ i. fresh (inr i)) distinct.1))

ordered_distinct : (rs : List Rule) → IsDistinct rs → IsDistinct (in_key_order rs)
ordered_distinct [] distinct = tt
ordered_distinct (r ∷ rs) distinct = with_rule_distinct r (in_key_order rs) (λ i. distinct.0 (from_ordered r rs i)) (ordered_distinct rs distinct.1)

switches_distinct : (net : Network) → IsDistinct (switches net)
switches_distinct net =
    distinct_map (λ (n : ℕ). let s : SwitchId = record { 0 = n } in s) (numbers_from 0 (switch_count net)) (numbers_distinct 0 (switch_count net)) (λ m n i j e. ap (λ x. x.0) e)

module _ (net : Network) (change : SwitchId → Rule → Change) (switch_is : (s : SwitchId) (r : Rule) → switch_of (change s r) ≡ s) (rule_is : (s : SwitchId) (r : Rule) → rule_of (change s r) ≡ r)
    (rules : SwitchId → List Rule) (tables : (s : SwitchId) → IsTable (rules s)) where
  abbrev there : SwitchId → List Change
  there s = map (change s) (in_key_order (rules s))

  there_is : (s : SwitchId) (c : Change) → IsIn c (there s) → (r : Rule) × IsIn r (rules s) × (c ≡ change s r)
  there_is s c i = let (r, j, e) = in_from_map (change s) c (in_key_order (rules s)) i in (r, from_ordered r (rules s) j, e)

  pub by_switch_sweeps : IsSweep (switch_count net) change rules (by_switch net change rules)
  by_switch_sweeps = record {
    each = λ c i.
        let (s, j, k) = in_from_flat_map there c (switches net) i in
        let (r, l, e) = there_is s c k in
        let (n, m, f) = in_from_map (λ (n : ℕ). let s : SwitchId = record { 0 = n } in s) s (numbers_from 0 (switch_count net)) j in
        let b = numbers_below 0 (switch_count net) n m in
        let g = ap (λ x. x.0) f in
        (s, r, e, omega arith, l);
    every = λ s r within i.
        in_flat_map there s (change s r) (switches net)
        (in_map (λ (n : ℕ). let s : SwitchId = record { 0 = n } in s) s.0 (numbers_from 0 (switch_count net)) (in_numbers 0 (switch_count net) s.0 (omega arith) (omega arith)))
        (in_map (change s) r (in_key_order (rules s)) (in_ordered r (rules s) i));
    distinct = distinct_flat_map entry_named there (switches net) (switches_distinct net)
        (λ s _. distinct_images (change s) entry_named (in_key_order (rules s)) (ordered_distinct (rules s) (distinct_members (λ r. r.key) (rules s) (tables s))) (λ x y i j e.
        let k : x.key ≡ y.key = sym (ap (λ r. r.key) (rule_is s x)) ∙ ap (λ n. n.key) e ∙ ap (λ r. r.key) (rule_is s y) in
        told_from_distinct (λ r. r.key) (rules s) (tables s) x y (from_ordered x (rules s) i) (from_ordered y (rules s) j) k))
        (λ s t a b i j k l e.
        let (x, _, f) = there_is s a k in
        let (y, _, g) = there_is t b l in
        sym (switch_is s x) ∙ sym (ap switch_of f) ∙ ap (λ n. n.switch) e ∙ ap switch_of g ∙ switch_is t y);
  }
