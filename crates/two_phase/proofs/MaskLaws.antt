-- What a lookup gives while the bands stand: the tag defaults hide the raw rules from tagged packets, the host defaults from entering ones.
use Rattle.std.proofs.Common.{◌≡◌, ◌⊎◌, ℕ, ◌+◌, ◌<◌, ◌≤◌, ◌^◌, true, false, List, refl, sym, ◌∙◌, subst, ap, inl, inr, arith}
use Rattle.std.specs.Prelude.{Option, Some, None}
use Rattle.std.specs.Option.{option_map_or}
use Rattle.std.specs.List.{AllByRecursion}
use Rattle.std.proofs.lemmas.Bool.{eqb-true, eq-eqb, both_ways, cases_lt}
use Rattle.net_base.specs.Members.{IsIn}
use Rattle.net_base.proofs.MemberLaws.{in_filter, in_from_filter, each_at}
use Rattle.net_base.specs.declared.ids.SwitchId.{SwitchId}
use Rattle.net_base.specs.declared.ids.Port.{Port}
use Rattle.net_base.specs.declared.ids.Vlan.{Vlan}
use Rattle.net_base.specs.declared.ids.Vlan.TheVariants as vlan
use Rattle.topology.specs.Networks.{Network}
use Rattle.flow_rules.specs.Patterns.{Header, covers, admits_port, admits_vlan}
use Rattle.flow_rules.specs.Tables.{lookup, IsClear}
use Rattle.flow_rules.specs.declared.rules.VlanTest.TheVariants as test
use Rattle.flow_rules.specs.declared.rules.Action.TheVariants.{Discard}
use Rattle.flow_rules.specs.declared.rules.Rule.{Rule}
use Rattle.flow_rules.proofs.LookupLaws.{lookup_by_set}
use Rattle.path_walk.specs.UserConfigs.{IsUserRule}
use Rattle.tag_allocator.specs.Tags.{Tagged, tags_of}
use Rattle.table_difference.specs.SameClasses.{every_address}
use Rattle.two_phase.specs.TwoPhasePlan.{is_host, test_of, tagged_action, ingress_action, rule, tagged_rules, hosts_of, ingress_rules}
use Rattle.flow_rules.proofs.BestLaws.{IsBest, best_or_none, lookup_best, lookup_none}
use Rattle.two_phase.proofs.TagLaws.{IsTagging}
use Rattle.net_base.proofs.NameLaws.{same_port}
use Rattle.two_phase.proofs.BandLaws.{header, covers_parts, covers_as, covers_from, every_has, names_it, named_is, id_is, is_host_in, IsCopy, IsEntering, tagged_cases, copy_in, tag_default_in, ingress_cases, entering_in, ingress_low}

-- a rule below the bands
abbrev pub IsRaw : Rule → Type 0
IsRaw r = r.key.priority ≤ 16383

-- a mixture of a two-phase plan at a switch: clear; raw rules and rules of the bands; and with an ingress rule all that are above it and cover a packet of it
pub record IsBanded (net : Network) (s : SwitchId) (new mixed : List Rule) : Type 0 where
  pub clear : IsClear mixed
  pub kinds : (q : Rule) → IsIn q mixed → IsRaw q ⊎ (IsIn q (tagged_rules net s new) ⊎ IsIn q (ingress_rules net s new))
  pub up : (q p : Rule) → IsIn q mixed → IsIn q (ingress_rules net s new) → IsIn p (ingress_rules net s new) → (h : Header) → covers q.key.pattern h ≡ true → covers p.key.pattern h ≡ true
      → q.key.priority < p.key.priority → IsIn p mixed

-- the raw rules are those of a table
pub record HasRaw (table mixed : List Rule) : Type 0 where
  pub to : (q : Rule) → IsIn q mixed → IsRaw q → IsIn q table
  pub from : (q : Rule) → IsIn q table → IsIn q mixed

-- all rules of a list stand there, or none
abbrev pub HasAll : List Rule → List Rule → Type 0
HasAll rules mixed = (q : Rule) → IsIn q rules → IsIn q mixed

abbrev pub HasNone : List Rule → List Rule → Type 0
HasNone rules mixed = (q : Rule) → IsIn q rules → IsIn q mixed → ⊥

unbound : (net : Network) (s : SwitchId) (o : Option Port) (port : Port) → admits_port o port ≡ true → is_host net s port ≡ false → option_map_or (is_host net s) o false ≡ false
unbound net s None port e not_host = refl
unbound net s (Some p) port e not_host = subst (λ x. is_host net s x ≡ false) (sym (same_port p port (eqb-true p.0 port.0 e))) not_host

module _ (net : Network) (tags : IsTagging net) (s : SwitchId) (new : List Rule) (clear : IsClear new) (user : AllByRecursion (IsUserRule net s) new) (port : Port) (dst : ℕ) where
  priority_user : (r : Rule) → IsIn r new → (1 ≤ r.key.priority) × (r.key.priority ≤ 16383)
  priority_user r i = let u = each_at (IsUserRule net s) new r user i in (u.above, u.below)

  -- an ingress rule that covers is one of the packet's port
  ingress_port : (v : Vlan) (q : Rule) → IsIn q (ingress_rules net s new) → covers q.key.pattern (header port v dst) ≡ true → IsIn port (hosts_of net s)
  ingress_port v q i c =
      elim (ingress_cases net s new q i) [
        | inl e ↦ (
            let parts = covers_as q _ (header port v dst) e.is c in
            subst (λ x. IsIn x (hosts_of net s)) (same_port e.host port (eqb-true e.host.0 port.0 parts.0)) e.is_host_port)
        | inr e ↦ (
            let parts = covers_as q _ (header port v dst) e.is c in
            subst (λ x. IsIn x (hosts_of net s)) (same_port e.host port (eqb-true e.host.0 port.0 parts.0)) e.is_host_port)
      ]

  -- away from host ports no ingress rule covers
  pub no_ingress : (v : Vlan) → is_host net s port ≡ false → (q : Rule) → IsIn q (ingress_rules net s new) → covers q.key.pattern (header port v dst) ≡ true → ⊥
  no_ingress v not_host q i c = both_ways (is_host net s port) not_host (is_host_in net s port (ingress_port v q i c))

  -- a tagged rule covers no packet with a declared VLAN
  no_tagged : (v : Vlan) → IsIn v net.vlans → (q : Rule) → IsIn q (tagged_rules net s new) → covers q.key.pattern (header port v dst) ≡ true → ⊥
  no_tagged v declared q i c =
      elim (tagged_cases net s new q i) [
        | inl e ↦ (
            let parts = covers_as q _ (header port v dst) e.is c in
            tags.undeclared e.of_tag e.is_tag (subst (λ x. IsIn x net.vlans) (id_is e.of_tag.tag v parts.1) declared))
        | inr e ↦ (
            let parts = covers_as q _ (header port v dst) e.is c in
            tags.undeclared e.of_tag e.is_tag (subst (λ x. IsIn x net.vlans) (id_is e.of_tag.tag v parts.1) declared))
      ]

  module _ (mixed : List Rule) (banded : IsBanded net s new mixed) where
    -- where no ingress rule of the mixture covers, the raw rules decide for a declared VLAN
    pub raw_lookup : (v : Vlan) → IsIn v net.vlans → ((q : Rule) → IsIn q (ingress_rules net s new) → IsIn q mixed → covers q.key.pattern (header port v dst) ≡ true → ⊥)
        → (table : List Rule) → IsClear table → HasRaw table mixed → lookup (header port v dst) mixed ≡ lookup (header port v dst) table
    raw_lookup v declared none table clear_table raw =
        lookup_by_set (header port v dst) mixed table banded.clear clear_table (λ q. (
          (λ i.
              let (j, c) = in_from_filter (λ r. covers r.key.pattern (header port v dst)) q mixed i in
              in_filter (λ r. covers r.key.pattern (header port v dst)) q table
              (elim (banded.kinds q j) [
                | inl low ↦ raw.to q j low
                | inr band ↦ elim band [ inl t ↦ absurd (no_tagged v declared q t c) | inr g ↦ absurd (none q g j c) ]
              ]) c),
          (λ i.
              let (j, c) = in_from_filter (λ r. covers r.key.pattern (header port v dst)) q table i in
              in_filter (λ r. covers r.key.pattern (header port v dst)) q mixed (raw.from q j) c),
        ))

    module _ (v : Tagged) (is_tag : IsIn v (tags_of net)) (small : dst < 2 ^ 32) where
      abbrev carried : Header
      carried = header port (vlan.Id v.tag) dst

      abbrev plain : Header
      plain = header port v.user dst

      copy_covers : (q : Rule) (c : IsCopy net s new q) → covers q.key.pattern carried ≡ true → (c.of_tag ≡ v) × (covers c.of_rule.key.pattern plain ≡ true)
      copy_covers q c covered =
          let parts = covers_as q _ carried c.is covered in
          let same : c.of_tag ≡ v = tags.by_tag c.of_tag v c.is_tag is_tag (eqb-true c.of_tag.tag v.tag parts.1) in
          (same, covers_from c.of_rule.key.pattern plain parts.0 (subst (λ x. admits_vlan c.of_rule.key.pattern.vlan x.user ≡ true) same c.admits) parts.2)

      -- the tagged rules decide for a packet that carries a tag
      pub tagged_lookup : is_host net s port ≡ false → HasAll (tagged_rules net s new) mixed → lookup carried mixed ≡ tagged_action net s v.user (lookup plain new)
      tagged_lookup not_host all =
          elim (best_or_none plain new) [
            | inl none ↦ (
                let d = rule 16384 None (test.Id v.tag) every_address Discard in
                let best : IsBest carried mixed d = record {
                  here = all d (tag_default_in net s new v is_tag);
                  covering_it = covers_from d.key.pattern carried refl (eq-eqb v.tag v.tag refl) (every_has dst small);
                  above = λ q i c. elim (banded.kinds q i) [
                    | inl low ↦ omega arith
                    | inr band ↦ elim band [
                      | inl t ↦ elim (tagged_cases net s new q t) [
                        | inl copy ↦ (let (same, covered) = copy_covers q copy c in absurd (none copy.of_rule copy.is_new covered))
                        | inr default ↦ (let e = ap (λ x. x.key.priority) default.is in omega arith)
                      ]
                      | inr g ↦ absurd (no_ingress (vlan.Id v.tag) not_host q g c)
                    ]
                  ];
                } in
                lookup_best carried mixed d banded.clear best ∙ sym (ap (tagged_action net s v.user) (lookup_none plain new none)))
            | inr found ↦ (
                let (r, top) = found in
                let parts = covers_parts r.key.pattern plain top.covering_it in
                let d = rule (16384 + r.key.priority) r.key.pattern.in_port (test.Id v.tag) r.key.pattern.dst (tagged_action net s v.user r.action) in
                let copy : IsCopy net s new d = record {
                  of_rule = r;
                  of_tag = v;
                  is_new = top.here;
                  is_tag = is_tag;
                  free = unbound net s r.key.pattern.in_port port parts.0 not_host;
                  admits = parts.1;
                  is = refl;
                } in
                let best : IsBest carried mixed d = record {
                  here = all d (copy_in net s new d copy);
                  covering_it = covers_from d.key.pattern carried parts.0 (eq-eqb v.tag v.tag refl) parts.2;
                  above = λ q i c. elim (banded.kinds q i) [
                    | inl low ↦ omega arith
                    | inr band ↦ elim band [
                      | inl t ↦ elim (tagged_cases net s new q t) [
                        | inl other ↦ (
                            let (same, covered) = copy_covers q other c in
                            let e = ap (λ x. x.key.priority) other.is in
                            let le = top.above other.of_rule other.is_new covered in
                            omega arith)
                        | inr default ↦ (let e = ap (λ x. x.key.priority) default.is in omega arith)
                      ]
                      | inr g ↦ absurd (no_ingress (vlan.Id v.tag) not_host q g c)
                    ]
                  ];
                } in
                lookup_best carried mixed d banded.clear best ∙ sym (ap (tagged_action net s v.user) (lookup_best plain new r clear top)))
          ]

      entering_covers : (q : Rule) (c : IsEntering net s new q) → covers q.key.pattern plain ≡ true → (c.of_tag ≡ v) × (covers c.of_rule.key.pattern plain ≡ true)
      entering_covers q c covered =
          let parts = covers_as q _ plain c.is covered in
          let same : c.of_tag ≡ v = tags.by_user c.of_tag v c.is_tag is_tag (named_is c.of_tag.user v.user parts.1) in (
            same,
            covers_from c.of_rule.key.pattern plain
                (subst (λ x. admits_port c.of_rule.key.pattern.in_port x ≡ true) (same_port c.host port (eqb-true c.host.0 port.0 parts.0)) c.port)
                (subst (λ x. admits_vlan c.of_rule.key.pattern.vlan x.user ≡ true) same c.admits) parts.2,
          )

      -- where an ingress rule of the mixture is the best, the ingress rules decide as the new rules do
      entered : (q : Rule) → IsBest plain mixed q → IsIn q (ingress_rules net s new) → lookup plain mixed ≡ ingress_action net s v.tag (lookup plain new)
      entered q best is_ingress =
          let at_host = ingress_port v.user q is_ingress best.covering_it in
          elim (best_or_none plain new) [
            | inl none ↦ (
                elim (ingress_cases net s new q is_ingress) [
                  | inl copy ↦ (let (same, covered) = entering_covers q copy best.covering_it in absurd (none copy.of_rule copy.is_new covered))
                  | inr default ↦ lookup_best plain mixed q banded.clear best ∙ ap (λ x. x.action) default.is ∙ sym (ap (ingress_action net s v.tag) (lookup_none plain new none))
                ])
            | inr found ↦ (
                let (r, top) = found in
                let parts = covers_parts r.key.pattern plain top.covering_it in
                let d = rule (32768 + r.key.priority) (Some port) (test_of v.user) r.key.pattern.dst (ingress_action net s v.tag r.action) in
                let is_copy : IsEntering net s new d = record { host = port; of_rule = r; of_tag = v; is_host_port = at_host; is_new = top.here; is_tag = is_tag; port = parts.0; admits = parts.1; is = refl } in
                let d_in = entering_in net s new d is_copy in
                let d_covers : covers d.key.pattern plain ≡ true = covers_from d.key.pattern plain (eq-eqb port.0 port.0 refl) (names_it v.user) parts.2 in
                let high : ¬ (q.key.priority < d.key.priority) = λ less.
                let le = best.above d (banded.up q d best.here is_ingress d_in plain best.covering_it d_covers less) d_covers in absurd (omega arith) in
                elim (ingress_cases net s new q is_ingress) [
                  | inl copy ↦ (
                      let (same, covered) = entering_covers q copy best.covering_it in
                      let e = ap (λ x. x.key.priority) copy.is in
                      let le = top.above copy.of_rule copy.is_new covered in
                      let prio : copy.of_rule.key.priority ≡ r.key.priority = equal copy.of_rule.key.priority r.key.priority le (λ less. high (omega arith)) in
                      let rule_is : copy.of_rule ≡ r = clear plain copy.of_rule r copy.is_new top.here covered top.covering_it prio in
                      lookup_best plain mixed q banded.clear best ∙ ap (λ x. x.action) copy.is
                      ∙ ap (λ x. ingress_action net s x.tag copy.of_rule.action) same ∙ ap (λ x. ingress_action net s v.tag x.action) rule_is
                      ∙ sym (ap (ingress_action net s v.tag) (lookup_best plain new r clear top)))
                  | inr default ↦ (
                      let e = ap (λ x. x.key.priority) default.is in
                      let p = (priority_user r top.here).0 in
                      absurd (high (omega arith)))
                ])
          ]
        where
          equal : (a b : ℕ) → a ≤ b → ¬ (a < b) → a ≡ b
          equal a b le not_less = elim (cases_lt a b) [ inl less ↦ absurd (not_less less) | inr more ↦ omega arith ]

      -- an entering packet finds the ingress rules, or none of them covers it
      pub entering_lookup : (lookup plain mixed ≡ ingress_action net s v.tag (lookup plain new)) × ((q : Rule) × IsIn q (ingress_rules net s new) × IsIn q mixed)
          ⊎ ((q : Rule) → IsIn q (ingress_rules net s new) → IsIn q mixed → covers q.key.pattern plain ≡ true → ⊥)
      entering_lookup =
          elim (best_or_none plain mixed) [
            | inl none ↦ inr (λ q _ i c. none q i c)
            | inr found ↦ (
                let (q, best) = found in
                elim (banded.kinds q best.here) [
                  | inl low ↦ inr (λ p g i c. let le = best.above p i c in let high = ingress_low net s new user p g in absurd (omega arith))
                  | inr band ↦ elim band [
                    | inl t ↦ absurd (no_tagged v.user (tags.declared v is_tag) q t best.covering_it)
                    | inr g ↦ inl (entered q best g, (q, g, best.here))
                  ]
                ])
          ]
