-- Marked rules of which no two clash, in whatever order they stand.
use Rattle.std.proofs.Common.{◌≡◌, ℕ, zero, suc, true, List, [], ◌∷◌, refl, subst, ap, arith}
use Rattle.std.specs.Prelude.{Option, Some, None, IsPermutation}
use Rattle.std.proofs.lemmas.Bool.{eq-eqb, and_from, or_left}
use Rattle.std.proofs.lemmas.List.Sorted.{IsPermutation-map, IsPermutation-sym}
use Rattle.net_base.specs.Blocks.{in_block}
use Rattle.net_base.specs.Members.{IsDistinct}
use Rattle.net_base.specs.declared.ids.Port.{Port}
use Rattle.net_base.proofs.ItemLaws.{get_from_in}
use Rattle.net_base.proofs.MemberLaws.{in_from_map}
use Rattle.flow_rules.specs.Patterns.{covers}
use Rattle.flow_rules.specs.Overlaps.{IsClash, ports_meet, vlans_meet, patterns_meet}
use Rattle.flow_rules.specs.Frees.{IsFree}
use Rattle.flow_rules.specs.Tables.{keys_of}
use Rattle.flow_rules.specs.declared.rules.Key.{Key}
use Rattle.flow_rules.specs.declared.rules.Rule.{Rule}
use Rattle.flow_rules.specs.declared.rules.Pattern.{Pattern}
use Rattle.flow_rules.specs.declared.rules.VlanTest.{VlanTest}
use Rattle.flow_rules.specs.declared.rules.VlanTest.TheVariants as test
use Rattle.flow_rules.proofs.DistinctLaws.{keys_moved}
use Rattle.flow_rules.proofs.OverlapLaws.{base_in, meet_in}
use Rattle.round_mix.specs.Apart.{AreApart}
use Rattle.round_mix.specs.Marks.{rules_of}
use Rattle.round_mix.specs.declared.MarkedRule.{MarkedRule}
use Rattle.round_mix.proofs.ClearLaws.{members_from_free, alone_from_sorted}

-- a pattern meets itself
ports_self : (p : Option Port) → ports_meet p p ≡ true
ports_self None = refl
ports_self (Some p) = eq-eqb p.0 p.0 refl

vlans_self : (t : VlanTest) → vlans_meet t t ≡ true
vlans_self test.Any = refl
vlans_self test.Untagged = refl
vlans_self (test.Id n) = eq-eqb n n refl

meets_self : (p : Pattern) → patterns_meet p p ≡ true
meets_self p = and_from _ _ (and_from _ _ (ports_self p.in_port) (vlans_self p.vlan)) (or_left (in_block p.dst p.dst.base) (in_block p.dst p.dst.base) (base_in p.dst))

-- rules of one key clash
pub same_clash : (r q : Rule) → r.key ≡ q.key → IsClash r q
same_clash r q e =
    let (h, over, _) = meet_in r.key.pattern r.key.pattern (meets_self r.key.pattern) in
    record { priority = ap (λ (k : Key). k.priority) e; header = h; first = over; second = subst (λ (k : Key). covers k.pattern h ≡ true) e over }

-- so where none clash no key stands twice
keys_free : (rs : List Rule) → ((i : ℕ) → IsFree rs i) → IsDistinct (keys_of rs)
keys_free [] free = tt
keys_free (r ∷ rs) free = (
  λ i.
      let (q, j, e) = in_from_map (λ (x : Rule). x.key) r.key rs i in
      let (k, at) = get_from_in rs q j in
      free zero (suc k) (omega arith) (record { one = r; other = q; one_at = refl; other_at = at; clash = same_clash r q e }),
  keys_free rs (λ i j less at. free (suc i) (suc j) (omega arith) (record { one = at.one; other = at.other; one_at = at.one_at; other_at = at.other_at; clash = at.clash })),
)

-- where no two positions clash the rules are apart
pub apart_from_free : (ms : List MarkedRule) → ((i : ℕ) → IsFree (rules_of ms) i) → AreApart ms
apart_from_free ms free = record { distinct = keys_free (rules_of ms) free; alone = members_from_free ms free }

-- and stay so when they change places
pub apart_moved : (ms ns : List MarkedRule) → IsPermutation ms ns → AreApart ms → AreApart ns
apart_moved ms ns moved apart = record {
  distinct = keys_moved (keys_of (rules_of ms)) (keys_of (rules_of ns))
      (IsPermutation-map (λ (r : Rule). r.key) (rules_of ms) (rules_of ns) (IsPermutation-map (λ (m : MarkedRule). m.rule) ms ns moved)) apart.distinct;
  alone = alone_from_sorted ns ms (IsPermutation-sym ms ns moved) apart.alone;
}
