-- The best rule for a packet: it covers, and no rule that covers is above it.
use Rattle.std.proofs.Common.{◌≡◌, ◌⊎◌, ◌≤◌, true, List, [], ◌∷◌, refl, sym, subst, ap, inl, inr}
use Rattle.std.specs.Option.{option_map_or}
use Rattle.net_base.specs.Members.{IsIn}
use Rattle.net_base.proofs.MemberLaws.{in_filter, in_from_filter}
use Rattle.flow_rules.specs.Patterns.{Header, covers}
use Rattle.flow_rules.specs.Tables.{covering_rules, lookup, IsClear}
use Rattle.flow_rules.specs.declared.rules.Rule.{Rule}
use Rattle.flow_rules.specs.declared.rules.Action.TheVariants.{Discard}
use Rattle.flow_rules.proofs.LookupLaws.{top_of, matched_is_top, matched_none}

-- the best of the rules for a packet
pub record IsBest (h : Header) (rules : List Rule) (r : Rule) : Type 0 where
  pub here : IsIn r rules
  pub covering_it : covers r.key.pattern h ≡ true
  pub above : (q : Rule) → IsIn q rules → covers q.key.pattern h ≡ true → q.key.priority ≤ r.key.priority

-- no rule covers the packet
abbrev pub CoversNone : Header → List Rule → Type 0
CoversNone h rules = (q : Rule) → IsIn q rules → covers q.key.pattern h ≡ true → ⊥

pub best_or_none : (h : Header) (rules : List Rule) → CoversNone h rules ⊎ ((r : Rule) × IsBest h rules r)
best_or_none h rules = of (covering_rules h rules) refl
  where
    of : (zs : List Rule) → zs ≡ covering_rules h rules → CoversNone h rules ⊎ ((r : Rule) × IsBest h rules r)
    of [] e = inl (λ q i c. subst (λ zs. IsIn q zs) (sym e) (in_filter (λ r. covers r.key.pattern h) q rules i c))
    of (z ∷ zs) e =
        let (m, i, top) = top_of z zs in
        let j : IsIn m (covering_rules h rules) = subst (λ rs. IsIn m rs) e i in
        let (k, c) = in_from_filter (λ r. covers r.key.pattern h) m rules j in
        inr (
          m,
          record {
            here = k;
            covering_it = c;
            above = λ q l d. top q (subst (λ rs. IsIn q rs) (sym e) (in_filter (λ r. covers r.key.pattern h) q rules l d));
          },
        )

pub lookup_best : (h : Header) (rules : List Rule) (r : Rule) → IsClear rules → IsBest h rules r → lookup h rules ≡ r.action
lookup_best h rules r clear best =
    ap (λ m. option_map_or (λ q. q.action) m Discard)
    (matched_is_top h rules clear r (in_filter (λ q. covers q.key.pattern h) r rules best.here best.covering_it)
    (λ q i. let (j, c) = in_from_filter (λ x. covers x.key.pattern h) q rules i in best.above q j c))

pub lookup_none : (h : Header) (rules : List Rule) → CoversNone h rules → lookup h rules ≡ Discard
lookup_none h rules none =
    ap (λ m. option_map_or (λ q. q.action) m Discard)
    (matched_none h rules (λ q i. let (j, c) = in_from_filter (λ x. covers x.key.pattern h) q rules i in none q j c))
