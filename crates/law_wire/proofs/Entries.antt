-- What a flow message does to the entries of a table, and what the messages of a round lead to.
use Rattle.std.proofs.Common.{◌≡◌, ◌⊎◌, ℕ, Bool, true, false, cond, not, List, [], ◌∷◌, ◌++◌, map, refl, sym, ◌∙◌, subst, ap, inl, inr}
use Rattle.std.specs.Prelude.{◌↔◌, find, unwrap_or, Option, Some}
use Rattle.std.specs.List.{AllByRecursion}
use Rattle.std.proofs.lemmas.Bool.{cases_Bool, cond-true, cond-false, not-true, not_from_false, both_ways}
use Rattle.net_base.specs.Members.{IsIn, IsDistinct}
use Rattle.net_base.proofs.MemberLaws.{in_filter, in_from_filter, in_map, in_from_map, find_passes}
use Rattle.net_base.proofs.ListLaws.{told_from_distinct, any_in, in_from_any}
use Rattle.net_base.specs.declared.ids.SwitchId.{SwitchId}
use Rattle.flow_rules.specs.Patterns.{key_eq}
use Rattle.flow_rules.specs.Tables.{keys_of}
use Rattle.flow_rules.proofs.KeyLaws.{key_eq-true, key_eq-refl, key_eq-false, key_ne}
use Rattle.flow_rules.specs.declared.rules.Key.{Key}
use Rattle.flow_rules.specs.declared.rules.Rule.{Rule}
use Rattle.update_model.specs.Changes.{AppliesTo, rules_after}
use Rattle.update_model.specs.declared.Change.{Change}
use Rattle.update_model.specs.declared.Change.TheVariants.{Insert, Delete, Replace}
use Rattle.update_model.proofs.ChangeLaws.{key_named, writes_key, stands_from_in, in_from_stands, stands_all_from_in, in_from_stands_all}
use Rattle.update_model.proofs.Matches.{Writes}
use Rattle.openflow10.specs.Messages.{message_of}
use Rattle.openflow10.specs.declared.Verb.{Verb}
use Rattle.openflow10.specs.declared.Verb.TheVariants.{Add, Modify, Remove}
use Rattle.openflow10.specs.declared.FlowMod.{FlowMod}
use Rattle.openflow10.specs.declared.Message.TheVariants.{Flow}
use Rattle.law_two_way_runs.specs.Inverse.{rule_with, inverse_of}
use Rattle.law_two_way_runs.proofs.Inverses.{key_inverse}
use Rattle.law_wire.specs.Carried.{has_rule, placed, carried_by, carried}

-- ---- a message and a table

-- a command leaves the rule under a key
abbrev pub Leaves : Verb → Key → Rule → Type 0
Leaves (Add action) key r = let q : Rule = record { key = key; action = action } in r ≡ q
Leaves (Modify action) key r = let q : Rule = record { key = key; action = action } in r ≡ q
Leaves Remove key r = ⊥

leaves_key : (v : Verb) (key : Key) (r : Rule) → Leaves v key r → r.key ≡ key
leaves_key (Add action) key r e = ap (λ (x : Rule). x.key) e
leaves_key (Modify action) key r e = ap (λ (x : Rule). x.key) e
leaves_key Remove key r e = absurd e

-- a switch for changes of one table
anywhere : SwitchId
anywhere = record { 0 = 0 }

has_key : (q : Rule) (rules : List Rule) → has_rule q.key rules ≡ true → IsIn q.key (keys_of rules)
has_key q rules e =
    let (x, i, same) = in_from_any (λ (y : Rule). key_eq y.key q.key) rules e in
    subst (λ k. IsIn k (keys_of rules)) (key_eq-true x.key q.key same) (in_map (λ (y : Rule). y.key) x rules i)

pub lacks_key : (q : Rule) (rules : List Rule) → has_rule q.key rules ≡ false → ¬ IsIn q.key (keys_of rules)
lacks_key q rules e i =
    let (x, j, same) = in_from_map (λ (y : Rule). y.key) q.key rules i in
    both_ways (has_rule q.key rules) e (any_in (λ (y : Rule). key_eq y.key q.key) x rules j (subst (λ k. key_eq x.key k ≡ true) (sym same) (key_eq-refl x.key)))

in_placed : (q : Rule) (rules : List Rule) (r : Rule) → IsIn r (placed q rules) → (IsIn r rules × ¬ (r.key ≡ q.key)) ⊎ (r ≡ q)
in_placed q rules r i =
    elim (has_rule q.key rules) as (λ b. has_rule q.key rules ≡ b → IsIn r (cond b (map (λ y. cond (key_eq y.key q.key) q y) rules) (rules ++ q ∷ [])) → (IsIn r rules × ¬ (r.key ≡ q.key)) ⊎ (r ≡ q)) [
      | true ↦ λ e j. stands_from_in rules (Replace anywhere q) r (has_key q rules e) j
      | false ↦ λ e j. stands_from_in rules (Insert anywhere q) r (lacks_key q rules e) j
    ] refl i

placed_in : (q : Rule) (rules : List Rule) (r : Rule) → (IsIn r rules × ¬ (r.key ≡ q.key)) ⊎ (r ≡ q) → IsIn r (placed q rules)
placed_in q rules r h =
    elim (has_rule q.key rules) as (λ b. has_rule q.key rules ≡ b → IsIn r (cond b (map (λ y. cond (key_eq y.key q.key) q y) rules) (rules ++ q ∷ []))) [
      | true ↦ λ e. in_from_stands rules (Replace anywhere q) r (has_key q rules e) h
      | false ↦ λ e. in_from_stands rules (Insert anywhere q) r (lacks_key q rules e) h
    ] refl

in_carried_by : (v : Verb) (key : Key) (rules : List Rule) (r : Rule) → IsIn r (carried_by v key rules) → (IsIn r rules × ¬ (r.key ≡ key)) ⊎ Leaves v key r
in_carried_by (Add action) key rules r i = in_placed (record { key = key; action = action }) rules r i
in_carried_by (Modify action) key rules r i = in_placed (record { key = key; action = action }) rules r i
in_carried_by Remove key rules r i =
    let (j, passes) = in_from_filter (λ (x : Rule). not (key_eq x.key key)) r rules i in
    inl (j, key_eq-false r.key key (not-true (key_eq r.key key) passes))

carried_by_in : (v : Verb) (key : Key) (rules : List Rule) (r : Rule) → (IsIn r rules × ¬ (r.key ≡ key)) ⊎ Leaves v key r → IsIn r (carried_by v key rules)
carried_by_in (Add action) key rules r h = placed_in (record { key = key; action = action }) rules r h
carried_by_in (Modify action) key rules r h = placed_in (record { key = key; action = action }) rules r h
carried_by_in Remove key rules r (inl h) = in_filter (λ (x : Rule). not (key_eq x.key key)) r rules h.0 (not_from_false (key_eq r.key key) (key_ne r.key key h.1))
carried_by_in Remove key rules r (inr w) = absurd w

-- ---- entries

-- a message leaves under its key just what stands there in a table
pub record LeadsTo (table : List Rule) (m : FlowMod) : Type 0 where
  pub there : (r : Rule) → r.key ≡ m.key → IsIn r table → Leaves m.verb m.key r
  pub leaves : (r : Rule) → Leaves m.verb m.key r → IsIn r table

-- each entry of a table is that of the one of two tables or that of the other
abbrev pub HoldsBy : (Bool → List Rule) → (Key → Bool) → List Rule → Type 0
HoldsBy side on rules = (r : Rule) → IsIn r rules ↔ IsIn r (side (on r.key))

abbrev pub with_key : Key → Bool → (Key → Bool) → Key → Bool
with_key k b on key = cond (key_eq key k) b (on key)

pub with_key-same : (k : Key) (b : Bool) (on : Key → Bool) (key : Key) → key ≡ k → with_key k b on key ≡ b
with_key-same k b on key e = cond-true (key_eq key k) b (on key) (subst (λ x. key_eq key x ≡ true) e (key_eq-refl key))

pub with_key-other : (k : Key) (b : Bool) (on : Key → Bool) (key : Key) → ¬ (key ≡ k) → with_key k b on key ≡ on key
with_key-other k b on key n = cond-false (key_eq key k) b (on key) (key_ne key k n)

-- a message that is carried out sets its entry
pub holds_carried : (side : Bool → List Rule) (on : Key → Bool) (rules : List Rule) (m : FlowMod) (b : Bool) → HoldsBy side on rules → LeadsTo (side b) m
    → HoldsBy side (with_key m.key b on) (carried m rules)
holds_carried side on rules m b holds leads r =
    elim (cases_Bool (key_eq r.key m.key)) [
      | inl e ↦ (
          let same : r.key ≡ m.key = key_eq-true r.key m.key e in
          let now : with_key m.key b on r.key ≡ b = with_key-same m.key b on r.key same in (
            (λ i. subst (λ x. IsIn r (side x)) (sym now) (elim (in_carried_by m.verb m.key rules r i) [ inl h ↦ absurd (h.1 same) | inr w ↦ leads.leaves r w ])),
            (λ i. carried_by_in m.verb m.key rules r (inr (leads.there r same (subst (λ x. IsIn r (side x)) now i)))),
          ))
      | inr e ↦ (
          let differ : ¬ (r.key ≡ m.key) = key_eq-false r.key m.key e in
          let now : with_key m.key b on r.key ≡ on r.key = with_key-other m.key b on r.key differ in (
            (λ i. subst (λ x. IsIn r (side x)) (sym now) (elim (in_carried_by m.verb m.key rules r i) [ inl h ↦ (holds r).0 h.0 | inr w ↦ absurd (differ (leaves_key m.verb m.key r w)) ])),
            (λ i. carried_by_in m.verb m.key rules r (inl ((holds r).1 (subst (λ x. IsIn r (side x)) now i), differ))),
          ))
    ]

-- ---- the messages of changes

abbrev pub flow_of : Change → ℕ → FlowMod
flow_of (Insert s r) x = record { xid = x; verb = Add r.action; key = r.key }
flow_of (Delete s r) x = record { xid = x; verb = Remove; key = r.key }
flow_of (Replace s r) x = record { xid = x; verb = Modify r.action; key = r.key }

pub message_is : (c : Change) (x : ℕ) → message_of c x ≡ Flow (flow_of c x)
message_is (Insert s r) x = refl
message_is (Delete s r) x = refl
message_is (Replace s r) x = refl

pub flow_key : (c : Change) (x : ℕ) → (flow_of c x).key ≡ key_named c
flow_key (Insert s r) x = refl
flow_key (Delete s r) x = refl
flow_key (Replace s r) x = refl

leaves_written : (c : Change) (x : ℕ) (r : Rule) → Writes r c → Leaves (flow_of c x).verb (flow_of c x).key r
leaves_written (Insert s q) x r w = w
leaves_written (Delete s q) x r w = absurd w
leaves_written (Replace s q) x r w = w

written_left : (c : Change) (x : ℕ) (r : Rule) → Leaves (flow_of c x).verb (flow_of c x).key r → Writes r c
written_left (Insert s q) x r w = w
written_left (Delete s q) x r w = absurd w
written_left (Replace s q) x r w = w

-- the message of a change leads to the table behind the round
pub leads_onward : (before : List Rule) (cs : List Change) → AllByRecursion (AppliesTo before) cs → IsDistinct (map key_named cs) → (c : Change) → IsIn c cs → (x : ℕ)
    → LeadsTo (rules_after cs before) (flow_of c x)
leads_onward before cs applies distinct c here x = record {
  there = λ r e i. leaves_written c x r (elim (stands_all_from_in before cs r applies distinct i) [
    | inl h ↦ absurd (h.1 (subst (λ k. IsIn k (map key_named cs)) (sym (e ∙ flow_key c x)) (in_map key_named c cs here)))
    | inr w ↦ subst (Writes r) (told_from_distinct key_named cs distinct w.0 c w.1 here (sym (writes_key r w.0 w.2) ∙ e ∙ flow_key c x)) w.2
  ]);
  leaves = λ r w. in_from_stands_all before cs r applies distinct (inr (c, here, written_left c x r w));
}

-- where a round names no entry it changes none
pub left_alone : (before : List Rule) (cs : List Change) → AllByRecursion (AppliesTo before) cs → IsDistinct (map key_named cs) → (r : Rule) → ¬ IsIn r.key (map key_named cs)
    → IsIn r before ↔ IsIn r (rules_after cs before)
left_alone before cs applies distinct r none = (
  (λ i. in_from_stands_all before cs r applies distinct (inl (i, none))),
  (λ i. elim (stands_all_from_in before cs r applies distinct i) [
    | inl h ↦ h.0
    | inr w ↦ absurd (none (subst (λ k. IsIn k (map key_named cs)) (sym (writes_key r w.0 w.2)) (in_map key_named w.0 cs w.1)))
  ]),
)

-- ---- the messages of inverses

abbrev pub AreUnique : List Rule → Type 0
AreUnique rules = (a b : Rule) → IsIn a rules → IsIn b rules → a.key ≡ b.key → a ≡ b

rule_with-key : (rules : List Rule) (key : Key) (other : Rule) → other.key ≡ key → (rule_with rules key other).key ≡ key
rule_with-key [] key other e = e
rule_with-key (q ∷ rules) key other e =
    elim (key_eq q.key key) as (λ b. key_eq q.key key ≡ b → (unwrap_or (cond b (Some q) (find (λ x. key_eq x.key key) rules)) other).key ≡ key) [
      | true ↦ λ same. key_eq-true q.key key same
      | false ↦ λ _. rule_with-key rules key other e
    ] refl

rule_with-in : (before : List Rule) (r : Rule) → IsIn r.key (keys_of before) → IsIn (rule_with before r.key r) before
rule_with-in before r i =
    let (x, j, e) = in_from_map (λ q. q.key) r.key before i in
    let (y, found, k, passes) = find_passes (λ q. key_eq q.key r.key) x before j (subst (λ key. key_eq key r.key ≡ true) e (key_eq-refl r.key)) in
    subst (λ (o : Option Rule). IsIn (unwrap_or o r) before) (sym found) k

inverse_left : (before : List Rule) → AreUnique before → (c : Change) → AppliesTo before c → (q : Rule) → Writes q (inverse_of before c) → IsIn q before
inverse_left before unique (Insert s r) applies q w = absurd w
inverse_left before unique (Delete s r) applies q w = subst (λ x. IsIn x before) (sym w) applies
inverse_left before unique (Replace s r) applies q w = subst (λ x. IsIn x before) (sym w) (rule_with-in before r applies)

inverse_writes : (before : List Rule) → AreUnique before → (c : Change) → AppliesTo before c → (q : Rule) → IsIn q before → q.key ≡ key_named c → Writes q (inverse_of before c)
inverse_writes before unique (Insert s r) applies q i e = absurd (applies (subst (λ k. IsIn k (keys_of before)) e (in_map (λ x. x.key) q before i)))
inverse_writes before unique (Delete s r) applies q i e = unique q r i applies e
inverse_writes before unique (Replace s r) applies q i e =
    unique q (rule_with before r.key r) i (rule_with-in before r applies) (e ∙ sym (rule_with-key before r.key r refl))

-- the message of an inverse leads to the table before the round
pub leads_back : (before : List Rule) → AreUnique before → (c : Change) → AppliesTo before c → (x : ℕ) → LeadsTo before (flow_of (inverse_of before c) x)
leads_back before unique c applies x = record {
  there = λ r e i. leaves_written (inverse_of before c) x r (inverse_writes before unique c applies r i (e ∙ flow_key (inverse_of before c) x ∙ key_inverse before c));
  leaves = λ r w. inverse_left before unique c applies r (written_left (inverse_of before c) x r w);
}
