-- Tables with the same rules.
use Rattle.std.proofs.Common.{◌≡◌, ◌↔◌, ◌+◌, ◌<◌, ◌≤◌, ℕ, Bool, List, [], length, sym, subst, inl, inr, arith}
use Rattle.std.specs.Prelude.{IsTrue}
use Rattle.std.specs.List.{AllByRecursion}
use Rattle.std.proofs.lemmas.Bool.{cases_lt}
use Rattle.std.proofs.lemmas.List.{length-map, get_or_past}
use Rattle.net_base.specs.Members.{IsIn, IsSameSet}
use Rattle.net_base.proofs.MemberLaws.{each_at, each_from_in}
use Rattle.net_base.specs.declared.ids.SwitchId.{SwitchId}
use Rattle.flow_rules.specs.Tables.{TableState, rules_at, rules_of_all}
use Rattle.flow_rules.specs.declared.rules.Rule.{Rule}
use Rattle.round_tables.specs.Ends.{AreSameAt}

-- two tests of members decide together
pub same_both : (a : Bool) (xs ys : List Rule) → AllByRecursion (λ r. IsIn r ys) xs → IsTrue a ↔ AllByRecursion (λ r. IsIn r xs) ys → IsTrue a ↔ IsSameSet xs ys
same_both a xs ys first second = (
  λ h r. (each_at (λ q. IsIn q ys) xs r first, each_at (λ q. IsIn q xs) ys r (second.0 h)),
  λ same. second.1 (each_from_in (λ q. IsIn q xs) ys (λ r i. (same r).1 i)),
)

-- the rules beyond the last switch
pub rules_past : (tables : List TableState) (s : SwitchId) → length tables ≤ s.0 → rules_at (rules_of_all tables) s ≡ []
rules_past tables s beyond =
    let len = length-map tables (λ (t : TableState). t.rules) in
    get_or_past (rules_of_all tables) s.0 [] (omega arith)

-- beyond the last switch there are no rules
pub same_past : (tables others : List TableState) → length tables ≡ length others → (s : SwitchId) → length tables ≤ s.0 → AreSameAt tables others s
same_past tables others count s beyond =
    let one = rules_past tables s beyond in
    let other = rules_past others s (omega arith) in
    subst (λ (rs : List Rule). IsSameSet rs (rules_at (rules_of_all others) s)) (sym one) (subst (λ (rs : List Rule). IsSameSet [] rs) (sym other) (λ x. (λ i. i, λ i. i)))

pub same_each : (tables others : List TableState) → length tables ≡ length others → ((s : SwitchId) → s.0 < length tables → AreSameAt tables others s)
    → (s : SwitchId) → AreSameAt tables others s
same_each tables others count each s = elim (cases_lt s.0 (length tables)) [ inl less ↦ each s less | inr beyond ↦ same_past tables others count s beyond ]

-- one switch more
pub same_more : (tables others : List TableState) (i : ℕ) → ((s : SwitchId) → s.0 < i → AreSameAt tables others s) → AreSameAt tables others (record { 0 = i })
    → (s : SwitchId) → s.0 < i + 1 → AreSameAt tables others s
same_more tables others i below here s within =
    elim (cases_lt s.0 i) [
      | inl less ↦ below s less
      | inr more ↦ (let e : s.0 ≡ i = omega arith in
          subst (λ (n : ℕ). let o : SwitchId = record { 0 = n } in AreSameAt tables others o) (sym e) here)
    ]
