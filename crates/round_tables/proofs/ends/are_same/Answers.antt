use Rattle.std.proofs.Common.{◌↔◌, List, sym, subst}
use Rattle.std.specs.Prelude.{IsTrue}
use Rattle.std.proofs.lemmas.Bool.{both_ways}
use Rattle.std.specs.List.{AllByRecursion}
use Rattle.net_base.specs.Members.{IsIn}
use Rattle.net_base.proofs.MemberLaws.{each_from_in}
use Rattle.flow_rules.specs.declared.rules.Rule.{Rule}
use Rattle.round_tables.proofs.EndLaws.{same_both}
use Rattle.round_tables.proofs.ends.are_same.Goals as goal

pub returns-then-are_within : goal.returns-then-are_within
returns-then-are_within c =
    let xs = c.args.table.now.rules in
    let ys = c.args.other.now.rules in
    same_both c.are_within-then-are_within.result xs ys
    (subst (AllByRecursion (λ r. IsIn r ys)) c.rules.ensures.value (c.are_within.ensures.0 c.if-are_within.true))
    (subst (λ (rs : List Rule). IsTrue c.are_within-then-are_within.result ↔ AllByRecursion (λ r. IsIn r xs) rs) c.rules-then-are_within.ensures.value c.are_within-then-are_within.ensures)

pub returns-else-are_within : goal.returns-else-are_within
returns-else-are_within c = (
  λ h. absurd (both_ways c.are_within.result c.if-are_within.false h),
  λ same. c.are_within.ensures.1 (subst (AllByRecursion (λ r. IsIn r c.args.other.now.rules)) (sym c.rules.ensures.value)
      (each_from_in (λ r. IsIn r c.args.other.now.rules) c.args.table.now.rules (λ r i. (same r).0 i))),
)
