use Rattle.std.proofs.Common.{List, take, refl, sym, subst, inl, inr}
use Rattle.std.proofs.lemmas.List.{take_more}
use Rattle.net_base.specs.Members.{IsIn}
use Rattle.net_base.proofs.MemberLaws.{in_append_cases}
use Rattle.net_base.proofs.ItemLaws.{in_at}
use Rattle.path_walk.specs.declared.Outcome.{Outcome}
use Rattle.path_walk.specs.declared.Outcome.TheVariants.{Discard, Leave}
use Rattle.breaking_walks.proofs.search.has_leave.Goals as goal

pub returns-in-Leave : goal.returns-in-Leave
returns-in-Leave c =
    let all = c.args.found.now in
    let i = c.loop-outcome.outcome-index in (
      λ _. (c.in-Leave.field-0, c.in-Leave.field-1, subst (λ (o : Outcome). IsIn o all) c.in-Leave.is (in_at all i Discard c.loop-outcome-test.true)),
      λ _. refl,
    )

pub loop-outcome-preserved : goal.loop-outcome-preserved
loop-outcome-preserved c h =
    let all = c.args.found.now in
    let i = c.loop-outcome.outcome-index in
    let (port, vlan, j) = h in
    elim (in_append_cases (Leave port vlan) (take i all) _ (subst (λ (xs : List Outcome). IsIn (Leave port vlan) xs) (take_more all i Discard c.loop-outcome-test.true) j)) [
      | inl k ↦ c.loop-outcome.invariant (port, vlan, k)
      | inr k ↦ elim k [ inl e ↦ c.in_default.not-Leave port vlan (sym e) | inr none ↦ absurd none ]
    ]
