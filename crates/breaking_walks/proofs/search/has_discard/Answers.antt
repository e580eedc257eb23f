use Rattle.std.proofs.Common.{List, take, refl, sym, subst, inl, inr}
use Rattle.std.proofs.lemmas.List.{take_more}
use Rattle.net_base.specs.Members.{IsIn}
use Rattle.net_base.proofs.MemberLaws.{in_append_cases}
use Rattle.net_base.proofs.ItemLaws.{in_at}
use Rattle.path_walk.specs.declared.Outcome.{Outcome}
use Rattle.path_walk.specs.declared.Outcome.TheVariants.{Discard}
use Rattle.breaking_walks.proofs.search.has_discard.Goals as goal

pub returns-in-Discard : goal.returns-in-Discard
returns-in-Discard c =
    let all = c.args.found.now in
    let i = c.loop-outcome.outcome-index in
    (λ _. subst (λ (o : Outcome). IsIn o all) c.in-Discard.is (in_at all i Discard c.loop-outcome-test.true), λ _. refl)

pub loop-outcome-preserved : goal.loop-outcome-preserved
loop-outcome-preserved c j =
    let all = c.args.found.now in
    let i = c.loop-outcome.outcome-index in
    elim (in_append_cases Discard (take i all) _ (subst (λ (xs : List Outcome). IsIn Discard xs) (take_more all i Discard c.loop-outcome-test.true) j)) [
      | inl k ↦ c.loop-outcome.invariant k
      | inr k ↦ elim k [ inl e ↦ c.in_default.not-Discard (sym e) | inr none ↦ absurd none ]
    ]
