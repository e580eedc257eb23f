use Rattle.std.proofs.Common.{◌≡◌, ◌<◌, true, false, length, get_or, sym, ◌∙◌, subst, ap, inl, inr, arith, ℕ}
use Rattle.std.proofs.lemmas.Bool.{cases_lt}
use Rattle.std.proofs.lemmas.List.{get_or_default}
use Rattle.round_mix.specs.Kinds.{clash_between, begins_past, reach_with}
use Rattle.round_mix.specs.declared.MarkedRule.{MarkedRule}
use Rattle.round_mix.specs.declared.kinds.Spot.{Spot}
use Rattle.round_mix.proofs.SweepLaws.{IsLeft, left_kept, left_new, left_apart, swept_from_places}
use Rattle.round_mix.proofs.kinds.sweep.Goals as goal

pub loop-i-init : goal.loop-i-init
loop-i-init c = (λ j d less. absurd (omega arith), λ j k d less within. absurd (omega arith))

pub loop-i-preserved : goal.loop-i-preserved
loop-i-preserved c =
    let marks = c.args.rules.now in
    let pair = c.args.pair in
    let i = c.loop-i.i in
    let reach = c.loop-i.reach in
    let within : i < length marks = c.loop-i-test.true in
    let tested = c.index-rules-i.result in
    let item = c.index-rules-i-in-loop-i.result in
    let moved : c.reach_with-next.result ≡ reach_with pair reach item = c.reach_with-next.ensures in
    let past : begins_past pair reach tested ≡ true = sym c.begins_past.ensures ∙ c.if-not-begins_past.false in
    let item_at : (d : MarkedRule) → item ≡ get_or marks i d = λ d. c.index-rules-i-in-loop-i.is ∙ get_or_default marks i item d within in
    let tested_at : (d : MarkedRule) → tested ≡ get_or marks i d = λ d. c.index-rules-i.is ∙ get_or_default marks i tested d within in (
      λ j d less. subst (λ (s : Spot). IsLeft pair (get_or marks j d) s) (sym moved) (elim (cases_lt j i) [
        | inl below ↦ left_kept pair (get_or marks j d) item reach (c.loop-i.invariant.0 j d below)
        | inr from ↦ (
            let at : i ≡ j = omega arith in
            subst (λ (m : MarkedRule). IsLeft pair m (reach_with pair reach item)) (item_at d ∙ ap (λ (n : ℕ). get_or marks n d) at) (left_new pair item reach))
      ]),
      λ j k d less below. elim (cases_lt k i) [
        | inl sooner ↦ c.loop-i.invariant.1 j k d less sooner
        | inr from ↦ (
            let at : i ≡ k = omega arith in
            let before : j < i = omega arith in
            subst (λ (n : MarkedRule). clash_between pair (get_or marks j d) n ≡ false) (tested_at d ∙ ap (λ (n : ℕ). get_or marks n d) at)
            (left_apart pair (get_or marks j d) tested reach (c.loop-i.invariant.0 j d before) past))
      ],
    )

pub returns-clause-apart : goal.returns-clause-apart
returns-clause-apart c h = swept_from_places c.args.pair c.args.rules.now (λ j k d less within. let end = c.loop-i-test.false in c.loop-i.invariant.1 j k d less (omega arith))
