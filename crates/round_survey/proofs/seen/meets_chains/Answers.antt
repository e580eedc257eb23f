use Rattle.std.proofs.Common.{◌≡◌, Some, sym, ◌∙◌, ap, subst, inl, inr, arith}
use Rattle.std.specs.Prelude.{slice_get}
use Rattle.std.proofs.lemmas.Bool.{cases_lt}
use Rattle.std.proofs.lemmas.Option.{same_Some, slice_get_within}
use Rattle.demands.specs.Duties.{duties_of}
use Rattle.round_survey.specs.Gates.{IsMetFrom}
use Rattle.round_survey.proofs.GateLaws.{place_in}
use Rattle.round_survey.proofs.seen.meets_chains.Goals as goal

pub loop-i-preserved : goal.loop-i-preserved
loop-i-preserved c j chain less at =
    let class = c.args.numbered.class in
    let i = c.loop-i.i in
    let chains = (duties_of c.args.duties.now.demands class.entry class.first).chains in
    let seen = c.args.seen.now in
    elim (cases_lt j i) [
      | inl before ↦ c.loop-i.invariant j chain before at
      | inr more ↦ (
          let e : i ≡ j = omega arith in
          let here : slice_get chains i ≡ Some c.chain.result.now = c.chain.ensures.chain class c.requires.class in
          let same : c.chain.result.now ≡ chain = same_Some c.chain.result.now chain (sym here ∙ ap (slice_get chains) e ∙ at) in
          subst (IsMetFrom seen.gates.numbering seen.gates.set class.entry.switch) same (c.is_met.ensures c.if-not-is_met.false))
    ]

pub returns : goal.returns
returns c = λ _ chain among.
    let class = c.args.numbered.class in
    let chains = (duties_of c.args.duties.now.demands class.entry class.first).chains in
    let (j, at) = place_in chains chain among in
    let within = slice_get_within chains j chain at in
    let count = c.chains-i-end.ensures.count class c.requires.class in
    let past = c.loop-i-test.false in
    c.loop-i.invariant j chain (omega arith) at
