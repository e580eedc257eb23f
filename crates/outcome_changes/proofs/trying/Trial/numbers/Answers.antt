use Rattle.std.proofs.Common.{◌+◌, ◌++◌, ◌∷◌, [], cond, drop, sym, ◌∙◌, ap, append_assoc}
use Rattle.outcome_changes.specs.Trials.{takes, numbers_where}
use Rattle.outcome_changes.proofs.NumberLaws.{numbers_next, numbers_done}
use Rattle.outcome_changes.proofs.trying.Trial.numbers.Goals as goal

pub loop-i-preserved : goal.loop-i-preserved
loop-i-preserved c =
    let i = c.loop-i.i in
    let round = c.args.round.now in
    let p = takes c.args.self.now in
    let d = c.index-round-i.result in
    let rest = numbers_where (i + 1) p (drop (i + 1) round) in
    let before = c.loop-i.numbers in
    ap (λ xs. xs ++ rest) (c.in_ok-add_if.ensures ∙ ap (λ b. before ++ cond b (i ∷ []) []) c.has.ensures) ∙ append_assoc before (cond (p d) (i ∷ []) []) rest
    ∙ ap (λ xs. before ++ xs) (sym (numbers_next p round i d c.loop-i-test.true c.index-round-i.is)) ∙ c.loop-i.invariant

pub returns : goal.returns
returns c = sym (numbers_done (takes c.args.self.now) c.loop-i.numbers c.args.round.now c.loop-i.i c.loop-i-test.false) ∙ c.loop-i.invariant
