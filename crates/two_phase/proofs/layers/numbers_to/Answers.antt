use Rattle.std.proofs.Common.{◌≡◌, ℕ, suc, ◌+◌, ◌∷◌, [], ◌++◌, List, sym, ◌∙◌, ap, arith}
use Rattle.net_base.specs.Numbers.{numbers_from}
use Rattle.net_base.proofs.NumberLaws.{numbers_more}
use Rattle.two_phase.proofs.layers.numbers_to.Goals as goal

pub loop-number-preserved : goal.loop-number-preserved
loop-number-preserved c =
    let n = c.loop-number.number in
    let e : suc n ≡ n + 1 = omega arith in
    c.in_ok-push-2.ensures.items ∙ ap (λ (ns : List ℕ). ns ++ (n + 1) ∷ []) (c.loop-number.invariant ∙ ap (numbers_from 0) e) ∙ sym (numbers_more 0 (n + 1) (n + 1) (omega arith))
