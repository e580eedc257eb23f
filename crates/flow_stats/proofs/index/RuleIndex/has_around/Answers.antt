use Rattle.std.proofs.Common.{◌≡◌, ℕ, false, sym, subst, ap, ◌∙◌, inl, inr, arith}
use Rattle.std.proofs.lemmas.Bool.{cases_lt}
use Rattle.flow_stats.specs.declared.index.Area.{Area}
use Rattle.flow_stats.specs.declared.index.Area.TheVariants.{Exactly}
use Rattle.flow_stats.specs.Index.{block_around, has_mark}
use Rattle.flow_stats.proofs.index.RuleIndex.has_around.Goals as goal

pub loop-len-preserved : goal.loop-len-preserved
loop-len-preserved c k below =
    elim (cases_lt k c.loop-len.len) [
      | inl less ↦ c.loop-len.invariant k less
      | inr most ↦ (
          let here : k ≡ c.loop-len.len = omega arith in
          let none = sym c.has.ensures ∙ c.if-has.false in
          subst (λ (n : ℕ). has_mark c.args.self.now (record { group = c.args.group; area = Exactly (block_around c.args.prefix.now.base n) }) ≡ false) (sym here)
          (ap (λ b. let a : Area = Exactly b in has_mark c.args.self.now (record { group = c.args.group; area = a })) (sym c.prefix_around.ensures) ∙ none))
    ]
