use Rattle.std.proofs.Common.{arith, inl, inr}
use Rattle.std.proofs.lemmas.Bool.{cases_lt}
use Rattle.demands.proofs.class_sets.put_in_range.Goals as goal

pub returns-clause-others : goal.returns-clause-others
returns-clause-others c atom i (inr apart) = c.loop-atom.invariant.others atom i (inr apart)
returns-clause-others c atom i (inl out) =
    let within = c.loop-atom.invariant.within in
    elim (cases_lt atom c.args.range.from) [
      | inl less ↦ c.loop-atom.invariant.others atom i (inl (inl less))
      | inr ge ↦ elim (cases_lt atom c.args.range.to) [
        | inl among ↦ absurd (out (ge, among))
        | inr behind ↦ c.loop-atom.invariant.others atom i (inl (inr (omega arith)))
      ]
    ]
