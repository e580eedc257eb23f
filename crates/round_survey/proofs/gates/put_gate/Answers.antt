use Rattle.std.proofs.Common.{sym, ◌∙◌, subst, inl, inr}
use Rattle.std.proofs.lemmas.Bool.{cases_eq}
use Rattle.net_base.proofs.NameLaws.{same_switch}
use Rattle.round_survey.specs.Gates.{IsGate}
use Rattle.round_survey.proofs.gates.put_gate.Goals as goal

pub returns-then-is_gate : goal.returns-then-is_gate
returns-then-is_gate c s is =
    elim (cases_eq s.0 c.args.switch.0) [
      | inl same ↦ subst (IsGate c.args.numbers.now c.args.walk.now) (sym (same_switch s c.args.switch same)) (c.is_gate.ensures c.if-is_gate.true)
      | inr other ↦ c.requires.so_far s (sym (c.put.ensures.others s other) ∙ is)
    ]
