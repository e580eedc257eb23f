use Rattle.round_certifier.proofs.LookedLaws.{looked_touched}
use Rattle.std.proofs.Common.{◌∙◌, inl, inr}
use Rattle.round_certifier.proofs.evidence.RoundEvidence.look.Goals as goal

pub returns-clause-atoms : goal.returns-clause-atoms
returns-clause-atoms c some = c.look_at.ensures.count ∙ c.requires.atoms some

pub returns-clause-touched : goal.returns-clause-touched
returns-clause-touched c =
    looked_touched c.args.classes.now _ c.mark.new.self _ (λ some. c.look_at.ensures.count ∙ c.requires.atoms some) c.mark.ensures
    (λ atom less on. c.look_at.ensures.touched atom less on)
    (λ atom less on. elim (c.look_at.ensures.only atom less on) [ inl here ↦ here | inr of ↦ absurd of.1 ])
