use Rattle.std.proofs.Common.{◌%◌, ap, ◌∙◌}
use Rattle.check_reasons.specs.AtomMarks.{is_marked}
use Rattle.two_phase_check.specs.Agreements.{RoundView}
use Rattle.two_phase_check.proofs.straying.RoundCase.is_touched.Goals as goal

pub returns : goal.returns
returns c = λ class is.
    let n = c.args.number in
    c.has.ensures ∙ ap (λ (v : RoundView). is_marked v.touched (n % c.atoms.result)) c.self.view_is ∙ ap (λ m. is_marked c.args.self.now.touched (n % m)) c.atoms.ensures.count ∙ c.requires.touched n class is
