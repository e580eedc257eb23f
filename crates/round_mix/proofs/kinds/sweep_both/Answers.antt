use Rattle.std.proofs.Common.{subst}
use Rattle.round_mix.specs.Kinds.{AreSwept}
use Rattle.round_mix.specs.declared.kinds.Pair.{Pair}
use Rattle.round_mix.proofs.SweepLaws.{apart_from_sweeps}
use Rattle.round_mix.proofs.kinds.sweep_both.Goals as goal

pub returns-in-Apart-clause-apart : goal.returns-in-Apart-clause-apart
returns-in-Apart-clause-apart c h =
    apart_from_sweeps c.args.pair c.args.rules.now (c.sweep.ensures.apart c.in-Apart.is)
    (subst (λ (p : Pair). AreSwept p c.args.rules.now) c.turned.ensures (c.sweep-in-Apart.ensures.apart h))
