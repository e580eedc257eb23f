use Rattle.law_two_way_runs.proofs.Inverses.{mixture_fits}
use Rattle.law_two_way_runs.proofs.laws.mixtures_fit.Goals as goal

pub returns : goal.returns
returns c = mixture_fits
