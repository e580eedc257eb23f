use Rattle.std.proofs.Common.{sym, subst}
use Rattle.demands.specs.OfClass.{AreCovered}
use Rattle.config_check.proofs.classed.Classed.make.Goals as goal

pub make-requires : goal.make-requires
make-requires c = subst (AreCovered c.args.demands.now) (sym c.in_ok-map.ensures.ok.0) c.requires
