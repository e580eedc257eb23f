use Rattle.std.proofs.Common.{sym, subst}
use Rattle.two_way_driver.specs.Calls.{IsServing}
use Rattle.two_way_driver.proofs.StepLaws.{on_ok_both}
use Rattle.two_way_driver.proofs.ServingLaws.{serving_dead}
use Rattle.two_way_driver.proofs.drivers.Driver.dead.Goals as goal

pub returns-clause-serving : goal.returns-clause-serving
returns-clause-serving c =
    let here = subst IsServing (sym c.self.view_is) c.requires.serving in
    on_ok_both c.dead_switch.result (λ e f. subst IsServing (sym e) (serving_dead c.args.s _ here)) c.dead_switch.ensures c.dead_switch.ensures
