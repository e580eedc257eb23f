use Rattle.std.proofs.Common.{sym, subst}
use Rattle.two_way_driver.specs.Calls.{IsServing}
use Rattle.two_way_driver.proofs.StepLaws.{on_ok_both}
use Rattle.two_way_driver.proofs.ServingLaws.{serving_turned}
use Rattle.two_way_driver.proofs.drivers.Driver.back.Goals as goal

pub returns-clause-serving : goal.returns-clause-serving
returns-clause-serving c =
    let here = subst IsServing (sym c.self.view_is) c.requires in
    on_ok_both c.back_on.result (λ e none. subst IsServing (sym e) (serving_turned _ here)) c.back_on.ensures.ok c.back_on.ensures.allowed
