use Rattle.std.proofs.Common.{sym, ap, ◌∙◌, subst}
use Rattle.update_driver.specs.Calls.{DriverView}
use Rattle.update_driver.specs.Laws.{LogIsRun}
use Rattle.update_driver.proofs.DriverLaws.{kept, reached_run}
use Rattle.update_driver.proofs.drivers.Driver.log.Goals as goal

pub returns-clause-run : goal.returns-clause-run
returns-clause-run c =
    let d = c.self.inside in
    let v = c.args.self.now in
    let k = kept d.net.now d.rounds.now d.phase d.log.items d.channels.items d.xid v c.self.view_is c.self.invariant in
    subst (LogIsRun v.net v.rounds) (sym (ap (λ (w : DriverView). w.state.log) c.self.view_is) ∙ sym c.deref.ensures.value) (reached_run v k.drivable k.reached)
