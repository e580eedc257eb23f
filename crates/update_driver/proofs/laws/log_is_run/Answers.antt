use Rattle.update_driver.proofs.LogLaws.{log_is_run}
use Rattle.update_driver.proofs.laws.log_is_run.Goals as goal

pub returns : goal.returns
returns c = log_is_run
