use Rattle.std.proofs.Common.{◌≡◌, true, false, refl}
use Rattle.config_check.proofs.ends.first_end_break.Goals as goal

pub returns-in-Err-clause-some : goal.returns-in-Err-clause-some
returns-in-Err-clause-some c = record { first = c.in-Err.ensures.err; old_good = λ holds. absurd (let e : false ≡ true = holds in cc) }

pub returns-in-Err-clause-fails : goal.returns-in-Err-clause-fails
returns-in-Err-clause-fails c = λ good. let e = c.in-Err.ensures.ok.1 good.old_good in cc

pub returns-in-Err-check_config-clause-some : goal.returns-in-Err-check_config-clause-some
returns-in-Err-check_config-clause-some c = record { first = c.in-Err-check_config.ensures.err; old_good = λ _. c.in_default.ensures.ok.0 refl }

pub returns-in-Err-check_config-clause-fails : goal.returns-in-Err-check_config-clause-fails
returns-in-Err-check_config-clause-fails c = λ good. let e = c.in-Err-check_config.ensures.ok.1 good.new_good in cc

pub returns-clause-none : goal.returns-clause-none
returns-clause-none c = record { old_good = c.in_default.ensures.ok.0 refl; new_good = c.in_default-check_config.ensures.ok.0 refl }
