use Rattle.std.proofs.lemmas.Result.{err_from_is_err_and}
use Rattle.flow_rules.specs.Tables.{rules_of_all}
use Rattle.two_phase.proofs.planning.tags_in_room.Goals as goal

pub returns-in_err-tags-clause-cause : goal.returns-in_err-tags-clause-cause
returns-in_err-tags-clause-cause c =
    let p = err_from_is_err_and c.from_residual.result c.from_residual.ensures.1 in rw (p.1, p.2) (c.in_err-tags.ensures.cause (rules_of_all c.args.old.now) (rules_of_all c.args.new.now))
