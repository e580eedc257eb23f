use Rattle.std.proofs.Common.{List, sym, subst}
use Rattle.update_model.specs.Mixtures.{Rollout}
use Rattle.update_model.specs.declared.Change.{Change}
use Rattle.certificates.specs.Updates.{rollout}
use Rattle.check_base.specs.Checks.{task_in}
use Rattle.round_inverses.specs.Rounds.{inverse_rounds}
use Rattle.two_way_driver.specs.Calls.{AreTurnable}
use Rattle.serve_command.specs.Serving.{meaning_of}
use Rattle.law_plan_rules.proofs.UserRules.{tables_plan}
use Rattle.serve_command.proofs.command.serve_certified.Goals as goal

pub inverse_rounds-requires : goal.inverse_rounds-requires
inverse_rounds-requires g c = c.good_rounds_are_good_in_turn.ensures (rollout (task_in (meaning_of c.args.files.now))) (c.certified_begins_safely.ensures c.requires.certified).good

pub serve_both_ways-status-requires : goal.serve_both_ways-status-requires
serve_both_ways-status-requires g c =
    let u : Rollout = rollout (task_in (meaning_of c.args.files.now)) in
    let turnable : AreTurnable u.net u.rounds (inverse_rounds u.old u.rounds) =
    record {
      few = c.requires.valid.few_rounds;
      plan = c.requires.valid.rounds;
      count = c.each_takes_its_round_back.ensures.count u;
      back_plan = c.inverses_are_in_range.ensures u.net u.old u.rounds (tables_plan u.net c.keeps_rules.ensures u.old c.requires.old) c.requires.valid.rounds;
      same = λ k s. c.each_takes_its_round_back.ensures.switches u k s;
    }
    in
    subst (λ (r : List (List Change)). AreTurnable u.net u.rounds r) (sym c.in-Ok.ensures) turnable
