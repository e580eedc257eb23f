use Rattle.std.proofs.Common.{◌≡◌, List, sym, ◌∙◌, ap, rules}
use Rattle.path_walk.specs.Outcomes.{outcome}
use Rattle.flow_rules.specs.declared.rules.Rule.{Rule}
use Rattle.outcome_changes.proofs.GivingLaws.{gives_from}
use Rattle.outcome_changes.proofs.found_by.Goals as goal

pub returns : goal.returns
returns c =
    let t = c.args.trial.now in
    let same = c.is_same.ensures.0 c.if-not-is_same.false in
    gives_from c.args.search.net.now c.args.search.table.now.rules c.args.search.round.now t c.args.search.wanted c.in_ok-numbers.numbers c.in_ok-numbers.ensures
    (ap (λ (rs : List Rule). outcome c.args.search.net.now rs t.place t.dst) (sym c.in_ok-tried.ensures) ∙ sym c.outcome-found.ensures ∙ same)
