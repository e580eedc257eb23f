use Rattle.std.proofs.Common.{◌≡◌, ◌≤◌, [], List, length, sym, ◌∙◌, ap, subst, vec_capacity}
use Rattle.topology.specs.Networks.{capacity_of}
use Rattle.flow_rules.specs.Tables.{IsClear, rules_at, rules_of_all}
use Rattle.flow_rules.specs.declared.rules.Rule.{Rule}
use Rattle.update_model.specs.Changes.{changes_at}
use Rattle.update_model.specs.declared.Change.{Change}
use Rattle.round_tables.specs.PreparedTables.{PreparedState, IsMixed, mix_at, rules_there}
use Rattle.round_tables.specs.Steps.{AreSwitchesReady}
use Rattle.round_tables.specs.Filling.{FitTables}
use Rattle.round_tables.proofs.FitLaws.{fit_none}
use Rattle.round_tables.proofs.StepLaws.{count_rules}
use Rattle.round_tables.proofs.TakenLaws.{taken_of}
use Rattle.round_tables.proofs.prepared.PreparedTables.for_trials.Goals as goal

pub returns-clause-taken : goal.returns-clause-taken
returns-clause-taken c =
    let net = c.args.net.now in
    let user = c.requires in
    let made = c.in_ok-mixes.ensures in
    let rules : rules_of_all c.in_ok-tables.tables ≡ rules_of_all c.args.config.now = c.in_ok-tables.ensures in
    let p : PreparedState = record {
      tables = c.in_ok-tables.tables;
      mixes = c.in_ok-mixes.mixes.items;
      touched = c.new.result.items;
      changes = c.new-2.result.items;
      limits = c.in_ok-mixes.limits.items;
      room = vec_capacity c.new-3.result;
      round = c.new-4.result.items;
    } in
    let none : p.round ≡ [] = c.new-4.ensures.items in
    let ready : AreSwitchesReady net p.round p = record {
      fit = record {
        tables = sym (count_rules c.in_ok-tables.tables) ∙ ap (λ (ts : List (List Rule)). length ts) rules ∙ user.count;
        mixes = made.len;
        limits = made.counts;
        room = made.room;
        fits = λ s less. subst (λ (ts : List (List Rule)). length (rules_at ts s) ≤ capacity_of net s) (sym rules) (user.fits s less);
        clear = λ s. subst (λ (ts : List (List Rule)). IsClear (rules_at ts s)) (sym rules) (user.clear s);
      };
      each = λ s less. subst (λ (cs : List Change). IsMixed (rules_there p.tables s) (changes_at s cs) (mix_at p.mixes s)) (sym none) (made.prepared s less);
    } in
    taken_of net c.keeps_rules.ensures p ready
    (subst (FitTables net (rules_of_all p.tables)) (sym none)
    (subst (λ (ts : List (List Rule)). FitTables net ts []) (sym rules) (fit_none net (rules_of_all c.args.config.now) user.clear user.fits)))
