use Rattle.std.proofs.Common.{◌≤◌, [], ◌∷◌, ◌++◌, List, sym, subst}
use Rattle.std.proofs.lemmas.Bool.{both_ways}
use Rattle.net_base.specs.declared.ids.SwitchId.{SwitchId}
use Rattle.topology.specs.Networks.{capacity_of}
use Rattle.flow_rules.specs.Tables.{rules_at}
use Rattle.flow_rules.specs.declared.rules.Rule.{Rule}
use Rattle.update_model.specs.Changes.{changes_at, switch_of}
use Rattle.update_model.specs.Mixtures.{entries_needed}
use Rattle.update_model.specs.declared.Change.{Change}
use Rattle.round_tables.specs.PreparedTables.{mix_at, IsMixed, rules_there}
use Rattle.round_tables.specs.Steps.{FitTable, taken_and}
use Rattle.round_tables.proofs.prepared.PreparedTables.begin_beside.Goals as goal

pub returns-then-not-mark-clause-never : goal.returns-then-not-mark-clause-never
returns-then-not-mark-clause-never c = λ _ fit. c.mark.ensures.no c.if-not-mark.true fit.good fit.clear

pub returns-then-is_within-clause-yes : goal.returns-then-is_within-clause-yes
returns-then-is_within-clause-yes c = λ _.
    let change = c.args.change.now in
    let net = c.args.net.now in
    let p = c.mark.new.self in
    let rules = rules_there p.tables (switch_of change) in
    let cs = taken_and p change in
    let here = c.mark.ensures.yes c.if-not-mark.false in
    let said = c.is_within.ensures rules cs (subst (λ (s : SwitchId). IsMixed rules cs (mix_at p.mixes s)) (sym c.switch.ensures) here) in
    record {
      beside = c.mark.ensures.beside;
      here = here;
      fits = subst (λ (s : SwitchId). entries_needed rules cs ≤ capacity_of net s) c.switch.ensures (said.0 c.if-is_within.true);
    }

pub returns-clause-never : goal.returns-clause-never
returns-clause-never c = λ _.
    let change = c.args.change.now in
    let net = c.args.net.now in
    let p = c.mark.new.self in
    let q = c.unmark.new.self in
    let w = switch_of change in
    let rules = rules_there p.tables w in
    let cs = taken_and p change in
    let here = c.mark.ensures.yes c.if-not-mark.false in
    let said = c.is_within.ensures rules cs (subst (λ (s : SwitchId). IsMixed rules cs (mix_at p.mixes s)) (sym c.switch.ensures) here) in
    let never : ¬ FitTable rules cs (capacity_of net w) =
    λ fit. both_ways c.is_within.result c.if-is_within.false (said.1 (subst (λ (s : SwitchId). entries_needed rules cs ≤ capacity_of net s) (sym c.switch.ensures) fit.fits)) in
    subst (λ (ts : List (List Rule)). ¬ FitTable (rules_at ts w) (taken_and q change) (capacity_of net w)) (sym c.unmark.ensures.rules)
    (subst (λ (ds : List Change). ¬ FitTable rules (changes_at w ds ++ change ∷ []) (capacity_of net w)) (sym c.unmark.ensures.round) never)
