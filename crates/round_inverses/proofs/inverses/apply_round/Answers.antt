use Rattle.std.proofs.Common.{◌≡◌, ◌+◌, ◌<◌, length, drop, sym, ap, ◌∙◌, subst, arith}
use Rattle.flow_rules.specs.Tables.{rules_of_all}
use Rattle.update_model.specs.Changes.{tables_after, tables_after_change, IsGoodRound}
use Rattle.update_model.proofs.RestLaws.{good_rest}
use Rattle.round_inverses.proofs.GoodLaws.{front}
use Rattle.round_inverses.proofs.inverses.apply_round.Goals as goal

pub loop-change-preserved : goal.loop-change-preserved
loop-change-preserved c =
    let round = c.args.round.now in
    let i = c.loop-change.change-index in
    let change = c.change-item.result in
    let tables = rules_of_all c.loop-change.tables in
    let less : i < length round = omega arith in
    let split = front round i change less c.change-item.is in
    let rest = drop (i + 1) round in
    let step : rules_of_all c.change_tables.new.config ≡ tables_after_change change tables = c.in_ok-change_tables.ensures.ok in
    record {
      good = subst (λ t. IsGoodRound t rest) (sym step) (good_rest tables change rest (subst (IsGoodRound tables) split c.loop-change.invariant.good));
      after = ap (tables_after rest) step ∙ sym (ap (λ l. tables_after l tables) split) ∙ c.loop-change.invariant.after;
    }
