use Rattle.std.proofs.Common.{◌≡◌, ℕ, ◌+◌, ◌-◌, ◌<◌, List, [], ◌∷◌, ◌++◌, length, drop, sym, ap, ◌∙◌, arith}
use Rattle.std.specs.Prelude.{slice_get}
use Rattle.net_base.specs.declared.ids.SwitchId.{SwitchId}
use Rattle.flow_rules.specs.Tables.{rules_of_all, rules_at}
use Rattle.flow_rules.specs.declared.rules.Rule.{Rule}
use Rattle.update_model.specs.Changes.{switch_of}
use Rattle.update_model.specs.declared.Change.{Change}
use Rattle.law_two_way_runs.specs.Inverse.{inverse_of, inverse_round}
use Rattle.round_inverses.proofs.GoodLaws.{inverse_split, rules_got}
use Rattle.round_inverses.proofs.inverses.inverse_round.Goals as goal

pub loop-left-preserved : goal.loop-left-preserved
loop-left-preserved c =
    let round = c.args.round.now in
    let tables = rules_of_all c.args.tables.now in
    let n = c.loop-left.left in
    let i : ℕ = n - 1 in
    let change = c.index-round-left.result in
    let most = c.loop-left.invariant.within in
    let less : i < length round = omega arith in
    let next : i + 1 ≡ n = omega arith in
    let before : c.rules-before.result.now ≡ rules_at tables (switch_of change) =
    c.rules-before.ensures.value
    ∙ sym (rules_got c.args.tables.now (switch_of change).0 c.table.result.now (ap (λ (s : SwitchId). slice_get c.args.tables.now s.0) (sym c.switch.ensures) ∙ c.table.ensures)) in
    record {
      within = omega arith;
      inverse =
          c.in_ok-push.ensures.items ∙ ap (λ (x : Change). c.loop-left.inverse.items ++ x ∷ []) (c.inverse_of.ensures ∙ ap (λ (l : List Rule). inverse_of l change) before)
          ∙ ap (λ (l : List Change). l ++ inverse_of (rules_at tables (switch_of change)) change ∷ []) (c.loop-left.invariant.inverse ∙ ap (λ (k : ℕ). inverse_round tables (drop k round)) (sym next))
          ∙ sym (inverse_split tables round i change less c.index-round-left.is);
    }
