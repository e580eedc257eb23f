use Rattle.std.proofs.Common.{List, [], map, ◌∙◌, ap, subst}
use Rattle.std.specs.Prelude.{IsPermutation}
use Rattle.flow_rules.specs.declared.rules.Rule.{Rule}
use Rattle.round_mix.specs.Marks.{all_rules, marked_rule}
use Rattle.round_mix.specs.declared.MarkedRule.{MarkedRule}
use Rattle.round_mix.proofs.leading.fill_sorted.Goals as goal

pub returns-clause-sorted : goal.returns-clause-sorted
returns-clause-sorted c = record {
  moved = subst (λ (ms : List MarkedRule). IsPermutation ms c.sort_by_key.new.marks.items)
      (c.fill.ensures.items ∙ ap (λ (rs : List Rule). map (marked_rule []) (all_rules rs c.args.changes.now)) c.rules.ensures.value) c.sort_by_key.ensures.permutation;
  order = c.sort_by_key.ensures.order;
}
