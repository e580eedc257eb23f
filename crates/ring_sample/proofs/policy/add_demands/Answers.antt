use Rattle.std.proofs.Common.{map, ap, ◌∙◌}
use Rattle.std.specs.Prelude.{not, ◌==◌}
use Rattle.std.proofs.lemmas.Bool.{eq-eqb, ne_eqb, not_from_true, not_from_false}
use Rattle.serde_json.specs.View.{view}
use Rattle.ring_sample.specs.RingTrees.{demand_tree}
use Rattle.ring_sample.proofs.Loops.{one_passed, none_passed}
use Rattle.ring_sample.proofs.policy.add_demands.Goals as goal
use Rattle.ring_sample.proofs.policy.add_demands.Goals.{then-j-switch+in_ok-demand_value+in_ok-push, else-j-switch}

pub loop-j-preserved : goal.loop-j-preserved
loop-j-preserved c = elim c.if-j-switch.branch [
  | then-j-switch+in_ok-demand_value+in_ok-push w ↦ ap (λ v. map view v.items) w.values-is ∙ ap (map view) w.in_ok-push.ensures.ok
      ∙ one_passed (demand_tree c.args.switch) (λ k. not (k == c.args.switch)) (map view c.args.values.now.items) c.loop-j.values.items w.in_ok-demand_value.field-0 c.loop-j.j c.loop-j.invariant
      w.in_ok-demand_value.ensures (not_from_false (c.loop-j.j == c.args.switch) (ne_eqb c.loop-j.j c.args.switch w.if-j-switch.true))
  | else-j-switch w ↦ ap (λ v. map view v.items) w.values-is
      ∙ none_passed (demand_tree c.args.switch) (λ k. not (k == c.args.switch)) (map view c.args.values.now.items) c.loop-j.values.items c.loop-j.j c.loop-j.invariant
      (not_from_true (c.loop-j.j == c.args.switch) (eq-eqb c.loop-j.j c.args.switch w.if-j-switch.false))
]
