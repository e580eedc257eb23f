use Rattle.std.proofs.Common.{sym, ◌∙◌}
use Rattle.std.specs.Result.{is_ok}
use Rattle.ordered_check.proofs.GuardedLaws.{guarded_lists, extended}
use Rattle.ordered_check.proofs.guarded.GuardedWalks.keep.Goals as goal

pub returns-then-is_ok-2 : goal.returns-then-is_ok-2
returns-then-is_ok-2 c t e class is held = (
  class,
  is,
  guarded_lists t e c.args.class class c.args.walk.now.steps c.extend_from_slice-steps.new.self.items c.args.walk.now.leaving c.extend_from_slice-leaving.new.self.items
      (sym c.steps.ensures ∙ extended (is_ok c.extend_from_slice-steps.result) c.extend_from_slice-steps.new.self.items c.clear.new.self.items c.steps.result.now c.extend_from_slice-steps.ensures.items (sym c.is_ok.ensures.value ∙ c.if-is_ok.true) c.clear.ensures.items)
      (sym c.leaving.ensures ∙ extended (is_ok c.extend_from_slice-leaving.result) c.extend_from_slice-leaving.new.self.items c.clear-2.new.self.items c.leaving.result.now c.extend_from_slice-leaving.ensures.items (sym c.is_ok-then-is_ok.ensures.value ∙ c.if-is_ok-2.true) c.clear-2.ensures.items)
      held,
)
