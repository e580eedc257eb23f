use Rattle.std.proofs.Common.{List, ℕ, ◌++◌, ◌∙◌, ap, arith}
use Rattle.plan_text.specs.PlanText.{numbers_tree}
use Rattle.plan_waits.proofs.TextAgain.{text_is}
use Rattle.plan_waits.proofs.write.with_member.Goals as goal

pub returns : goal.returns
returns c =
    text_is c.args.net.now c.args.plan.now c.args.text.items c.requires (numbers_tree c.args.waits.now) _ c.truncate.new.self.items c.extend_from_slice.new.self.items c.extend_from_slice-2.new.self.items
    c.extend_from_slice-3.new.self.items c.in_ok-list.list.items (omega arith) c.truncate.ensures.items c.in_ok-extend_from_slice.ensures.items c.in_ok-list.ensures
    (c.in_ok-extend_from_slice-2.ensures.items ∙ ap (λ (s : List ℕ). c.extend_from_slice.new.self.items ++ s) c.deref.ensures.value) c.in_ok-extend_from_slice-3.ensures.items
