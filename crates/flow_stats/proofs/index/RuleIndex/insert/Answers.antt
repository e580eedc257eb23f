use Rattle.std.proofs.Common.{subst}
use Rattle.flow_stats.specs.declared.index.Mark.{Mark}
use Rattle.flow_stats.specs.Index.{Adds, mark_eq}
use Rattle.flow_stats.proofs.MarkLaws.{inserted}
use Rattle.flow_stats.proofs.index.RuleIndex.insert.Goals as goal

pub returns : goal.returns
returns c =
    let m : Mark = record { group = c.args.group; area = c.args.area } in
    subst (λ old. Adds old (mark_eq m) c.insert.new.self.keys) c.self.view_is (inserted c.self.inside.marks.keys c.insert.new.self.keys m c.in_ok-insert.ensures.updates.0)
