use Rattle.std.proofs.Common.{List}
use Rattle.flow_stats.specs.declared.index.Area.TheVariants.{Exactly}
use Rattle.flow_stats.specs.declared.index.Mark.{Mark}
use Rattle.flow_stats.specs.Index.{Adds, mark_eq}
use Rattle.flow_stats.proofs.MarkLaws.{is_so_far}
use Rattle.flow_stats.proofs.index.RuleIndex.add_around.Given as goal

abbrev pub invariant-loop-len : goal.invariant-loop-len
invariant-loop-len l = (old : List Mark) → Adds old (mark_eq (record { group = l.group; area = Exactly l.prefix })) l.fn.self → Adds old (is_so_far l.group l.prefix l.len) l.self
