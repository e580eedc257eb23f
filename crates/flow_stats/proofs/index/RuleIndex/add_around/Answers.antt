use Rattle.std.proofs.Common.{subst, ap, arith}
use Rattle.net_base.specs.Blocks.{Block}
use Rattle.flow_stats.specs.declared.index.Area.TheVariants.{Within}
use Rattle.flow_stats.specs.Index.{Adds, mark_eq}
use Rattle.flow_stats.proofs.MarkLaws.{begun, gone_on, ended}
use Rattle.flow_stats.proofs.index.RuleIndex.add_around.Goals as goal

pub loop-len-init : goal.loop-len-init
loop-len-init c old h = begun c.args.group c.args.prefix.now old c.args.self.now h

pub loop-len-preserved : goal.loop-len-preserved
loop-len-preserved c old h =
    gone_on c.args.group c.args.prefix.now old c.loop-len.len c.loop-len.self c.insert.new.self (c.loop-len.invariant old h)
    (subst (λ (b : Block). Adds c.loop-len.self (mark_eq (record { group = c.args.group; area = Within b })) c.insert.new.self) c.prefix_around.ensures c.in_ok-insert.ensures)

pub returns-clause-added : goal.returns-clause-added
returns-clause-added c old h = ended c.args.group c.args.prefix.now old c.loop-len.len c.loop-len.self (omega (arith, c.loop-len.auto.len-end, c.loop-len-test.false, ap (λ (b : Block). b.len) c.prefix.view_is)) (c.loop-len.invariant old h)
