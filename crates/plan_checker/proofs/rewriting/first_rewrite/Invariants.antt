use Rattle.std.proofs.Common.{take}
use Rattle.plan_checker.specs.Rewrites.{IsRewriteFound}
use Rattle.plan_checker.proofs.rewriting.first_rewrite.Given as goal

abbrev pub invariant-loop-change : goal.invariant-loop-change
invariant-loop-change l = IsRewriteFound (take l.change-index l.round) l.best
