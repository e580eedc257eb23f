use Rattle.std.proofs.Common.{◌≡◌, ℕ, ◌<◌, false}
use Rattle.flow_stats.specs.declared.index.Area.TheVariants.{Exactly}
use Rattle.flow_stats.specs.Index.{block_around, has_mark}
use Rattle.flow_stats.proofs.index.RuleIndex.has_around.Given as goal

abbrev pub invariant-loop-len : goal.invariant-loop-len
invariant-loop-len l = (k : ℕ) → k < l.len → has_mark l.self (record { group = l.group; area = Exactly (block_around l.prefix.base k) }) ≡ false
