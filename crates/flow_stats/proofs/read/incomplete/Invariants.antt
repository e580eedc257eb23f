use Rattle.std.proofs.Common.{◌≡◌, ◌-◌, get_or, find}
use Rattle.std.specs.List.{range_with_len}
use Rattle.topology.specs.Networks.{switch_count}
use Rattle.flow_stats.specs.Replies.{is_begun, incomplete}
use Rattle.flow_stats.specs.declared.messages.Progress.TheVariants.{Awaited}
use Rattle.flow_stats.proofs.read.incomplete.Given as goal

abbrev pub invariant-loop-s : goal.invariant-loop-s
invariant-loop-s l = find (λ s. is_begun (get_or l.told.progress.items s Awaited)) (range_with_len l.s (switch_count l.net - l.s)) ≡ incomplete l.net l.told.progress.items
