use Rattle.std.proofs.Common.{ℕ, ◌<◌, get_or, sym, ◌∙◌}
use Rattle.topology.specs.Networks.{switch_count}
use Rattle.flow_stats.specs.Replies.{is_begun}
use Rattle.flow_stats.specs.declared.messages.Progress.TheVariants.{Awaited}
use Rattle.config_files.proofs.TableUpdates.{find_more}
use Rattle.flow_stats.proofs.read.incomplete.Goals as goal

pub loop-s-preserved : goal.loop-s-preserved
loop-s-preserved c =
    let less : c.loop-s.s < switch_count c.args.net.now = rw (← c.switches-s-end.ensures.value) c.loop-s-test.true in
    sym (find_more (λ (s : ℕ). is_begun (get_or c.args.told.now.progress.items s Awaited)) c.loop-s.s (switch_count c.args.net.now) less (sym c.is_begun.ensures ∙ c.if-is_begun.false)) ∙ c.loop-s.invariant
