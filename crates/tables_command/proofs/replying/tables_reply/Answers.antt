use Rattle.std.proofs.Common.{subst}
use Rattle.schedule_replay.specs.declared.running.ReplayFault.{ReplayFault}
use Rattle.two_way_replay.specs.CourseWorlds.{CourseWorld, StopsAtStep, StopsCourse}
use Rattle.tables_command.specs.Tabled.{meaning_of}
use Rattle.tables_command.proofs.TabledLaws.{says_stop}
use Rattle.tables_command.proofs.replying.tables_reply.Goals as goal

pub returns-in-Err-NotEnabled : goal.returns-in-Err-NotEnabled
returns-in-Err-NotEnabled c =
    let m = meaning_of c.args.files.now in
    let line = c.in-Err-NotEnabled.line in
    let stops : StopsAtStep c.in_ok-world.world c.replay_two_way.new.world m.schedule line =
    subst (λ (f : ReplayFault). StopsCourse c.in_ok-world.world c.replay_two_way.new.world m.schedule f) c.in-Err-NotEnabled.field-0-is c.in-Err-NotEnabled.ensures.err in
    let at = subst (λ (w : CourseWorld). StopsAtStep w c.replay_two_way.new.world m.schedule line) c.in_ok-world.ensures stops in
    says_stop m c.replay_two_way.new.world line at c.not_a_run_reply.result c.not_a_run_reply.ensures
