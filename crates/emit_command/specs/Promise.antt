-- What a run of `emit` promises over the files of a source that tells.
use Rattle.std.specs.Prelude.{◌≡◌, ◌↔◌, ℕ, List, Option}
use Rattle.std.specs.Io.KnownBytes.{Appends}
use Rattle.file_access.specs.Outside.{Files}
use Rattle.command_base.specs.declared.status.Status.{Status}
use Rattle.command_base.specs.declared.status.Status.TheVariants as status
use Rattle.command_base.specs.Names.{PlanNames}
use Rattle.command_base.specs.Updates.{PlanMeaning, FilesMeanOnePlan}
use Rattle.command_base.specs.Runs.{IsComplete}
use Rattle.emit_command.specs.Lines.{emit_text}
use Rattle.emit_command.specs.ReadBack.{ReadsBack}

-- the files and their names, what was written before and after the run, and how it ended
pub record EmitPromise (files : Files) (names : PlanNames) (old new : Option (List ℕ)) (result : Status) : Type 0 where
  -- Done comes exactly where both files are read.
  pub done : IsComplete result → ((result ≡ status.Done) ↔ ((m : PlanMeaning) × FilesMeanOnePlan files names m))
  -- What is written then is one line for each message of the plan: in each round its changes in order, and then a barrier request for each
  -- switch with a change; the xids count from 1.
  pub lines : (m : PlanMeaning) → FilesMeanOnePlan files names m → result ≡ status.Done → Appends old new (emit_text m.net m.plan.rounds)
  -- Read back line by line, which can be done in one way only, these messages are the plan's rounds: each switch gets in each round just
  -- its changes, in their order, and then a barrier request.
  pub carries_out : (m : PlanMeaning) → FilesMeanOnePlan files names m → result ≡ status.Done → ReadsBack m.net m.plan.rounds (emit_text m.net m.plan.rounds)
