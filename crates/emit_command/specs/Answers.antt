-- What `emit` says.
use Rattle.std.specs.Prelude.{◌≡◌, List}
use Rattle.topology.specs.Networks.{Network}
use Rattle.update_model.specs.declared.Change.{Change}
use Rattle.command_base.specs.declared.status.Status.TheVariants as status
use Rattle.command_base.specs.Answers.{Answer}
use Rattle.command_base.specs.Updates.{PlanMeaning}
use Rattle.emit_command.specs.Lines.{emit_text}
use Rattle.emit_command.specs.ReadBack.{ReadsBack}

-- the answer is the lines of the rounds, which carry them out
pub record SaysMessages (net : Network) (rounds : List (List Change)) (answer : Answer) : Type 0 where
  pub answer_is : answer ≡ record { status = status.Done; text = emit_text net rounds }
  pub carries_out : ReadsBack net rounds (emit_text net rounds)

-- the answer of `emit`: the lines of the plan that was read
abbrev pub IsEmitAnswer : PlanMeaning → Answer → Type 0
IsEmitAnswer m answer = SaysMessages m.net m.plan.rounds answer
