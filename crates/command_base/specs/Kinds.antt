-- What is fixed for each status and each kind of file.
use Rattle.std.specs.Prelude.{ℕ, List, codes}
use Rattle.command_base.specs.declared.status.Status.{Status}
use Rattle.command_base.specs.declared.status.Status.TheVariants as status
use Rattle.command_base.specs.declared.kinds.FileKind.{FileKind}
use Rattle.command_base.specs.declared.kinds.FileKind.TheVariants.{Topology, Config, Old, New, Policy, Plan, Schedule, Replies, Input}

-- the most bytes that a file of the kind may have: 16 MiB, but 512 MiB for a plan, and 64 MiB for a schedule and for an input
abbrev pub limit_of : FileKind → ℕ
limit_of Topology = 16777216
limit_of Config = 16777216
limit_of Old = 16777216
limit_of New = 16777216
limit_of Policy = 16777216
limit_of Plan = 536870912
limit_of Schedule = 67108864
limit_of Replies = 16777216
limit_of Input = 67108864

-- what the kind is called in a line on a bad file
abbrev pub kind_name : FileKind → List ℕ
kind_name Topology = codes "topology"
kind_name Config = codes "config"
kind_name Old = codes "old"
kind_name New = codes "new"
kind_name Policy = codes "policy"
kind_name Plan = codes "plan"
kind_name Schedule = codes "schedule"
kind_name Replies = codes "replies"
kind_name Input = codes "input"

-- the exit status of the process
abbrev pub exit_code : Status → ℕ
exit_code status.Done = 0
exit_code status.Refused = 1
exit_code status.Usage = 2
exit_code status.BadFile = 3
exit_code status.TooFewTags = 4
exit_code status.TooSmall = 5
exit_code status.ReadFault = 6
exit_code status.WriteFault = 7
exit_code status.NotARun = 8
exit_code status.Memory = 9
