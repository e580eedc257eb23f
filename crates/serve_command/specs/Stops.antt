-- What was written where serving ends.
use Rattle.std.specs.Prelude.{◌≡◌, ◌⊎◌, ℕ, List, [], ◌++◌, length, take, Bool, true, false, Option, None, Some, codes}
use Rattle.std.specs.Io.KnownBytes.{Appends, Keeps}
use Rattle.file_access.specs.Causes.{raised_count}
use Rattle.file_access.specs.Outside.{Files, AppendsFront, IsMissing}
use Rattle.command_base.specs.declared.status.Status.{Status}
use Rattle.command_base.specs.declared.status.Status.TheVariants as status
use Rattle.two_way_driver.specs.Calls.{DriverView, IsServing}
use Rattle.serve_lines.specs.Lines.{ended_lines, open_line, lines_in, kept_bytes}
use Rattle.serve_command.specs.Served.{after_lines, blocks}
use Rattle.serve_command.specs.Takes.{InputTake, CameInTurn}
use Rattle.serve_command.specs.declared.fault.ServeFault.{ServeFault}
use Rattle.serve_command.specs.declared.fault.ServeFault.TheVariants as fault
use Rattle.serve_command.specs.declared.served_update.ServedUpdate.{ServedUpdate}

-- the name under which a source has the standard input
abbrev pub input_name : List ℕ
input_name = codes "/dev/stdin"

-- what the standard input holds, where the source tells
abbrev pub input_of : Option Files → Option (List ℕ)
input_of None = None
input_of (Some files) = files input_name

-- a driver that can be called, of the network and of as many rounds
pub record Suits (update : ServedUpdate) (v : DriverView) : Type 0 where
  pub net : update.net.now ≡ v.net
  pub rounds : update.rounds ≡ length v.rounds
  pub serving : IsServing v

-- a line stopped it: nothing of its block was written, or a front where writing failed
abbrev pub StopsLine : Option (List ℕ) → Option (List ℕ) → List ℕ → ServeFault → Type 0
StopsLine old new block fault.WriteFault = AppendsFront old new block
StopsLine old new block fault.Memory = Keeps old new

-- one of these lines, which are answered by this text, stopped it: the text of those before it was written, and of its own a front
-- where writing failed
abbrev pub StopsAt : (List (List ℕ) → List ℕ) → Option (List ℕ) → Option (List ℕ) → List (List ℕ) → ServeFault → Type 0
StopsAt text old new lines fault.WriteFault = AppendsFront old new (text lines)
StopsAt text old new lines fault.Memory = (n : ℕ) × Appends old new (text (take n lines))

-- of these bytes all lines that have their line end were served: the driver is behind them, the blocks are written, and the rest
-- is kept
pub record HasServed (v : DriverView) (old new : Option (List ℕ)) (bytes : List ℕ) (driver : DriverView) (line : List ℕ) : Type 0 where
  pub driver_is : driver ≡ after_lines v (ended_lines bytes)
  pub line_is : line ≡ kept_bytes (open_line bytes)
  pub written : Appends old new (blocks v (ended_lines bytes))

-- these bytes are a front of those, where they are known
abbrev pub IsFrontOf : Option (List ℕ) → List ℕ → Type 0
IsFrontOf None bytes = Unit {0}
IsFrontOf (Some all) bytes = (rest : List ℕ) × (all ≡ bytes ++ rest)

-- these bytes are all of those, where they are known
abbrev pub AreAll : Option (List ℕ) → List ℕ → Type 0
AreAll None bytes = Unit {0}
AreAll (Some all) bytes = all ≡ bytes

-- the lines that taken bytes end, and the last one of an input that is ended, also where it lacks its line end
abbrev pub lines_ended : Bool → List ℕ → List (List ℕ)
lines_ended false taken = ended_lines taken
lines_ended true taken = lines_in taken

-- these bytes of the input were taken: all of them where it is ended
abbrev pub IsInputTaken : Bool → Option (List ℕ) → List ℕ → Type 0
IsInputTaken false input taken = IsFrontOf input taken
IsInputTaken true input taken = AreAll input taken

-- How serving the lines of an input ends, of which these bytes were taken, and the end was found where `ended`: at its end the text of all
-- its lines is written; where reading failed that of all lines that the bytes end, for want of memory that of the first ones, and a front
-- where writing failed.
abbrev pub EndsAfter : (List (List ℕ) → List ℕ) → Option (List ℕ) → Option (List ℕ) → Option (List ℕ) → List ℕ → Bool → Status → Type 0
EndsAfter text input old new taken ended status.Done = (ended ≡ true) × AreAll input taken × Appends old new (text (lines_in taken))
EndsAfter text input old new taken ended status.ReadFault = (ended ≡ false) × IsFrontOf input taken × Appends old new (text (ended_lines taken))
EndsAfter text input old new taken ended status.WriteFault = IsInputTaken ended input taken × StopsAt text old new (lines_ended ended taken) fault.WriteFault
EndsAfter text input old new taken ended status.Memory = IsInputTaken ended input taken × StopsAt text old new (lines_ended ended taken) fault.Memory
EndsAfter text input old new taken ended other = ⊥

-- some bytes of the input were taken, as many as were counted, in turn with what was put, and serving ends so
pub record EndsInput (text : List (List ℕ) → List ℕ) (input old new : Option (List ℕ)) (counted : ℕ) (takes : Option (List InputTake)) (result : Status) : Type 0 where
  pub taken : List ℕ
  pub ended : Bool
  pub count : counted ≡ raised_count 0 (length taken)
  pub in_turn : CameInTurn text old takes taken ended
  pub ends : EndsAfter text input old new taken ended result

-- so it does with the standard input; where there is none, by a fault of reading behind the text of no lines
pub record EndsStandardInput (text : List (List ℕ) → List ℕ) (held : Option Files) (old new : Option (List ℕ)) (counted : ℕ) (takes : Option (List InputTake)) (result : Status) : Type 0 where
  pub input : EndsInput text (input_of held) old new counted takes result
  pub missing : IsMissing held input_name → (result ≡ status.ReadFault) × Appends old new (text [])

-- it ends before the input is looked at: for want of memory nothing was written, and a front of the text of no lines where writing failed
abbrev pub EndsBefore : (List (List ℕ) → List ℕ) → Option (List ℕ) → Option (List ℕ) → Status → Type 0
EndsBefore text old new status.WriteFault = AppendsFront old new (text [])
EndsBefore text old new status.Memory = Keeps old new
EndsBefore text old new other = ⊥

-- how serving ends: before the input is looked at, or among its lines
abbrev pub EndsServing : (List (List ℕ) → List ℕ) → Option Files → Option (List ℕ) → Option (List ℕ) → ℕ → Option (List InputTake) → Status → Type 0
EndsServing text held old new counted takes result = EndsBefore text old new result ⊎ EndsStandardInput text held old new counted takes result

-- the status of a run that a line stops
abbrev pub status_of : ServeFault → Status
status_of fault.WriteFault = status.WriteFault
status_of fault.Memory = status.Memory
