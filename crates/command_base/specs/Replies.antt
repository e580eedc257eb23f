-- What a command's result says: a reply, early or late, is where its dialogue leads.
use Rattle.std.specs.Prelude.{◌≡◌, ◌⊎◌, ℕ, Option, None, Result, Ok, Err, List}
use Rattle.file_access.specs.Causes.{Rose}
use Rattle.file_access.specs.Outside.{Files}
use Rattle.command_base.specs.declared.kinds.FileKind.{FileKind}
use Rattle.command_base.specs.declared.faults.Fault.{Fault}
use Rattle.command_base.specs.declared.reply.Reply.{Reply}
use Rattle.command_base.specs.declared.exit.Exit.{Exit}
use Rattle.command_base.specs.declared.exit.Exit.TheVariants as exit
use Rattle.command_base.specs.Lines.{FaultWords}
use Rattle.command_base.specs.Answers.{Answer, bad_answer}
use Rattle.command_base.specs.Dialogues.{Dialogue, FileRead, IsLedTo, LeadsTo, SaysNothing, Lacks}

-- a reply without where its text lies in memory
abbrev pub answer_of : Reply → Answer
answer_of reply = record { status = reply.status; text = reply.text.items }

-- a fault without where its name lies in memory
abbrev pub words_of : Fault → FaultWords
words_of fault = record { number = fault.number; name = fault.name.now; field = fault.field; place = fault.place }

-- an early end because the bytes of a file mean nothing, or for want of memory
abbrev pub IsBad : {A E : Type 0} → FileKind → (E → FaultWords) → Result A E → Exit → Type 0
IsBad kind words read exit.ReadFault = ⊥
IsBad kind words read exit.Memory = Unit {0}
IsBad {A} {E} kind words read (exit.Says reply) = (fault : E) × (read ≡ Err fault) × (answer_of reply ≡ bad_answer kind (words fault))

-- a fault of reading has its cause: the count of the source's faults rose, or a file is missing
abbrev pub IsEarlyEnd : {E : Type 0} → Option Files → Option FileRead → Dialogue E → ℕ → ℕ → Exit → List ℕ → ℕ → Type 0
IsEarlyEnd held last dialogue before now exit.ReadFault selected taken = Rose before now ⊎ Lacks held dialogue
IsEarlyEnd held last dialogue before now exit.Memory selected taken = Unit {0}
IsEarlyEnd held last dialogue before now (exit.Says reply) selected taken = IsLedTo SaysNothing held last dialogue (answer_of reply) selected taken

-- an early end of the dialogue: a file is bad or too long, memory is wanting, or reading failed
pub record EndsEarly {E : Type 0} (held : Option Files) (last : Option FileRead) (dialogue : Dialogue E) (before now : ℕ) (e : Exit) (selected : List ℕ) (taken : ℕ) : Type 0 where
  pub ended : IsEarlyEnd held last dialogue before now e selected taken

abbrev pub IsMet : {E : Type 0} → (E → Answer → Type 0) → Option Files → Dialogue E → ℕ → ℕ → Result Reply Exit → List ℕ → ℕ → Type 0
IsMet says held dialogue before now (Ok reply) selected taken = LeadsTo says held None dialogue (answer_of reply) selected taken
IsMet says held dialogue before now (Err e) selected taken = EndsEarly held None dialogue before now e selected taken

-- The reply of a command, or its early end, is where its dialogue leads; `says` tells what is said of its end. `before` and `now` are
-- the counts of the source's faults.
pub record Meets {E : Type 0} (says : E → Answer → Type 0) (held : Option Files) (dialogue : Dialogue E) (before now : ℕ) (result : Result Reply Exit) (selected : List ℕ) (taken : ℕ) : Type 0 where
  pub met : IsMet says held dialogue before now result selected taken
