-- What the program answers.
use Rattle.std.specs.Prelude.{ℕ, List}
use Rattle.command_base.specs.declared.status.Status.{Status}
use Rattle.command_base.specs.declared.status.Status.TheVariants as status
use Rattle.command_base.specs.declared.kinds.FileKind.{FileKind}
use Rattle.command_base.specs.Lines.{FaultWords, bad_line, too_long_line}

-- a status and the whole text
pub record Answer : Type 0 where
  pub status : Status
  pub text : List ℕ

-- on a file that isn't read
abbrev pub bad_answer : FileKind → FaultWords → Answer
bad_answer kind words = record { status = status.BadFile; text = bad_line kind words }

-- on a file that has more bytes than its kind may have
abbrev pub too_long : FileKind → Answer
too_long kind = record { status = status.BadFile; text = too_long_line kind }
