-- A command that says its answer once its files are read.
use Rattle.std.proofs.Common.{◌≡◌, ℕ, List, None, Ok, Err}
use Rattle.std.specs.declared.option.Option.{Option}
use Rattle.std.specs.declared.result.Result.{Result}
use Rattle.std.specs.Result.{IfOk, IfErr, IsErr, IsErrAnd}
use Rattle.std.proofs.lemmas.Result.{err_from_is_err_and}
use Rattle.file_access.specs.Outside.{Files}
use Rattle.command_base.specs.declared.exit.Exit.{Exit}
use Rattle.command_base.specs.declared.exit.Exit.TheVariants as exit
use Rattle.command_base.specs.declared.reply.Reply.{Reply}
use Rattle.command_base.specs.Answers.{Answer}
use Rattle.command_base.specs.Dialogues.{Dialogue, Ends, FileRead, Gives, IsWhole}
use Rattle.command_base.specs.Replies.{answer_of, EndsEarly, IsMet, Meets}
use Rattle.command_base.proofs.DialogueLaws.{gives_end, leads_whole, ends_for_memory}

is_met_whole : {E : Type 0} (says : E → Answer → Type 0) (held : Option Files) (last : Option FileRead) (d : Dialogue E) (v : E) (before now : ℕ) (r : Result Reply Exit) (selected : List ℕ) (taken : ℕ)
    → Gives held None d v last → IsWhole last selected taken → IfOk r (λ reply. says v (answer_of reply)) → IfErr r (λ e. e ≡ exit.Memory)
    → IsMet says held d before now r selected taken
is_met_whole says held last d v before now (Ok reply) selected taken gives whole said stops = leads_whole gives said whole
is_met_whole says held last d v before now (Err e) selected taken gives whole said stops = ends_for_memory stops

-- a result that says the answer to what the dialogue gives, or that memory is wanting, meets the dialogue
pub meets_whole : {E : Type 0} {says : E → Answer → Type 0} {held : Option Files} {last : Option FileRead} {d : Dialogue E} {v : E} {before now : ℕ} {r : Result Reply Exit} {selected : List ℕ} {taken : ℕ}
    → Gives held None d v last → IsWhole last selected taken → IfOk r (λ reply. says v (answer_of reply)) → IfErr r (λ e. e ≡ exit.Memory)
    → Meets says held d before now r selected taken
meets_whole {E} {says} {held} {last} {d} {v} {before} {now} {r} {selected} {taken} gives whole said stops =
    record { met = is_met_whole says held last d v before now r selected taken gives whole said stops }

-- an early end of the dialogue, handed on
pub meets_early : {E : Type 0} {says : E → Answer → Type 0} {held : Option Files} {d : Dialogue E} {before now : ℕ} {e : Exit} {r : Result Reply Exit} {selected : List ℕ} {taken : ℕ}
    → EndsEarly held None d before now e selected taken → IsErr r × IsErrAnd r (λ y. y ≡ e) → Meets says held d before now r selected taken
meets_early {E} {says} {held} {d} {before} {now} {e} {r} {selected} {taken} end is =
    let p = err_from_is_err_and r is.1 in
    rw (p.1, p.2) (record { met = end })

-- the same of a command that reads no file: it meets the dialogue that ends at once, over every source
pub meets_at_once : {E : Type 0} {says : E → Answer → Type 0} {held : Option Files} {v : E} {before now : ℕ} {r : Result Reply Exit} {selected : List ℕ} {taken : ℕ}
    → IfOk r (λ reply. says v (answer_of reply)) → IfErr r (λ e. e ≡ exit.Memory) → Meets says held (Ends v) before now r selected taken
meets_at_once {E} {says} {held} {v} said stops = meets_whole (gives_end held None v) (tt {0}) said stops
