use Rattle.std.proofs.Common.{◌≡◌, ℕ, List, None, Some, inl, inr, sym, subst}
use Rattle.std.specs.Prelude.{Option}
use Rattle.file_access.specs.Outside.{Files}
use Rattle.command_base.specs.declared.exit.Exit.{Exit}
use Rattle.command_base.specs.declared.exit.Exit.TheVariants as exit
use Rattle.command_base.specs.declared.kinds.FileKind.TheVariants as kind
use Rattle.command_base.specs.Dialogues.{IsWhole, file_read}
use Rattle.command_base.specs.Replies.{EndsEarly}
use Rattle.check_base.specs.Checks.{check_dialogue}
use Rattle.check_base.specs.Names.{names_seen}
use Rattle.serve_command.specs.Serving.{meaning_of, Serves}
use Rattle.serve_command.proofs.EndLaws.{ends_refused}
use Rattle.serve_command.proofs.command.serve.Goals as goal

pub returns-in-Ok-clause-ends : goal.returns-in-Ok-clause-ends
returns-in-Ok-clause-ends g c =
    elim c.serve_files-status.ensures.ends [
      | inl refused ↦ inl (ends_refused (g.S.Source.held c.args.source.now) (check_dialogue (names_seen c.args.names.now)) (meaning_of c.in-Ok.files) (Some (file_read kind.Plan c.args.names.now.plan.now)) _ _ _ _ _ (c.in-Ok.ensures.gives None)
          (subst (λ s. IsWhole (Some (file_read kind.Plan c.args.names.now.plan.now)) (g.S.Source.selected s) (g.S.Source.taken s)) (sym refused.0) c.in-Ok.ensures.whole) refused.1)
      | inr serves ↦ inr (record {
        meaning = meaning_of c.in-Ok.files;
        gives = c.in-Ok.ensures.gives None;
        serves = subst (λ (h : Option Files). Serves (meaning_of c.in-Ok.files) h (g.K.Sink.written c.args.sink.now) (g.K.Sink.written c.serve_files-status.new.sink) (g.S.Source.taken c.serve_files-status.new.source) (g.S.SourceBeside.takes c.serve_files-status.new.source) c.serve_files-status.result) c.read_check_files.ensures.held serves;
      })
    ]

pub returns-in-Err-clause-ends : goal.returns-in-Err-clause-ends
returns-in-Err-clause-ends g c = inl (c.write_exit.ensures.ends _ _ _ _ _ _ (c.in-Err.ensures.stops None))

pub returns-in-Err-clause-read_fault : goal.returns-in-Err-clause-read_fault
returns-in-Err-clause-read_fault g c = λ is.
    let early : EndsEarly (g.S.Source.held c.args.source.now) None (check_dialogue (names_seen c.args.names.now)) (g.S.Source.faults c.args.source.now) (g.S.Source.faults c.read_check_files.new.source) exit.ReadFault (g.S.Source.selected c.read_check_files.new.source) (g.S.Source.taken c.read_check_files.new.source) =
    subst (λ (x : Exit). EndsEarly (g.S.Source.held c.args.source.now) None (check_dialogue (names_seen c.args.names.now)) (g.S.Source.faults c.args.source.now) (g.S.Source.faults c.read_check_files.new.source) x (g.S.Source.selected c.read_check_files.new.source) (g.S.Source.taken c.read_check_files.new.source)) (c.write_exit.ensures.read_fault is) (c.in-Err.ensures.stops None)
    in
    elim early.ended [ inl rose ↦ inl rose | inr lacks ↦ inr (inl lacks) ]
