-- What `emit` says carries the plan out, and what a run says of the files of a source that tells.
use Rattle.std.proofs.Common.{ℕ, ◌≤◌, List, length, arith}
use Rattle.std.specs.Prelude.{sum_by}
use Rattle.std.specs.List.{AllByRecursion}
use Rattle.std.specs.declared.option.Option.{Option}
use Rattle.file_access.specs.Outside.{Files}
use Rattle.topology.specs.Networks.{Network, IsNetwork}
use Rattle.update_model.specs.Ranges.{IsPlanChange}
use Rattle.update_model.specs.declared.Change.{Change}
use Rattle.command_base.specs.declared.status.Status.{Status}
use Rattle.command_base.specs.declared.status.Status.TheVariants as status
use Rattle.command_base.specs.Answers.{Answer}
use Rattle.command_base.specs.Names.{PlanNames}
use Rattle.command_base.specs.Readings.{reading_plan_files}
use Rattle.command_base.specs.Updates.{FilesMeanOnePlan}
use Rattle.command_base.specs.Runs.{IsComplete, Answered}
use Rattle.command_base.proofs.MeaningLaws.{plan_files_meant}
use Rattle.command_base.proofs.AnswerLaws.{SaysOfFiles, says_of_files, done_means, wrote, status_of, text_of}
use Rattle.command_base.proofs.RunLaws.{settled_done}
use Rattle.round_messages.specs.Requests.{sent_in, requests_from}
use Rattle.emit_command.specs.Lines.{emit_text}
use Rattle.emit_command.specs.ReadBack.{ReadsBack}
use Rattle.emit_command.specs.Answers.{IsEmitAnswer}
use Rattle.emit_command.specs.Promise.{EmitPromise}
use Rattle.round_messages.proofs.Requests.{request_count, all_asked, all_sent}
use Rattle.emit_command.proofs.Reading.{OwnTexts, read_back, read_once}
use Rattle.round_messages.proofs.BySwitch.{each_round}

-- the answer with a text
abbrev pub answer_with : List ℕ → Answer
answer_with t = record { status = status.Done; text = t }

pub carried : (net : Network) (rounds : List (List Change)) → OwnTexts → IsNetwork net → length rounds ≤ 4200 → sum_by length rounds ≤ 2200000 → AllByRecursion (AllByRecursion (IsPlanChange net)) rounds
    → ReadsBack net rounds (emit_text net rounds)
unfolding emit_text
carried net rounds own_texts is few_rounds few_changes h =
    let few = is.few in
    let count = request_count net 0 rounds few in
    let read = read_back net is (sent_in net rounds) (all_sent net 1 (requests_from net 0 rounds) (all_asked net 0 rounds (omega arith) h) (omega (arith, count))) in
    record {
      sent = sent_in net rounds;
      read = read;
      read_only = λ others found. read_once own_texts net _ others (sent_in net rounds) found read;
      each = λ k s. each_round net rounds k s h;
    }

pub promised : (files : Files) (names : PlanNames) (old new : Option (List ℕ)) (result : Status) → (IsComplete result → Answered IsEmitAnswer files (reading_plan_files names) old new result) → EmitPromise files names old new result
promised files names old new result answered =
    let says : IsComplete result → SaysOfFiles (FilesMeanOnePlan files names) IsEmitAnswer old new result = λ settled. says_of_files (plan_files_meant files names) (answered settled) in
    record {
      done = λ settled. done_means (says settled) (λ m v. status_of _ _ _ v.answer_is);
      lines = λ m mean is. let r = says (settled_done _ is) in wrote r _ (text_of r.answer _ _ (r.said m mean).answer_is);
      carries_out = λ m mean is. ((says (settled_done _ is)).said m mean).carries_out;
    }
