-- What a run of `certify` says of the files of a source that tells.
use Rattle.std.proofs.Common.{◌≡◌, ◌≤◌, ℕ, List, Some, length, ap, ◌∙◌, subst}
use Rattle.std.specs.Prelude.{Result}
use Rattle.std.specs.Io.KnownBytes.{Appends}
use Rattle.std.specs.declared.option.Option.{Option}
use Rattle.file_access.specs.Outside.{Files}
use Rattle.certificates.specs.Updates.{Update}
use Rattle.plan_format.specs.Plans.{plan_in}
use Rattle.command_base.specs.declared.kinds.FileKind.{FileKind}
use Rattle.command_base.specs.declared.kinds.FileKind.TheVariants as kind
use Rattle.command_base.specs.Kinds.{limit_of}
use Rattle.command_base.specs.Meanings.{IsReadAs}
use Rattle.command_base.specs.Names.{UpdateNames}
use Rattle.command_base.specs.Updates.{FilesMeanUpdate}
use Rattle.command_base.specs.declared.status.Status.{Status}
use Rattle.command_base.specs.declared.status.Status.TheVariants as status
use Rattle.command_base.specs.Runs.{IsComplete, Answered}
use Rattle.command_base.proofs.AnswerLaws.{texts_same}
use Rattle.command_base.proofs.JudgementLaws.{judges, judged_done, judged_then, refusals}
use Rattle.command_base.proofs.RunLaws.{settled_done}
use Rattle.check_base.specs.Names.{CheckNames}
use Rattle.check_base.specs.Checks.{CheckMeaning, check_dialogue, FilesMeanPlan, FilesAreCertified}
use Rattle.check_base.proofs.FileLaws.{check_meant}
use Rattle.certify_command.specs.Answers.{HoldBeside, IsCertifyAnswer, WritesCertifiedText, plan_with}
use Rattle.certify_command.specs.Promise.{CertifyPromise}

-- the text of a certified plan was written
writes : (files : Files) (names : CheckNames) (old new : Option (List ℕ)) (result : Status) → Answered IsCertifyAnswer files (check_dialogue names) old new result
    → result ≡ status.Done → (m : CheckMeaning) → FilesMeanPlan files names m → WritesCertifiedText m old new
writes files names old new result a is m mean = record {
  text = a.answer.text;
  is_text = judged_then (judges (check_meant files names) a) is m mean;
  written = a.written;
}

-- ---- the same files with the text that was written

read_beside : {A E : Type 0} (files others : Files) (kind : FileKind) (meaning : List ℕ → Result A E) (name : List ℕ) (value : A) → others name ≡ files name → IsReadAs files kind meaning name value → IsReadAs others kind meaning name value
read_beside files others kind meaning name value same read = record { bytes = read.bytes; held = same ∙ read.held; within = read.within; means = read.means }

update_beside : (files others : Files) (names : UpdateNames) (plan text : List ℕ) (u : Update) → HoldBeside files others names plan text → FilesMeanUpdate files names u → FilesMeanUpdate others names u
update_beside files others names plan text u beside mean = record {
  topology_is = read_beside files others kind.Topology _ names.topology u.net beside.topology mean.topology_is;
  old_is = read_beside files others kind.Old _ names.old u.old beside.old mean.old_is;
  new_is = read_beside files others kind.New _ names.new u.new beside.new mean.new_is;
  policy_is = read_beside files others kind.Policy _ names.policy u.demands beside.policy mean.policy_is;
}

-- the text that was written is the plan of an update that is certified
checked : (files : Files) (names : CheckNames) (old new : Option (List ℕ)) (result : Status) → Answered IsCertifyAnswer files (check_dialogue names) old new result → result ≡ status.Done
    → (others : Files) (before plan text : List ℕ) → old ≡ Some before → Appends old new text → length text ≤ limit_of kind.Plan → HoldBeside files others names.update plan text
    → FilesAreCertified others (record { update = names.update; plan = plan })
checked files names old new result a is others before plan text told there within beside =
    let good = (judged_done (judges (check_meant files names) a)).0 is in
    let m = good.meaning in
    let v = judged_then (judges (check_meant files names) a) is m good.mean in
    let wrote : Appends (Some before) new a.answer.text = subst (λ o. Appends o new a.answer.text) told a.written in
    let same : text ≡ a.answer.text = texts_same before new text a.answer.text (subst (λ o. Appends o new text) told there) wrote in
    record {
      meaning = record { update = m.update; plan = plan_with m v.evidence };
      mean = record {
        update_is = update_beside files others names.update plan text m.update beside good.mean.update_is;
        plan_is = record { bytes = text; held = beside.plan_is; within = within; means = ap (λ t. plan_in m.update.net t) same ∙ v.means };
      };
      few = good.few;
      holds = v.certified;
    }

pub promised : (files : Files) (names : CheckNames) (old new : Option (List ℕ)) (result : Status)
    → (IsComplete result → Answered IsCertifyAnswer files (check_dialogue names) old new result) → CertifyPromise files names old new result
promised files names old new result answered = record {
  done = λ settled. judged_done (judges (check_meant files names) (answered settled));
  plan = λ m mean is. writes files names old new result (answered (settled_done _ is)) is m mean;
  checked = λ others before plan text told is there within beside. checked files names old new result (answered (settled_done _ is)) is others before plan text told there within beside;
  refusals = refusals (λ settled. judges (check_meant files names) (answered settled));
}
