-- What a run of `sample` promises.
use Rattle.std.proofs.Common.{◌≡◌, ◌≢◌, ℕ, ◌*◌, ◌-◌, List, length, refl, sym, subst, ap, ◌∙◌, inl, inr}
use Rattle.std.specs.declared.option.Option.{Option}
use Rattle.std.specs.Io.KnownBytes.{Appends}
use Rattle.file_access.specs.Outside.{Files, AppendsFront}
use Rattle.command_base.specs.declared.status.Status.{Status}
use Rattle.command_base.specs.declared.status.Status.TheVariants as status
use Rattle.command_base.specs.Answers.{Answer}
use Rattle.command_base.specs.Dialogues.{Ends}
use Rattle.command_base.specs.Runs.{EndsAs}
use Rattle.command_base.proofs.AnswerLaws.{status_of, text_of}
use Rattle.dest_classes.specs.Classes.{ClassList, class_count, boundaries}
use Rattle.certificates.specs.declared.OrderedEvidence.{OrderedEvidence}
use Rattle.certificates.specs.declared.Evidence.TheVariants.{Ordered}
use Rattle.certificates.specs.declared.Plan.{Plan}
use Rattle.table_difference.specs.SameClasses.{HasSameClasses}
use Rattle.round_planner.specs.Ends.{IsPlanOf}
use Rattle.round_planner.specs.Updates.{update_target, KeepsConsistent}
use Rattle.ring_sample.specs.Ring.{ring_tables, ring_update}
use Rattle.sample_command.specs.Summaries.{sample_line, ring_classes, IsSummary, SaysSummary}
use Rattle.sample_command.specs.Promise.{WritesSummary, WritesFront, SamplePromise}

-- the line on the evidence of the plan
pub summary_of : (n : ℕ) (plan : Plan) (searched : IsPlanOf (update_target (ring_update n)) (ring_tables n 2) plan) → KeepsConsistent (ring_update n) plan → (rounds classes : ℕ) → rounds ≡ length plan.rounds → length plan.rounds ≡ 4 * (n - 1) → classes ≡ ring_classes n plan → classes ≡ 6 * n
    → (e : OrderedEvidence) → plan.evidence ≡ Ordered e → (text : List ℕ) → text ≡ sample_line n rounds classes (length e.numberings) (length e.picks) → IsSummary n text
summary_of n plan searched keeps rounds classes counted_rounds many_rounds counted_classes classes_are e is text text_is =
    let rounds_are : rounds ≡ 4 * (n - 1) = counted_rounds ∙ many_rounds in
    let same : Ordered e ≡ Ordered searched.evidence = sym is ∙ ap (λ (p : Plan). p.evidence) searched.plan_is in
    let one : e ≡ searched.evidence = cc in
    record {
      plan = plan;
      searched = searched;
      keeps = keeps;
      rounds = many_rounds;
      classes = sym counted_classes ∙ classes_are;
      text_is =
          text_is ∙ ap (λ (r : ℕ). sample_line n r classes (length e.numberings) (length e.picks)) rounds_are
          ∙ ap (λ (c : ℕ). sample_line n (4 * (n - 1)) c (length e.numberings) (length e.picks)) classes_are
          ∙ ap (λ (x : OrderedEvidence). sample_line n (4 * (n - 1)) (6 * n) (length x.numberings) (length x.picks)) one;
    }

-- the same classes are as many
pub as_many : (a b : ClassList) → HasSameClasses a b → class_count a ≡ class_count b
as_many a b same =
    ap (λ hosts. length hosts * length a.vlans * length (boundaries a.prefixes)) same.hosts
    ∙ ap (λ vlans. length b.hosts * length vlans * length (boundaries a.prefixes)) same.vlans
    ∙ ap (λ atoms. length b.hosts * length b.vlans * length atoms) same.atoms

module _ (n : ℕ) (held : Option Files) (old new : Option (List ℕ)) (selected : List ℕ) (taken : ℕ) where
  wrote : (answer : Answer) → SaysSummary n answer → Appends old new answer.text → WritesSummary n old new
  wrote answer says written = record { text = says.text; summary = says.summary; written = subst (λ t. Appends old new t) (text_of answer _ _ says.answer_is) written }

  wrote_front : (answer : Answer) → SaysSummary n answer → AppendsFront old new answer.text → WritesFront n old new
  wrote_front answer says written = record { text = says.text; summary = says.summary; written = subst (λ t. AppendsFront old new t) (text_of answer _ _ says.answer_is) written }

  not_other : (answer : Answer) (s : Status) → SaysSummary n answer → answer.status ≡ s → s ≡ status.Done
  not_other answer s says is = sym is ∙ status_of answer _ _ says.answer_is

  pub promised : (result : Status) → EndsAs SaysSummary held (Ends n) old new selected taken result → result ≢ status.ReadFault → SamplePromise n old new result
  promised status.ReadFault ends read = absurd (read refl)
  promised status.Memory ends read = record { ends = inr (inl refl); writes = λ e. absurd (cc); front = λ e. absurd (cc) }
  promised status.WriteFault (answer, leads, front) read = record { ends = inr (inr refl); writes = λ e. absurd (cc); front = λ _. wrote_front answer leads.led.0 front }
  promised status.Done (answer, leads, is, written) read = record { ends = inl refl; writes = λ _. wrote answer leads.led.0 written; front = λ e. absurd (cc) }
  promised status.Refused (answer, leads, is, written) read = absurd (let e = not_other answer status.Refused leads.led.0 is in cc)
  promised status.Usage (answer, leads, is, written) read = absurd (let e = not_other answer status.Usage leads.led.0 is in cc)
  promised status.BadFile (answer, leads, is, written) read = absurd (let e = not_other answer status.BadFile leads.led.0 is in cc)
  promised status.TooFewTags (answer, leads, is, written) read = absurd (let e = not_other answer status.TooFewTags leads.led.0 is in cc)
  promised status.TooSmall (answer, leads, is, written) read = absurd (let e = not_other answer status.TooSmall leads.led.0 is in cc)
  promised status.NotARun (answer, leads, is, written) read = absurd (let e = not_other answer status.NotARun leads.led.0 is in cc)
