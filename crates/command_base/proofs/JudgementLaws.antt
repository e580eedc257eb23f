-- What a run says that judges what its files mean.
use Rattle.std.proofs.Common.{◌≡◌, ◌≢◌, ◌⊎◌, ◌↔◌, ℕ, ◌<◌, ◌≤◌, List, ◌∷◌, Some, sym, ap, ◌∙◌, subst, inl, inr, arith}
use Rattle.std.specs.declared.option.Option.{Option}
use Rattle.std.specs.Io.KnownBytes.{Appends}
use Rattle.file_access.specs.Outside.{Files}
use Rattle.command_base.specs.declared.status.Status.{Status}
use Rattle.command_base.specs.declared.status.Status.TheVariants as status
use Rattle.command_base.specs.Lines.{classes_line}
use Rattle.command_base.specs.Answers.{Answer}
use Rattle.command_base.specs.Dialogues.{Dialogue}
use Rattle.command_base.specs.Judgements.{IsJudgement, SaysTooMany, SaysHolds, SaysWhyNot, most_classes}
use Rattle.command_base.specs.JudgedFiles.{FilesAreGood, FilesAreRefused, FilesMakeTooMany, WritesWhy, RefusalPromise}
use Rattle.command_base.specs.Runs.{IsComplete, Answered}
use Rattle.command_base.proofs.MeaningLaws.{MeansOnly}
use Rattle.command_base.proofs.AnswerLaws.{SaysOfFiles, says_of_files, says_also, meant, wrote, status_of, text_of, texts_same, first_byte}
use Rattle.command_base.proofs.RunLaws.{settled_refused, settled_bad}

-- ---- the answer

-- there are few enough classes, it is good, and the answer says neither that it isn't nor that a file is bad
pub record SaysOfGood (count : ℕ) (good : Type 0) (answer : Answer) : Type 0 where
  pub few : count ≤ most_classes
  pub holds : good
  pub not_refused : answer.status ≢ status.Refused
  pub not_bad : answer.status ≢ status.BadFile

-- the answer says that there are too many classes, something of what is good, or why it isn't good
abbrev pub IsAnswerOn : ℕ → Type 0 → Type 0 → (List ℕ → Type 0) → Answer → Type 0
IsAnswerOn count good says why answer = SaysTooMany count answer ⊎ (says ⊎ SaysWhyNot count good why answer)

-- the answer, by its status and by what it is about
module _ (count : ℕ) (good says : Type 0) (why : List ℕ → Type 0) (answer : Answer) (of_good : says → SaysOfGood count good answer) where
  other_says : IsAnswerOn count good says why answer → answer.status ≢ status.BadFile → answer.status ≢ status.Refused → says
  other_says (inl v) other broken = absurd (other (status_of answer _ _ v.answer_is))
  other_says (inr (inl v)) other broken = v
  other_says (inr (inr v)) other broken = absurd (broken (status_of answer _ _ v.answer_is))

  refused_says : IsAnswerOn count good says why answer → answer.status ≡ status.Refused → SaysWhyNot count good why answer
  refused_says (inl v) is = absurd (let e = status_of answer _ _ v.answer_is in cc)
  refused_says (inr (inl v)) is = absurd ((of_good v).not_refused is)
  refused_says (inr (inr v)) is = v

  bad_says : IsAnswerOn count good says why answer → answer.status ≡ status.BadFile → SaysTooMany count answer
  bad_says (inl v) is = v
  bad_says (inr (inl v)) is = absurd ((of_good v).not_bad is)
  bad_says (inr (inr v)) is = absurd (let e = status_of answer _ _ v.answer_is in cc)

  good_says : IsAnswerOn count good says why answer → count ≤ most_classes → good → says
  good_says (inl v) few holds = absurd (omega (arith, few, v.many))
  good_says (inr (inl v)) few holds = v
  good_says (inr (inr v)) few holds = absurd (v.fails holds)

  fails_says : IsAnswerOn count good says why answer → count ≤ most_classes → ¬ good → SaysWhyNot count good why answer
  fails_says (inl v) few fails = absurd (omega (arith, few, v.many))
  fails_says (inr (inl v)) few fails = absurd (fails (of_good v).holds)
  fails_says (inr (inr v)) few fails = v

  many_says : IsAnswerOn count good says why answer → most_classes < count → SaysTooMany count answer
  many_says (inl v) many = v
  many_says (inr (inl v)) many = absurd (let few = (of_good v).few in omega (arith, few, many))
  many_says (inr (inr v)) many = absurd (omega (arith, v.few, many))

-- ---- a run

-- a settled run over a source that tells, by what its files mean; `says` is what the answer says of something good
pub record JudgesFiles {D : Type 0} (Mean : D → Type 0) (count : D → ℕ) (good : D → Type 0) (says : D → Answer → Type 0) (why : D → List ℕ → Type 0)
    (old new : Option (List ℕ)) (result : Status) : Type 0 where
  pub run : SaysOfFiles Mean (λ d answer. IsAnswerOn (count d) (good d) (says d answer) (why d) answer) old new result
  pub of_good : (d : D) → says d run.answer → SaysOfGood (count d) (good d) run.answer

module _ {D : Type 0} {Mean : D → Type 0} {count : D → ℕ} {good : D → Type 0} {says : D → Answer → Type 0} {why : D → List ℕ → Type 0}
    {old new : Option (List ℕ)} {result : Status} (j : JudgesFiles Mean count good says why old new result) where
  -- what is said of something good
  pub says_of : (d : D) → Mean d → result ≢ status.BadFile → result ≢ status.Refused → says d j.run.answer
  says_of d mean other broken =
      other_says (count d) (good d) (says d j.run.answer) (why d) j.run.answer (j.of_good d) (j.run.said d mean) (λ e. other (sym j.run.status_is ∙ e)) (λ e. broken (sym j.run.status_is ∙ e))

  pub says_good : (d : D) → Mean d → count d ≤ most_classes → good d → says d j.run.answer
  says_good d mean few holds = good_says (count d) (good d) (says d j.run.answer) (why d) j.run.answer (j.of_good d) (j.run.said d mean) few holds

  why_not : (d : D) → Mean d → result ≡ status.Refused → SaysWhyNot (count d) (good d) (why d) j.run.answer
  why_not d mean is = refused_says (count d) (good d) (says d j.run.answer) (why d) j.run.answer (j.of_good d) (j.run.said d mean) (j.run.status_is ∙ is)

  -- where Done is said of whatever is good, and of nothing else
  pub done : ((d : D) → says d j.run.answer → j.run.answer.status ≡ status.Done) → (result ≡ status.Done) ↔ FilesAreGood Mean count good
  done is_done = (
    λ is.
        let (d, mean) = meant j.run status.Done (λ e. cc) is in
        let v = j.of_good d (says_of d mean (λ e. cc) (λ e. cc)) in
        record { meaning = d; mean = mean; few = v.few; holds = v.holds },
    λ h. sym j.run.status_is ∙ is_done h.meaning (says_good h.meaning h.mean h.few h.holds),
  )

  refused : (result ≡ status.Refused) ↔ FilesAreRefused Mean count good
  refused = (
    λ is.
        let (d, mean) = meant j.run status.Refused (λ e. cc) is in
        let v = why_not d mean is in
        record { meaning = d; mean = mean; few = v.few; fails = v.fails },
    λ h.
        let v = fails_says (count h.meaning) (good h.meaning) (says h.meaning j.run.answer) (why h.meaning) j.run.answer (j.of_good h.meaning) (j.run.said h.meaning h.mean) h.few h.fails in
        sym j.run.status_is ∙ status_of j.run.answer _ _ v.answer_is,
  )

  first : result ≡ status.Refused → (d : D) → Mean d → WritesWhy (why d) old new
  first is d mean =
      let v = why_not d mean is in
      record { line = v.line; is_why = v.is_why; written = wrote j.run v.line (text_of j.run.answer _ _ v.answer_is) }

  too_many : (h : FilesMakeTooMany Mean count) → (result ≡ status.BadFile) × Appends old new (classes_line (count h.meaning))
  too_many h =
      let v = many_says (count h.meaning) (good h.meaning) (says h.meaning j.run.answer) (why h.meaning) j.run.answer (j.of_good h.meaning) (j.run.said h.meaning h.mean) h.many in (
        sym j.run.status_is ∙ status_of j.run.answer _ _ v.answer_is,
        wrote j.run (classes_line (count h.meaning)) (text_of j.run.answer _ _ v.answer_is),
      )

  -- the line on too many classes begins otherwise than that on a bad file
  only_too_many : (before : List ℕ) → old ≡ Some before → (n : ℕ) → result ≡ status.BadFile → Appends old new (classes_line n) → FilesMakeTooMany Mean count
  only_too_many before told n is line = elim j.run.splits [
    | inl bad ↦ (
        let other : j.run.answer.text ≡ 98 ∷ bad.rest = text_of j.run.answer _ _ bad.is in
        let there : Appends (Some before) new j.run.answer.text = subst (λ o. Appends o new j.run.answer.text) told j.run.written in
        let same : classes_line n ≡ 98 ∷ bad.rest = texts_same before new (classes_line n) j.run.answer.text (subst (λ o. Appends o new (classes_line n)) told line) there ∙ other in
        let letters : 116 ≡ 98 = ap first_byte same in
        absurd (omega (arith, letters)))
    | inr (d, mean) ↦ (
        let v = bad_says (count d) (good d) (says d j.run.answer) (why d) j.run.answer (j.of_good d) (j.run.said d mean) (j.run.status_is ∙ is) in
        record { meaning = d; mean = mean; many = v.many })
  ]

-- what a run that judges its files refuses
pub refusals : {D : Type 0} {Mean : D → Type 0} {count : D → ℕ} {good : D → Type 0} {says : D → Answer → Type 0} {why : D → List ℕ → Type 0} {old new : Option (List ℕ)} {result : Status}
    → (IsComplete result → JudgesFiles Mean count good says why old new result) → RefusalPromise Mean count good why old new result
refusals {D} {Mean} {count} {good} {says} {why} {old} {new} {result} judges = record {
  refused = λ settled. refused (judges settled);
  first = λ d mean is. first (judges (settled_refused _ is)) is d mean;
  classes = λ settled many. too_many (judges settled) many;
  classes_only = λ before n told is line. only_too_many (judges (settled_bad _ is)) before told n is line;
}

-- a run judges its files by the answer of its dialogue
abbrev pub judges_by : {D : Type 0} {Mean : D → Type 0} {count : D → ℕ} {good : D → Type 0} {says others : D → Answer → Type 0} {why : D → List ℕ → Type 0}
    {files : Files} {dialogue : Dialogue D} {old new : Option (List ℕ)} {result : Status}
    → MeansOnly files dialogue Mean → Answered says files dialogue old new result
    → ((d : D) (answer : Answer) → says d answer → IsAnswerOn (count d) (good d) (others d answer) (why d) answer)
    → ((d : D) (answer : Answer) → others d answer → SaysOfGood (count d) (good d) answer)
    → JudgesFiles Mean count good others why old new result
judges_by meant a answers of_good = record { run = says_also answers (says_of_files meant a); of_good = λ d. of_good d a.answer }

-- ---- a run whose answer is a judgement

pub holds_of_good : (count : ℕ) (good then : Type 0) (text : List ℕ) (answer : Answer) → SaysHolds count good then text answer → SaysOfGood count good answer
holds_of_good count good then text answer v =
    let e = status_of answer _ _ v.answer_is in
    record { few = v.few; holds = v.holds; not_refused = λ is. cc; not_bad = λ is. cc }

module _ {D : Type 0} {Mean : D → Type 0} {count : D → ℕ} {good : D → Type 0} {then : D → Answer → Type 0} {text : D → Answer → List ℕ} {why : D → List ℕ → Type 0}
    {old new : Option (List ℕ)} {result : Status} where
  abbrev pub judges : {files : Files} {dialogue : Dialogue D} → MeansOnly files dialogue Mean
      → Answered (λ d answer. IsJudgement (count d) (good d) (then d answer) (text d answer) (why d) answer) files dialogue old new result
      → JudgesFiles Mean count good (λ d answer. SaysHolds (count d) (good d) (then d answer) (text d answer) answer) why old new result
  judges {files} {dialogue} meant a = judges_by meant a (λ d answer says. says) (λ d answer says. holds_of_good (count d) (good d) (then d answer) (text d answer) answer says)

  pub judged_done : JudgesFiles Mean count good (λ d answer. SaysHolds (count d) (good d) (then d answer) (text d answer) answer) why old new result
      → (result ≡ status.Done) ↔ FilesAreGood Mean count good
  judged_done j = done j (λ d v. status_of j.run.answer _ _ v.answer_is)

  -- what follows from good
  pub judged_then : (j : JudgesFiles Mean count good (λ d answer. SaysHolds (count d) (good d) (then d answer) (text d answer) answer) why old new result)
      → result ≡ status.Done → (d : D) → Mean d → then d j.run.answer
  judged_then j is d mean = (says_of j d mean (λ e. cc) (λ e. cc)).follows
