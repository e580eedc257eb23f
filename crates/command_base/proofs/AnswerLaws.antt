-- What a settled run over a source that tells says of what its files mean.
use Rattle.std.proofs.Common.{◌≡◌, ◌≢◌, ◌⊎◌, ◌↔◌, ℕ, List, [], ◌∷◌, None, Some, sym, ap, ◌∙◌, subst, inl, inr}
use Rattle.std.specs.declared.option.Option.{Option}
use Rattle.std.specs.Io.KnownBytes.{Appends}
use Rattle.std.proofs.lemmas.List.{append_cancel_left}
use Rattle.file_access.specs.Outside.{Files}
use Rattle.command_base.specs.declared.status.Status.{Status}
use Rattle.command_base.specs.declared.status.Status.TheVariants as status
use Rattle.command_base.specs.Answers.{Answer}
use Rattle.command_base.specs.Dialogues.{Dialogue}
use Rattle.command_base.specs.Runs.{Answered}
use Rattle.command_base.proofs.MeaningLaws.{IsBadLine, MeansOnly, said_over, over_splits}

pub status_of : (answer : Answer) (s : Status) (text : List ℕ) → answer ≡ record { status = s; text = text } → answer.status ≡ s
status_of answer s text is = ap (λ (a : Answer). a.status) is

pub text_of : (answer : Answer) (s : Status) (text : List ℕ) → answer ≡ record { status = s; text = text } → answer.text ≡ text
text_of answer s text is = ap (λ (a : Answer). a.text) is

abbrev pub first_byte : List ℕ → ℕ
first_byte [] = 0
first_byte (b ∷ bytes) = b

pub texts_same : (before : List ℕ) (new : Option (List ℕ)) (s t : List ℕ) → Appends (Some before) new s → Appends (Some before) new t → s ≡ t
texts_same before None s t p q = absurd p
texts_same before (Some after) s t p q = append_cancel_left before s t (sym p ∙ q)

-- the answer says this of what the files mean, or that one of them is bad
pub record SaysOfFiles {D : Type 0} (Mean : D → Type 0) (says : D → Answer → Type 0) (old new : Option (List ℕ)) (result : Status) : Type 0 where
  pub answer : Answer
  pub said : (d : D) → Mean d → says d answer
  pub splits : IsBadLine answer ⊎ ((d : D) × Mean d)
  pub status_is : answer.status ≡ result
  pub written : Appends old new answer.text

-- so it does where it is the answer of a dialogue
abbrev pub says_of_files : {D : Type 0} {Mean : D → Type 0} {says : D → Answer → Type 0} {files : Files} {dialogue : Dialogue D} {old new : Option (List ℕ)} {result : Status}
    → MeansOnly files dialogue Mean → Answered says files dialogue old new result → SaysOfFiles Mean says old new result
says_of_files {D} {Mean} {says} {files} {dialogue} {old} {new} {result} meant a = record {
  answer = a.answer;
  said = λ d mean. said_over says files dialogue a.answer d a.over (meant.means d mean);
  splits = elim (over_splits says files dialogue a.answer a.over) [
    | inl bad ↦ inl bad
    | inr (d, means, said) ↦ inr (d, meant.only d means)
  ];
  status_is = a.status_is;
  written = a.written;
}

-- what is said says other things besides
abbrev pub says_also : {D : Type 0} {Mean : D → Type 0} {says others : D → Answer → Type 0} {old new : Option (List ℕ)} {result : Status}
    → ((d : D) (answer : Answer) → says d answer → others d answer) → SaysOfFiles Mean says old new result → SaysOfFiles Mean others old new result
says_also also r = record { answer = r.answer; said = λ d mean. also d r.answer (r.said d mean); splits = r.splits; status_is = r.status_is; written = r.written }

module _ {D : Type 0} {Mean : D → Type 0} {says : D → Answer → Type 0} {old new : Option (List ℕ)} {result : Status} (r : SaysOfFiles Mean says old new result) where
  -- where no file is bad the files mean something
  pub meant : (s : Status) → s ≢ status.BadFile → result ≡ s → (d : D) × Mean d
  meant s other is = elim r.splits [
    | inl bad ↦ absurd (other (sym is ∙ sym r.status_is ∙ status_of r.answer _ _ bad.is))
    | inr v ↦ v
  ]

  -- the text of the answer was written
  pub wrote : (text : List ℕ) → r.answer.text ≡ text → Appends old new text
  wrote text is = subst (λ t. Appends old new t) is r.written

  -- where Done is said whatever the files mean
  pub done_means : ((d : D) → says d r.answer → r.answer.status ≡ status.Done) → (result ≡ status.Done) ↔ ((d : D) × Mean d)
  done_means is_done = (
    λ is. meant status.Done (λ e. cc) is,
    λ (d, mean). sym r.status_is ∙ is_done d (r.said d mean),
  )
