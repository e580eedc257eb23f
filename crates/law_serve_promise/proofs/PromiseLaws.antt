-- What a run of `serve` says of the files of a source that tells.
use Rattle.std.proofs.Common.{◌≡◌, ◌⊎◌, ℕ, ◌≤◌, List, [], None, Some, refl, sym, subst, inl, inr, arith}
use Rattle.std.specs.declared.option.Option.{Option}
use Rattle.std.specs.Io.KnownBytes.{Appends, Keeps}
use Rattle.file_access.specs.Outside.{Files, AppendsFront}
use Rattle.command_base.specs.declared.status.Status.{Status}
use Rattle.command_base.specs.declared.status.Status.TheVariants as status
use Rattle.command_base.specs.Answers.{Answer}
use Rattle.command_base.specs.Dialogues.{Dialogue, Bad, Ends, Reads}
use Rattle.command_base.specs.Judgements.{most_classes}
use Rattle.command_base.specs.Meanings.{IsAnswerOver}
use Rattle.command_base.specs.Runs.{IsComplete, EndsAs, Answered, AnswersFront}
use Rattle.command_base.proofs.JudgementLaws.{IsAnswerOn, SaysOfGood, JudgesFiles, done, refusals, judges_by}
use Rattle.command_base.proofs.MeaningLaws.{said_over}
use Rattle.command_base.proofs.RunLaws.{told_all, told_front, settled_done}
use Rattle.check_base.specs.Names.{CheckNames}
use Rattle.check_base.specs.Checks.{CheckMeaning, check_dialogue, check_count, IsCertifiedPlan, IsReasonLine, FilesMeanPlan, FilesAreCertified}
use Rattle.check_base.proofs.FileLaws.{means_check, check_meant}
use Rattle.check_command.specs.Checks.{IsCheckAnswer}
use Rattle.serve_lines.specs.Lines.{lines_in}
use Rattle.serve_command.specs.Serving.{text_on, SaysRefusal, IsServeEnd, ServesFiles}
use Rattle.serve_command.specs.Takes.{InputTake}
use Rattle.serve_command.specs.Stops.{EndsBefore, EndsServing, EndsInput, AreAll, input_name}
use Rattle.law_serve_promise.specs.Promise.{ServePromise, StopsBefore, StopsUnread, StopsWanting, StopsUnwritten}
use Rattle.law_serve_promise.proofs.BlockLaws.{text_is, told_behind}
use Rattle.law_serve_promise.proofs.FileLaws.{means_over, given_plan, one_meaning}
use Rattle.law_serve_promise.proofs.AnsweredLaws.{block_answered, turns_as_lines_ask, tells_of_byte, quiet_block}
use Rattle.law_serve_promise.proofs.RunningLaws.{tells_run, tells_phase, both_ways, greets, sends_as_asked, as_drive, drive_takes, cut_says, safe_on_wire, tables_on_wire, is_never_stuck, wire_says}

-- ---- an end

-- a settled run that ends where its dialogue leads has the answer over the files
settled_answered : {E : Type 0} (says : E → Answer → Type 0) (files : Files) (d : Dialogue E) (old new : Option (List ℕ)) (selected : List ℕ) (taken : ℕ) (result : Status)
    → IsComplete result → EndsAs says (Some files) d old new selected taken result → Answered says files d old new result
settled_answered says files d old new selected taken status.ReadFault settled e = absurd (settled.read refl)
settled_answered says files d old new selected taken status.Memory settled e = absurd (settled.memory refl)
settled_answered says files d old new selected taken status.WriteFault settled e = absurd (settled.written refl)
settled_answered says files d old new selected taken status.Done settled (answer, leads, is, all) = told_all says (Some files) d old new status.Done answer selected taken leads is all
settled_answered says files d old new selected taken status.Refused settled (answer, leads, is, all) = told_all says (Some files) d old new status.Refused answer selected taken leads is all
settled_answered says files d old new selected taken status.Usage settled (answer, leads, is, all) = told_all says (Some files) d old new status.Usage answer selected taken leads is all
settled_answered says files d old new selected taken status.BadFile settled (answer, leads, is, all) = told_all says (Some files) d old new status.BadFile answer selected taken leads is all
settled_answered says files d old new selected taken status.TooFewTags settled (answer, leads, is, all) = told_all says (Some files) d old new status.TooFewTags answer selected taken leads is all
settled_answered says files d old new selected taken status.TooSmall settled (answer, leads, is, all) = told_all says (Some files) d old new status.TooSmall answer selected taken leads is all
settled_answered says files d old new selected taken status.NotARun settled (answer, leads, is, all) = told_all says (Some files) d old new status.NotARun answer selected taken leads is all

-- a driver that is served to the end of its input is done
record EndsDone (text : List (List ℕ) → List ℕ) (input old new : Option (List ℕ)) (result : Status) : Type 0 where
  pub done : result ≡ status.Done
  pub taken : List ℕ
  pub all : AreAll input taken
  pub written : Appends old new (text (lines_in taken))

settled_served : (text : List (List ℕ) → List ℕ) (files : Files) (old new : Option (List ℕ)) (counted : ℕ) (takes : Option (List InputTake)) (result : Status)
    → IsComplete result → EndsServing text (Some files) old new counted takes result → EndsDone text (files input_name) old new result
settled_served text files old new counted takes status.ReadFault settled ends = absurd (settled.read refl)
settled_served text files old new counted takes status.Memory settled ends = absurd (settled.memory refl)
settled_served text files old new counted takes status.WriteFault settled ends = absurd (settled.written refl)
settled_served text files old new counted takes status.Done settled (inl before) = absurd before
settled_served text files old new counted takes status.Done settled (inr among) = record { done = refl; taken = among.input.taken; all = among.input.ends.1; written = among.input.ends.2 }
settled_served text files old new counted takes status.Refused settled (inl before) = absurd before
settled_served text files old new counted takes status.Refused settled (inr among) = absurd among.input.ends
settled_served text files old new counted takes status.Usage settled (inl before) = absurd before
settled_served text files old new counted takes status.Usage settled (inr among) = absurd among.input.ends
settled_served text files old new counted takes status.BadFile settled (inl before) = absurd before
settled_served text files old new counted takes status.BadFile settled (inr among) = absurd among.input.ends
settled_served text files old new counted takes status.TooFewTags settled (inl before) = absurd before
settled_served text files old new counted takes status.TooFewTags settled (inr among) = absurd among.input.ends
settled_served text files old new counted takes status.TooSmall settled (inl before) = absurd before
settled_served text files old new counted takes status.TooSmall settled (inr among) = absurd among.input.ends
settled_served text files old new counted takes status.NotARun settled (inl before) = absurd before
settled_served text files old new counted takes status.NotARun settled (inr among) = absurd among.input.ends

-- it ends before the standard input is begun: in the files, of which none is refused
before_of : (m : CheckMeaning) (old new : Option (List ℕ)) (result : Status) → (result ≡ status.ReadFault → Keeps old new) → (result ≡ status.Memory → Keeps old new) → (result ≡ status.WriteFault → ⊥) → (IsComplete result → ⊥) → StopsBefore m old new result
before_of m old new status.ReadFault unread wanting unwritten settled = unread refl
before_of m old new status.Memory unread wanting unwritten settled = wanting refl
before_of m old new status.WriteFault unread wanting unwritten settled = absurd (unwritten refl)
before_of m old new other unread wanting unwritten settled = settled (record { read = λ e. cc; written = λ e. cc; memory = λ e. cc })

-- or at the block of line 0
before_stops : (m : CheckMeaning) (old new : Option (List ℕ)) (result : Status) → EndsBefore (text_on m) old new result → StopsBefore m old new result
before_stops m old new status.WriteFault before = before
before_stops m old new status.Memory before = before
before_stops m old new other before = absurd before

-- a refusal is an answer of `check`
refusal_checks : (m : CheckMeaning) (answer : Answer) → SaysRefusal m answer → IsCheckAnswer m answer
refusal_checks m answer (inl many) = inl many
refusal_checks m answer (inr why) = inr (inr why)

checks_over : {D : Type 0} (says others : D → Answer → Type 0) (files : Files) (d : Dialogue D) (answer : Answer) → ((v : D) → says v answer → others v answer) → IsAnswerOver says files d answer → IsAnswerOver others files d answer
checks_over says others files (Bad kind words) answer more over = over
checks_over says others files (Ends end) answer more over = more end over
checks_over says others files (Reads kind name next) answer more (bytes, held, inl (within, over)) = (bytes, held, inl (within, checks_over says others files (next bytes) answer more over))
checks_over says others files (Reads kind name next) answer more (bytes, held, inr long) = (bytes, held, inr long)

-- ---- the answer of a settled run

-- a certified plan is served to the end
record SaysServed (m : CheckMeaning) (answer : Answer) : Type 0 where
  pub few : check_count m ≤ most_classes
  pub certified : IsCertifiedPlan m
  pub done : answer.status ≡ status.Done

-- a refusal, or the end of a driver that was served
abbrev Says : CheckMeaning → Answer → Type 0
Says m answer = SaysRefusal m answer ⊎ SaysServed m answer

says_on : (m : CheckMeaning) (answer : Answer) → Says m answer → IsAnswerOn (check_count m) (IsCertifiedPlan m) (SaysServed m answer) (IsReasonLine m) answer
says_on m answer (inl (inl many)) = inl many
says_on m answer (inl (inr why)) = inr (inr why)
says_on m answer (inr served) = inr (inl served)

served_good : (m : CheckMeaning) (answer : Answer) → SaysServed m answer → SaysOfGood (check_count m) (IsCertifiedPlan m) answer
served_good m answer v =
    let done = v.done in
    record { few = v.few; holds = v.certified; not_refused = λ is. cc; not_bad = λ is. cc }

judges_served : (files : Files) (names : CheckNames) (old new : Option (List ℕ)) (result : Status) → Answered Says files (check_dialogue names) old new result
    → JudgesFiles (FilesMeanPlan files names) check_count IsCertifiedPlan SaysServed IsReasonLine old new result
judges_served files names old new result a = judges_by (check_meant files names) a says_on served_good

-- ---- a run of `serve`

module _ (files : Files) (names : CheckNames) (old new : Option (List ℕ)) (selected : List ℕ) (taken : ℕ) (takes : Option (List InputTake)) (result : Status) (ends : IsServeEnd (Some files) names old new selected taken takes result) where
  abbrev dialogue : Dialogue CheckMeaning
  dialogue = check_dialogue names

  abbrev AsCheck : Type 0
  AsCheck = EndsAs SaysRefusal (Some files) dialogue old new selected taken result

  abbrev IsServed : Type 0
  IsServed = ServesFiles (Some files) names old new taken takes result

  -- what is served is certified
  abbrev served_certified : IsServed → FilesAreCertified files names
  served_certified s = record { meaning = s.meaning; mean = given_plan files names s.meaning _ s.gives; few = s.serves.few; holds = s.serves.certified }

  -- and a certified plan is served, up to an end for want of a file or of memory
  refusal_fails : (c : FilesAreCertified files names) (answer : Answer) → SaysRefusal c.meaning answer → ⊥
  refusal_fails c answer (inl many) = absurd (let few = c.few in let more = many.many in omega arith)
  refusal_fails c answer (inr why) = why.fails c.holds

  over_fails : (c : FilesAreCertified files names) (answer : Answer) → IsAnswerOver SaysRefusal files dialogue answer → ⊥
  over_fails c answer over = refusal_fails c answer (said_over SaysRefusal files dialogue answer c.meaning over (means_check files names c.meaning c.mean))

  same_end : (c : FilesAreCertified files names) (s : IsServed) → EndsServing (text_on c.meaning) (Some files) old new taken takes result
  same_end c s =
      subst (λ (m : CheckMeaning). EndsServing (text_on m) (Some files) old new taken takes result) (one_meaning files names s.meaning c.meaning (served_certified s).mean c.mean) s.serves.served

  -- ---- a settled run

  answered_says : IsComplete result → Answered Says files dialogue old new result
  answered_says settled = elim ends [
    | inl check ↦ (
        let a = settled_answered SaysRefusal files dialogue old new selected taken result settled check in
        record { answer = a.answer; over = checks_over SaysRefusal Says files dialogue a.answer (λ m says. inl says) a.over; status_is = a.status_is; written = a.written })
    | inr s ↦ (
        let c = served_certified s in
        let end = settled_served (text_on s.meaning) files old new taken takes result settled s.serves.served in
        let answer : Answer = record { status = status.Done; text = text_on s.meaning (lines_in end.taken) } in
        record {
          answer = answer;
          over = means_over Says files dialogue answer s.meaning (means_check files names s.meaning c.mean) (inr (record { few = c.few; certified = c.holds; done = refl }));
          status_is = sym end.done;
          written = end.written;
        })
  ]

  -- ---- a plan that isn't served

  abbrev AsCheckOver : Answer → Type 0
  AsCheckOver answer = IsAnswerOver IsCheckAnswer files dialogue answer

  checked : (answer : Answer) → IsAnswerOver SaysRefusal files dialogue answer → AsCheckOver answer
  checked answer over = checks_over SaysRefusal IsCheckAnswer files dialogue answer (λ m says. refusal_checks m answer says) over

  as_check : ¬ FilesAreCertified files names → IsComplete result → Answered IsCheckAnswer files dialogue old new result
  as_check fails settled = elim ends [
    | inl check ↦ (
        let a = settled_answered SaysRefusal files dialogue old new selected taken result settled check in
        record { answer = a.answer; over = checked a.answer a.over; status_is = a.status_is; written = a.written })
    | inr s ↦ absurd (fails (served_certified s))
  ]

  front_over : EndsAs SaysRefusal (Some files) dialogue old new selected taken status.WriteFault → AnswersFront SaysRefusal (Some files) dialogue old new
  front_over (answer, leads, front) = told_front SaysRefusal (Some files) dialogue old new answer selected taken leads front

  as_check_front : ¬ FilesAreCertified files names → result ≡ status.WriteFault → AnswersFront IsCheckAnswer (Some files) dialogue old new
  as_check_front fails is = elim ends [
    | inl check ↦ (
        let (answer, over, front) = front_over (subst (λ (r : Status). EndsAs SaysRefusal (Some files) dialogue old new selected taken r) is check) in
        (answer, checked answer over, front))
    | inr s ↦ absurd (fails (served_certified s))
  ]

  keeps_unread : AsCheck → result ≡ status.ReadFault → Keeps old new
  keeps_unread check is = subst (λ (r : Status). EndsAs SaysRefusal (Some files) dialogue old new selected taken r) is check

  keeps_wanting : AsCheck → result ≡ status.Memory → Keeps old new
  keeps_wanting check is = subst (λ (r : Status). EndsAs SaysRefusal (Some files) dialogue old new selected taken r) is check

  as_check_nothing : ¬ FilesAreCertified files names → (result ≡ status.ReadFault) ⊎ (result ≡ status.Memory) → Keeps old new
  as_check_nothing fails early = elim ends [
    | inl check ↦ elim early [ inl is ↦ keeps_unread check is | inr is ↦ keeps_wanting check is ]
    | inr s ↦ absurd (fails (served_certified s))
  ]

  -- ---- a plan that is served

  module _ (c : FilesAreCertified files names) where
    abbrev text : List (List ℕ) → List ℕ
    text = text_on c.meaning

    abbrev input : Option (List ℕ)
    input = files input_name

    whole : (bytes : List ℕ) → input ≡ Some bytes → result ≡ status.Done → Appends old new (text (lines_in bytes))
    whole bytes there is = elim ends [
      | inl check ↦ (
          let a = settled_answered SaysRefusal files dialogue old new selected taken result (settled_done result is) check in
          absurd (over_fails c a.answer a.over))
      | inr s ↦ (
          let end = settled_served text files old new taken takes result (settled_done result is) (same_end c s) in
          let all : bytes ≡ end.taken = subst (λ (held : Option (List ℕ)). AreAll held end.taken) there end.all in
          subst (λ (t : List ℕ). Appends old new (text (lines_in t))) (sym all) end.written)
    ]

    unread : EndsServing text (Some files) old new taken takes status.ReadFault → Keeps old new ⊎ StopsUnread c.meaning input taken old new
    unread (inl before) = absurd before
    unread (inr among) = let e = among.input in inr (record { taken = e.taken; front = e.ends.1; count = e.count; written = e.ends.2 })

    read_fault : result ≡ status.ReadFault → Keeps old new ⊎ StopsUnread c.meaning input taken old new
    read_fault is = elim ends [
      | inl check ↦ inl (keeps_unread check is)
      | inr s ↦ unread (subst (λ (r : Status). EndsServing text (Some files) old new taken takes r) is (same_end c s))
    ]

    wanting : EndsServing text (Some files) old new taken takes status.Memory → Keeps old new ⊎ StopsWanting c.meaning input taken old new
    wanting (inl before) = inl before
    wanting (inr among) =
        let e = among.input in
        inr (record { taken = e.taken; ended = e.ended; front = e.ends.0; count = e.count; lines = e.ends.1.0; written = e.ends.1.1 })

    memory : result ≡ status.Memory → Keeps old new ⊎ StopsWanting c.meaning input taken old new
    memory is = elim ends [
      | inl check ↦ inl (keeps_wanting check is)
      | inr s ↦ wanting (subst (λ (r : Status). EndsServing text (Some files) old new taken takes r) is (same_end c s))
    ]

    unwritten : EndsServing text (Some files) old new taken takes status.WriteFault → AppendsFront old new (text []) ⊎ StopsUnwritten c.meaning input taken old new
    unwritten (inl before) = inl before
    unwritten (inr among) = let e = among.input in inr (record { taken = e.taken; ended = e.ended; front = e.ends.0; count = e.count; written = e.ends.1 })

    not_refused : result ≡ status.WriteFault → AsCheck → ⊥
    not_refused is check =
        let (answer, over, front) = front_over (subst (λ (r : Status). EndsAs SaysRefusal (Some files) dialogue old new selected taken r) is check) in
        over_fails c answer over

    write_fault : result ≡ status.WriteFault → AppendsFront old new (text []) ⊎ StopsUnwritten c.meaning input taken old new
    write_fault is = elim ends [
      | inl check ↦ absurd (not_refused is check)
      | inr s ↦ unwritten (subst (λ (r : Status). EndsServing text (Some files) old new taken takes r) is (same_end c s))
    ]

    -- ---- in turn

    refused_late : IsComplete result → AsCheck → ⊥
    refused_late settled check =
        let a = settled_answered SaysRefusal files dialogue old new selected taken result settled check in
        over_fails c a.answer a.over

    stops_before : AsCheck → StopsBefore c.meaning old new result
    stops_before check = before_of c.meaning old new result (keeps_unread check) (keeps_wanting check) (λ is. not_refused is check) (λ settled. refused_late settled check)

    in_turn : StopsBefore c.meaning old new result ⊎ EndsInput text input old new taken takes result
    in_turn = elim ends [
      | inl check ↦ inl (stops_before check)
      | inr s ↦ elim (same_end c s) [ inl before ↦ inl (before_stops c.meaning old new result before) | inr among ↦ inr among.input ]
    ]

    no_input : input ≡ None → StopsBefore c.meaning old new result ⊎ ((result ≡ status.ReadFault) × Appends old new (text []))
    no_input none = elim ends [
      | inl check ↦ inl (stops_before check)
      | inr s ↦ elim (same_end c s) [ inl before ↦ inl (before_stops c.meaning old new result before) | inr among ↦ inr (among.missing none) ]
    ]

  pub promised : ServePromise files names old new taken takes result
  promised = record {
    done = λ settled. done (judges_served files names old new result (answered_says settled)) (λ m says. says.done);
    refusals = refusals (λ settled. judges_served files names old new result (answered_says settled));
    as_check = as_check;
    as_check_front = as_check_front;
    as_check_nothing = as_check_nothing;
    whole = λ c bytes there is. whole c bytes there is;
    read_fault = λ c is. read_fault c is;
    memory = λ c is. memory c is;
    write_fault = λ c is. write_fault c is;
    in_turn = λ c. in_turn c;
    no_input = λ c none. no_input c none;
    blocks = λ c lines. text_is c.meaning lines;
    fronts = λ c lines more. told_behind c.meaning lines more;
    is_run = λ c lines. tells_run files names c.meaning c.mean c.holds lines;
    phases = λ c lines line. tells_phase files names c.meaning c.mean c.holds lines line;
    answers = λ c lines line. block_answered files names c.meaning c.mean lines line;
    turns = λ c lines. turns_as_lines_ask files names c.meaning c.mean c.holds lines;
    failed = λ c lines line s byte. tells_of_byte files names c.meaning c.mean lines line s byte;
    quiet = λ c lines line s. quiet_block files names c.meaning c.mean lines line s;
    both_ways = λ c. both_ways files names c.meaning c.mean c.holds;
    safe_on_the_wire = λ c. safe_on_wire files names c.meaning c.mean c.holds;
    tables_on_the_wire = λ c. tables_on_wire files names c.meaning c.mean c.holds;
    never_stuck = λ c. is_never_stuck files names c.meaning c.mean c.holds;
    wire_blocks = λ c lines. wire_says files names c.meaning c.mean c.holds lines;
    greets = λ c s less. greets files names c.meaning c.mean s less;
    sends = λ c lines line. sends_as_asked files names c.meaning c.mean lines line;
    as_drive = λ c lines inputs one are same driven. as_drive files names c.meaning c.mean c.holds lines inputs one are same driven;
    drive_takes = λ c lines inputs are same taken. drive_takes files names c.meaning c.mean c.holds lines inputs are same taken;
    cut_anywhere = λ c lines front rest all cut. cut_says files names c.meaning c.mean lines front rest all cut;
  }
