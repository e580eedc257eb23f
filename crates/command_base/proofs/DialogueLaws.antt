-- Dialogues one behind the other, over what a source gave.
use Rattle.std.proofs.Common.{◌≡◌, ℕ, ◌+◌, ◌<◌, ◌≤◌, List, length, None, Some, Ok, Err, inl, inr, refl, sym, ap, ◌∙◌, subst, arith}
use Rattle.std.specs.declared.option.Option.{Option}
use Rattle.std.specs.declared.result.Result.{Result}
use Rattle.std.specs.Result.{IfOk, IfErr, IsErr, IsErrAnd}
use Rattle.std.proofs.lemmas.Result.{err_from_is_err_and, IfOk-weaker, IfErr-weaker}
use Rattle.file_access.specs.Causes.{Rose}
use Rattle.file_access.specs.Outside.{Files, IsMissing, IsFile}
use Rattle.command_base.specs.declared.kinds.FileKind.{FileKind}
use Rattle.command_base.specs.declared.exit.Exit.{Exit}
use Rattle.command_base.specs.declared.exit.Exit.TheVariants as exit
use Rattle.command_base.specs.declared.reply.Reply.{Reply}
use Rattle.command_base.specs.Kinds.{limit_of}
use Rattle.command_base.specs.Lines.{FaultWords}
use Rattle.command_base.specs.Answers.{Answer, too_long}
use Rattle.command_base.specs.Dialogues.{Dialogue, Bad, Ends, Reads, FileRead, file_read, and_then, IsGiven, Gives, IsLedTo, LeadsTo, IsWhole, SaysNothing, Lacks, MissesAFile}
use Rattle.command_base.specs.Readings.{reading, meaning_dialogue}
use Rattle.command_base.specs.Replies.{answer_of, IsEarlyEnd, EndsEarly, IsMet, Meets, IsBad}

gives_on : {A B : Type 0} (held : Option Files) (first mid last : Option FileRead) (d : Dialogue A) (next : A → Dialogue B) (v : A) (w : B) → IsGiven held first d v mid → IsGiven held mid (next v) w last → IsGiven held first (and_then d next) w last
gives_on held first mid last (Bad kind words) next v w gives rest = absurd gives
gives_on held first mid last (Ends end) next v w gives rest =
    subst (λ f. IsGiven held f (next end) w last) (sym gives.1) (subst (λ x. IsGiven held mid (next x) w last) (sym gives.0) rest)
gives_on held first mid last (Reads kind name more) next v w (bytes, file, within, gives) rest =
    (bytes, file, within, gives_on held (Some (file_read kind name)) mid last (more bytes) next v w gives rest)

-- what the first part gives, the second goes on with, over a source that holds the same
pub gives_then : {A B : Type 0} {held now : Option Files} {first mid last : Option FileRead} {d : Dialogue A} {v : A} {w : B} (next : A → Dialogue B) → now ≡ held → Gives held first d v mid → Gives now mid (next v) w last → Gives held first (and_then d next) w last
gives_then {A} {B} {held} {now} {first} {mid} {last} {d} {v} {w} next same gives rest =
    record { given = gives_on held first mid last d next v w gives.given (subst (λ h. IsGiven h mid (next v) w last) same rest.given) }

leads_on : {A B : Type 0} (says : B → Answer → Type 0) (held : Option Files) (last mid : Option FileRead) (d : Dialogue A) (next : A → Dialogue B) (v : A) (answer : Answer) (selected : List ℕ) (taken : ℕ)
    → IsGiven held last d v mid → IsLedTo says held mid (next v) answer selected taken → IsLedTo says held last (and_then d next) answer selected taken
leads_on says held last mid (Bad kind words) next v answer selected taken gives rest = absurd gives
leads_on says held last mid (Ends end) next v answer selected taken gives rest =
    subst (λ f. IsLedTo says held f (next end) answer selected taken) (sym gives.1) (subst (λ x. IsLedTo says held mid (next x) answer selected taken) (sym gives.0) rest)
leads_on says held last mid (Reads kind name more) next v answer selected taken (bytes, file, within, gives) rest =
    (bytes, file, inl (within, leads_on says held (Some (file_read kind name)) mid (more bytes) next v answer selected taken gives rest))

-- where the second part leads, the whole leads
pub leads_then : {A B : Type 0} {says : B → Answer → Type 0} {held now : Option Files} {last mid : Option FileRead} {d : Dialogue A} {v : A} {answer : Answer} {selected : List ℕ} {taken : ℕ} (next : A → Dialogue B)
    → now ≡ held → Gives held last d v mid → LeadsTo says now mid (next v) answer selected taken → LeadsTo says held last (and_then d next) answer selected taken
leads_then {A} {B} {says} {held} {now} {last} {mid} {d} {v} {answer} {selected} {taken} next same gives rest =
    record { led = leads_on says held last mid d next v answer selected taken gives.given (subst (λ h. IsLedTo says h mid (next v) answer selected taken) same rest.led) }

misses_on : {A B : Type 0} (files : Files) (first mid : Option FileRead) (d : Dialogue A) (next : A → Dialogue B) (v : A) → IsGiven (Some files) first d v mid → MissesAFile files (next v) → MissesAFile files (and_then d next)
misses_on files first mid (Bad kind words) next v gives misses = absurd gives
misses_on files first mid (Ends end) next v gives misses = subst (λ x. MissesAFile files (next x)) (sym gives.0) misses
misses_on files first mid (Reads kind name more) next v (bytes, file, within, gives) misses =
    inr (bytes, file, within, misses_on files (Some (file_read kind name)) mid (more bytes) next v gives misses)

lacks_on : {A B : Type 0} (held : Option Files) (first mid : Option FileRead) (d : Dialogue A) (next : A → Dialogue B) (v : A) → IsGiven held first d v mid → Lacks held (next v) → Lacks held (and_then d next)
lacks_on None first mid d next v gives lacks = lacks
lacks_on (Some files) first mid d next v gives lacks = misses_on files first mid d next v gives lacks

misses_first : {A B : Type 0} (files : Files) (d : Dialogue A) (next : A → Dialogue B) → MissesAFile files d → MissesAFile files (and_then d next)
misses_first files (Bad kind words) next misses = absurd misses
misses_first files (Ends end) next misses = absurd misses
misses_first files (Reads kind name more) next (inl none) = inl none
misses_first files (Reads kind name more) next (inr (bytes, file, within, misses)) = inr (bytes, file, within, misses_first files (more bytes) next misses)

lacks_first : {A B : Type 0} (held : Option Files) (d : Dialogue A) (next : A → Dialogue B) → Lacks held d → Lacks held (and_then d next)
lacks_first None d next lacks = lacks
lacks_first (Some files) d next lacks = misses_first files d next lacks

-- a bad file of the first part is one of the whole
leads_first : {A B : Type 0} (held : Option Files) (last : Option FileRead) (d : Dialogue A) (next : A → Dialogue B) (answer : Answer) (selected : List ℕ) (taken : ℕ)
    → IsLedTo SaysNothing held last d answer selected taken → IsLedTo SaysNothing held last (and_then d next) answer selected taken
leads_first held last (Bad kind words) next answer selected taken leads = leads
leads_first held last (Ends end) next answer selected taken leads = absurd leads.0
leads_first held last (Reads kind name more) next answer selected taken (bytes, file, inl go) =
    (bytes, file, inl (go.0, leads_first held (Some (file_read kind name)) (more bytes) next answer selected taken go.1))
leads_first held last (Reads kind name more) next answer selected taken (bytes, file, inr long) = (bytes, file, inr long)

ends_before : {A B : Type 0} (held : Option Files) (last : Option FileRead) (d : Dialogue A) (next : A → Dialogue B) (before now : ℕ) (e : Exit) (selected : List ℕ) (taken : ℕ)
    → IsEarlyEnd held last d before now e selected taken → IsEarlyEnd held last (and_then d next) before now e selected taken
ends_before held last d next before now exit.ReadFault selected taken (inl rose) = inl rose
ends_before held last d next before now exit.ReadFault selected taken (inr lacks) = inr (lacks_first held d next lacks)
ends_before held last d next before now exit.Memory selected taken end = tt
ends_before held last d next before now (exit.Says reply) selected taken end = leads_first held last d next (answer_of reply) selected taken end

-- an early end of the first part is one of the whole
pub ends_first : {A B : Type 0} {held : Option Files} {last : Option FileRead} {d : Dialogue A} {before now : ℕ} {e : Exit} {selected : List ℕ} {taken : ℕ} (next : A → Dialogue B)
    → EndsEarly held last d before now e selected taken → EndsEarly held last (and_then d next) before now e selected taken
ends_first {A} {B} {held} {last} {d} {before} {now} {e} {selected} {taken} next end = record { ended = ends_before held last d next before now e selected taken end.ended }

rose_since : (first before now : ℕ) → first ≤ before → Rose before now → Rose first now
rose_since first before now le rose = omega arith

ends_on : {A B : Type 0} (held : Option Files) (last mid : Option FileRead) (d : Dialogue A) (next : A → Dialogue B) (v : A) (first before now : ℕ) (e : Exit) (selected : List ℕ) (taken : ℕ)
    → first ≤ before → IsGiven held last d v mid → IsEarlyEnd held mid (next v) before now e selected taken → IsEarlyEnd held last (and_then d next) first now e selected taken
ends_on held last mid d next v first before now exit.ReadFault selected taken le gives (inl rose) = inl (rose_since first before now le rose)
ends_on held last mid d next v first before now exit.ReadFault selected taken le gives (inr lacks) = inr (lacks_on held last mid d next v gives lacks)
ends_on held last mid d next v first before now exit.Memory selected taken le gives end = tt
ends_on held last mid d next v first before now (exit.Says reply) selected taken le gives end = leads_on SaysNothing held last mid d next v (answer_of reply) selected taken gives end

-- an early end of the second part is one of the whole
pub ends_then : {A B : Type 0} {held new : Option Files} {last mid : Option FileRead} {d : Dialogue A} {v : A} {first before now : ℕ} {e : Exit} {selected : List ℕ} {taken : ℕ} (next : A → Dialogue B)
    → new ≡ held → first ≤ before → Gives held last d v mid → EndsEarly new mid (next v) before now e selected taken → EndsEarly held last (and_then d next) first now e selected taken
ends_then {A} {B} {held} {new} {last} {mid} {d} {v} {first} {before} {now} {e} {selected} {taken} next same le gives end =
    record { ended = ends_on held last mid d next v first before now e selected taken le gives.given (subst (λ h. IsEarlyEnd h mid (next v) before now e selected taken) same end.ended) }

-- where nothing is read, the dialogue gives its end
pub gives_end : {A : Type 0} (held : Option Files) (last : Option FileRead) (v : A) → Gives held last (Ends v) v last
gives_end held last v = record { given = (refl, refl) }

-- bytes that mean a value give it
gives_meaning : {A E : Type 0} (held : Option Files) (last : Option FileRead) (kind : FileKind) (words : E → FaultWords) (meaning : List ℕ → Result A E) (name bytes : List ℕ) (value : A)
    → IsFile held name bytes → length bytes ≤ limit_of kind → meaning bytes ≡ Ok value → Gives held last (reading kind words meaning name) value (Some (file_read kind name))
unfolding reading
gives_meaning held last kind words meaning name bytes value file within means =
    record { given = (bytes, file, within, subst (λ r. IsGiven held (Some (file_read kind name)) (meaning_dialogue kind words r) value (Some (file_read kind name))) (sym means) (refl, refl)) }

-- a file that isn't fetched ends its reading
ends_unfetched : {A E : Type 0} (held : Option Files) (last : Option FileRead) (kind : FileKind) (words : E → FaultWords) (meaning : List ℕ → Result A E) (name : List ℕ) (before now : ℕ) (e : Exit) (selected : List ℕ) (taken : ℕ)
    → EndsEarly held last (Reads kind name Ends) before now e selected taken → EndsEarly held last (reading kind words meaning name) before now e selected taken
unfolding reading
ends_unfetched held last kind words meaning name before now e selected taken end =
    record { ended = ends_before held last (Reads kind name Ends) (λ bs. meaning_dialogue kind words (meaning bs)) before now e selected taken end.ended }

is_bad : {A E : Type 0} (held : Option Files) (last : Option FileRead) (kind : FileKind) (words : E → FaultWords) (meaning : List ℕ → Result A E) (name bytes : List ℕ) (before now : ℕ) (e : Exit) (selected : List ℕ) (taken : ℕ)
    → IsFile held name bytes → length bytes ≤ limit_of kind → IsWhole (Some (file_read kind name)) selected taken → IsBad kind words (meaning bytes) e
    → IsEarlyEnd held last (reading kind words meaning name) before now e selected taken
unfolding reading
is_bad held last kind words meaning name bytes before now exit.ReadFault selected taken file within whole bad = absurd bad
is_bad held last kind words meaning name bytes before now exit.Memory selected taken file within whole bad = tt
is_bad held last kind words meaning name bytes before now (exit.Says reply) selected taken file within whole bad =
    (bytes, file, inl (within, subst (λ r. IsLedTo SaysNothing held (Some (file_read kind name)) (meaning_dialogue kind words r) (answer_of reply) selected taken) (sym bad.1) (bad.2, whole)))

-- bytes that mean nothing end the reading with the line on them
ends_bad : {A E : Type 0} (held : Option Files) (last : Option FileRead) (kind : FileKind) (words : E → FaultWords) (meaning : List ℕ → Result A E) (name bytes : List ℕ) (before now : ℕ) (e : Exit) (selected : List ℕ) (taken : ℕ)
    → IsFile held name bytes → length bytes ≤ limit_of kind → IsWhole (Some (file_read kind name)) selected taken → IsBad kind words (meaning bytes) e
    → EndsEarly held last (reading kind words meaning name) before now e selected taken
ends_bad held last kind words meaning name bytes before now e selected taken file within whole bad =
    record { ended = is_bad held last kind words meaning name bytes before now e selected taken file within whole bad }

-- ---- the reading of one file, by a function that fetches it and then reads its bytes

-- what an early return hands on of its fault
pub hands_on : {X E : Type 0} (P : E → Type 0) (r : Result X E) (e : E) → P e → IsErr r × IsErrAnd r (λ y. y ≡ e) → IfErr r P
hands_on {X} {E} P r e holds is = let p = err_from_is_err_and r is.1 in rw (p.1, p.2) holds

module _ {A E V : Type 0} (held : Option Files) (kind : FileKind) (words : E → FaultWords) (meaning : List ℕ → Result A E) (name : List ℕ) (r : Result V Exit) where
  -- a file that isn't fetched
  pub unfetched : (before now : ℕ) (selected : List ℕ) (taken : ℕ) {e : Exit} → ((last : Option FileRead) → EndsEarly held last (Reads kind name Ends) before now e selected taken)
      → IsErr r × IsErrAnd r (λ y. y ≡ e) → IfErr r (λ e. (last : Option FileRead) → EndsEarly held last (reading kind words meaning name) before now e selected taken)
  unfetched before now selected taken {e} stops is =
      hands_on _ r e (λ last. ends_unfetched held last kind words meaning name before now e selected taken (stops last)) is

  -- one whose bytes mean a value
  pub fetched_gives : (view : V → A) {bytes text : List ℕ} → IsFile held name bytes → length bytes ≤ limit_of kind → text ≡ bytes → IfOk r (λ v. meaning text ≡ Ok (view v))
      → IfOk r (λ v. (last : Option FileRead) → Gives held last (reading kind words meaning name) (view v) (Some (file_read kind name)))
  fetched_gives view {bytes} {text} file within is =
      IfOk-weaker r _ _ (λ v means last. gives_meaning held last kind words meaning name bytes (view v) file within (ap meaning (sym is) ∙ means))

  -- one whose bytes mean nothing
  pub fetched_stops : (before now : ℕ) (selected : List ℕ) (taken : ℕ) {bytes text : List ℕ} → IsFile held name bytes → length bytes ≤ limit_of kind
      → IsWhole (Some (file_read kind name)) selected taken → text ≡ bytes → IfErr r (λ e. IsBad kind words (meaning text) e)
      → IfErr r (λ e. (last : Option FileRead) → EndsEarly held last (reading kind words meaning name) before now e selected taken)
  fetched_stops before now selected taken {bytes} {text} file within whole is =
      IfErr-weaker r _ _ (λ e bad last. ends_bad held last kind words meaning name bytes before now e selected taken file within whole (subst (λ (bs : List ℕ). IsBad kind words (meaning bs) e) is bad))

-- ---- early ends and replies

is_said : {E : Type 0} (says : E → Answer → Type 0) (held : Option Files) (last : Option FileRead) (d : Dialogue E) (answer : Answer) (selected : List ℕ) (taken : ℕ)
    → IsLedTo SaysNothing held last d answer selected taken → IsLedTo says held last d answer selected taken
is_said says held last (Bad kind words) answer selected taken leads = leads
is_said says held last (Ends end) answer selected taken leads = absurd leads.0
is_said says held last (Reads kind name next) answer selected taken (bytes, file, inl go) = (bytes, file, inl (go.0, is_said says held (Some (file_read kind name)) (next bytes) answer selected taken go.1))
is_said says held last (Reads kind name next) answer selected taken (bytes, file, inr long) = (bytes, file, inr long)

leads_as : {A B : Type 0} (says : A → Answer → Type 0) (others : B → Answer → Type 0) (f : A → B) (held : Option Files) (last : Option FileRead) (d : Dialogue A) (answer : Answer) (selected : List ℕ) (taken : ℕ)
    → ((v : A) (answer : Answer) → says v answer → others (f v) answer) → IsLedTo says held last d answer selected taken → IsLedTo others held last (and_then d (λ v. Ends (f v))) answer selected taken
leads_as says others f held last (Bad kind words) answer selected taken same leads = leads
leads_as says others f held last (Ends end) answer selected taken same leads = (same end answer leads.0, leads.1)
leads_as says others f held last (Reads kind name next) answer selected taken same (bytes, file, inl go) =
    (bytes, file, inl (go.0, leads_as says others f held (Some (file_read kind name)) (next bytes) answer selected taken same go.1))
leads_as says others f held last (Reads kind name next) answer selected taken same (bytes, file, inr long) = (bytes, file, inr long)

-- what a command says early is where its dialogue leads
pub leads_early : {E : Type 0} (says : E → Answer → Type 0) (held : Option Files) (last : Option FileRead) (d : Dialogue E) (before now : ℕ) (reply : Reply) (selected : List ℕ) (taken : ℕ)
    → EndsEarly held last d before now (exit.Says reply) selected taken → LeadsTo says held last d (answer_of reply) selected taken
leads_early says held last d before now reply selected taken end = record { led = is_said says held last d (answer_of reply) selected taken end.ended }

is_met_as : {A B : Type 0} (says : A → Answer → Type 0) (others : B → Answer → Type 0) (f : A → B) (held : Option Files) (d : Dialogue A) (before now : ℕ) (r : Result Reply Exit) (selected : List ℕ) (taken : ℕ)
    → ((v : A) (answer : Answer) → says v answer → others (f v) answer) → IsMet says held d before now r selected taken → IsMet others held (and_then d (λ v. Ends (f v))) before now r selected taken
is_met_as says others f held d before now (Ok reply) selected taken same met = record { led = leads_as says others f held None d (answer_of reply) selected taken same met.led }
is_met_as says others f held d before now (Err e) selected taken same met = record { ended = ends_before held None d (λ v. Ends (f v)) before now e selected taken met.ended }

-- the reply of a command meets the dialogue whose end is one of several commands' ends
pub meets_as : {A B : Type 0} {says : A → Answer → Type 0} {held : Option Files} {d : Dialogue A} {before now : ℕ} {r : Result Reply Exit} {selected : List ℕ} {taken : ℕ} (others : B → Answer → Type 0) (f : A → B)
    → ((v : A) (answer : Answer) → says v answer → others (f v) answer) → Meets says held d before now r selected taken → Meets others held (and_then d (λ v. Ends (f v))) before now r selected taken
meets_as {A} {B} {says} {held} {d} {before} {now} {r} {selected} {taken} others f same meets = record { met = is_met_as says others f held d before now r selected taken same meets.met }

-- where a dialogue gives its end, it leads to what is said of it
leads_end : {E : Type 0} (says : E → Answer → Type 0) (held : Option Files) (first last : Option FileRead) (d : Dialogue E) (v : E) (answer : Answer) (selected : List ℕ) (taken : ℕ)
    → IsGiven held first d v last → says v answer → IsWhole last selected taken → IsLedTo says held first d answer selected taken
leads_end says held first last (Bad kind words) v answer selected taken gives said whole = absurd gives
leads_end says held first last (Ends end) v answer selected taken gives said whole =
    (subst (λ x. says x answer) (sym gives.0) said, subst (λ f. IsWhole f selected taken) (sym gives.1) whole)
leads_end says held first last (Reads kind name next) v answer selected taken (bytes, file, within, gives) said whole =
    (bytes, file, inl (within, leads_end says held (Some (file_read kind name)) last (next bytes) v answer selected taken gives said whole))

pub leads_whole : {E : Type 0} {says : E → Answer → Type 0} {held : Option Files} {first last : Option FileRead} {d : Dialogue E} {v : E} {answer : Answer} {selected : List ℕ} {taken : ℕ}
    → Gives held first d v last → says v answer → IsWhole last selected taken → LeadsTo says held first d answer selected taken
leads_whole {E} {says} {held} {first} {last} {d} {v} {answer} {selected} {taken} gives said whole = record { led = leads_end says held first last d v answer selected taken gives.given said whole }

-- where memory is wanting, any dialogue ends early
pub ends_for_memory : {E : Type 0} {held : Option Files} {last : Option FileRead} {d : Dialogue E} {before now : ℕ} {e : Exit} {selected : List ℕ} {taken : ℕ} → e ≡ exit.Memory → EndsEarly held last d before now e selected taken
ends_for_memory {E} {held} {last} {d} {before} {now} {e} {selected} {taken} is =
    subst (λ (x : Exit). EndsEarly held last d before now x selected taken) (sym is) (record { ended = tt {0} })

is_met_behind : {A B : Type 0} (says : B → Answer → Type 0) (held new : Option Files) (mid : Option FileRead) (d : Dialogue A) (next : A → Dialogue B) (v : A) (first before now : ℕ) (r : Result Reply Exit) (selected : List ℕ) (taken : ℕ)
    → new ≡ held → first ≤ before → Gives held None d v mid
    → IfOk r (λ reply. (last : Option FileRead) → LeadsTo says new last (next v) (answer_of reply) selected taken)
    → IfErr r (λ e. (last : Option FileRead) → EndsEarly new last (next v) before now e selected taken)
    → IsMet says held (and_then d next) first now r selected taken
is_met_behind says held new mid d next v first before now (Ok reply) selected taken same le gives leads stops = leads_then next same gives (leads mid)
is_met_behind says held new mid d next v first before now (Err e) selected taken same le gives leads stops = ends_then next same le gives (stops mid)

-- a result that is where the second part leads, whatever was read before it, meets the whole
pub meets_behind : {A B : Type 0} {says : B → Answer → Type 0} {held new : Option Files} {mid : Option FileRead} {d : Dialogue A} {v : A} {first before now : ℕ} {r : Result Reply Exit} {selected : List ℕ} {taken : ℕ} (next : A → Dialogue B)
    → new ≡ held → first ≤ before → Gives held None d v mid
    → IfOk r (λ reply. (last : Option FileRead) → LeadsTo says new last (next v) (answer_of reply) selected taken)
    → IfErr r (λ e. (last : Option FileRead) → EndsEarly new last (next v) before now e selected taken)
    → Meets says held (and_then d next) first now r selected taken
meets_behind {A} {B} {says} {held} {new} {mid} {d} {v} {first} {before} {now} {r} {selected} {taken} next same le gives leads stops =
    record { met = is_met_behind says held new mid d next v first before now r selected taken same le gives leads stops }
