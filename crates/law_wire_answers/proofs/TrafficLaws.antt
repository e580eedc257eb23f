-- What one more call, or one more byte, adds to what was exchanged.
use Rattle.std.proofs.Common.{◌≡◌, ◌≢◌, ℕ, Bool, true, false, cond, eqb, ◌||◌, List, [], ◌∷◌, ◌++◌, length, refl, sym, ap, ◌∙◌, append_assoc, append-nil}
use Rattle.std.specs.Prelude.{filter, Some, None}
use Rattle.std.specs.List.{AllByRecursion, cons_option}
use Rattle.std.proofs.lemmas.Bool.{ne_eqb}
use Rattle.std.proofs.lemmas.List.Elements.{filter-append, filter_map-append}
use Rattle.net_base.specs.declared.ids.SwitchId.{SwitchId}
use Rattle.switch_session.specs.declared.Cause.{Cause}
use Rattle.two_way_driver.specs.Calls.{DriverView}
use Rattle.two_way_driver.specs.Laws.{Call, Feed}
use Rattle.two_way_driver.specs.Sending.{texts_to}
use Rattle.two_way_driver.specs.Words.{after_call_anew, after_calls_anew}
use Rattle.two_way_driver.specs.declared.DriverOutput.{DriverOutput}
use Rattle.two_way_driver.specs.declared.DriverOutput.TheVariants.{Send, Failed, Log}
use Rattle.two_way_driver.specs.declared.Stage.{Stage}
use Rattle.two_way_driver.proofs.QuietLaws.{texts-append}
use Rattle.law_wire_answers.specs.Exchanges.{Exchange, exchange_of, exchanges_from, begins_way, begins_round, ways_begun, failure_to, failures_to, SwitchTalk, is_reopened, unless_anew, traffic_then, traffic_from, traffic_behind}
use Rattle.law_wire_answers.specs.Failing.{barrier_xids}

pub anew_push : (v : DriverView) (calls : List Call) (c : Call) → after_calls_anew v (calls ++ c ∷ []) ≡ after_call_anew (after_calls_anew v calls) c
anew_push v [] c = refl
anew_push v (d ∷ calls) c = anew_push (after_call_anew v d) calls c

pub exchanges_push : (v : DriverView) (calls : List Call) (c : Call) → exchanges_from v (calls ++ c ∷ []) ≡ exchanges_from v calls ++ exchange_of (after_calls_anew v calls) c ∷ []
exchanges_push v [] c = refl
exchanges_push v (d ∷ calls) c = ap (λ (l : List Exchange). exchange_of v d ∷ l) (exchanges_push (after_call_anew v d) calls c)

traffic_push : (s : SwitchId) (t : SwitchTalk) (es : List Exchange) (e : Exchange) → traffic_from s t (es ++ e ∷ []) ≡ traffic_then s e (traffic_from s t es)
traffic_push s t [] e = refl
traffic_push s t (f ∷ es) e = traffic_push s (traffic_then s f t) es e

pub behind_push : (made : DriverView) (s : SwitchId) (calls : List Call) (c : Call)
    → traffic_behind made s (calls ++ c ∷ []) ≡ traffic_then s (exchange_of (after_calls_anew made calls) c) (traffic_behind made s calls)
behind_push made s calls c = ap (traffic_from s _) (exchanges_push made calls c) ∙ traffic_push s _ (exchanges_from made calls) (exchange_of (after_calls_anew made calls) c)

-- a call that begins no way
pub ways_push : (made : DriverView) (calls : List Call) (c : Call) → begins_way (exchange_of (after_calls_anew made calls) c) ≡ false → ways_begun made (calls ++ c ∷ []) ≡ ways_begun made calls
ways_push made calls c none =
    let e = exchange_of (after_calls_anew made calls) c in
    ap (λ (l : List Exchange). length (filter begins_way l)) (exchanges_push made calls c) ∙ ap length (filter-append begins_way (exchanges_from made calls) (e ∷ []))
    ∙ ap (λ b. length (filter begins_way (exchanges_from made calls) ++ cond b (e ∷ []) [])) none ∙ ap length (append-nil (filter begins_way (exchanges_from made calls)))

-- ---- words and bytes

-- words that are to one switch alone
abbrev pub IsTo : SwitchId → DriverOutput → Type 0
IsTo t (Send s text) = s.0 ≡ t.0
IsTo t (Failed s c) = s.0 ≡ t.0
IsTo t (Log e) = Unit {0}

-- an event, which is to no switch
abbrev pub IsNote : DriverOutput → Type 0
IsNote (Send s text) = ⊥
IsNote (Failed s c) = ⊥
IsNote (Log e) = Unit {0}

one_away : {A : Type 0} (a b : ℕ) (x : A) (later : List A) → a ≢ b → cons_option (cond (eqb a b) (Some x) None) later ≡ later
one_away a b x later ne = ap (λ t. cons_option (cond t (Some x) None) later) (ne_eqb a b ne)

pub texts_away : (s t : SwitchId) (words : List DriverOutput) → s.0 ≢ t.0 → AllByRecursion (IsTo t) words → texts_to s words ≡ []
texts_away s t [] ne all = refl
texts_away s t (Send r text ∷ words) ne all = one_away r.0 s.0 text (texts_to s words) (λ e. ne (sym e ∙ all.0)) ∙ texts_away s t words ne all.1
texts_away s t (Failed r c ∷ words) ne all = texts_away s t words ne all.1
texts_away s t (Log e ∷ words) ne all = texts_away s t words ne all.1

pub failures_away : (s t : SwitchId) (words : List DriverOutput) → s.0 ≢ t.0 → AllByRecursion (IsTo t) words → failures_to s words ≡ []
failures_away s t [] ne all = refl
failures_away s t (Send r text ∷ words) ne all = failures_away s t words ne all.1
failures_away s t (Failed r c ∷ words) ne all = one_away r.0 s.0 c (failures_to s words) (λ e. ne (sym e ∙ all.0)) ∙ failures_away s t words ne all.1
failures_away s t (Log e ∷ words) ne all = failures_away s t words ne all.1

pub texts_none : (s : SwitchId) (words : List DriverOutput) → AllByRecursion IsNote words → texts_to s words ≡ []
texts_none s [] all = refl
texts_none s (Send r text ∷ words) all = absurd all.0
texts_none s (Failed r c ∷ words) all = absurd all.0
texts_none s (Log e ∷ words) all = texts_none s words all.1

pub failures_none : (s : SwitchId) (words : List DriverOutput) → AllByRecursion IsNote words → failures_to s words ≡ []
failures_none s [] all = refl
failures_none s (Send r text ∷ words) all = absurd all.0
failures_none s (Failed r c ∷ words) all = absurd all.0
failures_none s (Log e ∷ words) all = failures_none s words all.1

pub notes_to : (t : SwitchId) (words : List DriverOutput) → AllByRecursion IsNote words → AllByRecursion (IsTo t) words
notes_to t [] all = tt
notes_to t (Send r text ∷ words) all = absurd all.0
notes_to t (Failed r c ∷ words) all = absurd all.0
notes_to t (Log e ∷ words) all = (tt, notes_to t words all.1)

-- the talk goes on, with more messages that are sent, none of which is a barrier request
pub record Grows (t u : SwitchTalk) : Type 0 where
  pub more : List (List ℕ)
  pub came : u.came ≡ t.came
  pub sent : u.sent ≡ t.sent ++ more
  pub of_round : u.of_round ≡ t.of_round ++ more
  pub of_way : u.of_way ≡ t.of_way ++ more
  pub no_request : barrier_xids more ≡ []
  pub failures : u.failures ≡ t.failures
  pub dead : u.dead ≡ t.dead

-- a call that says other words
abbrev pub saying : Exchange → List DriverOutput → Exchange
saying e words = record e { said = words }

more_words : (s : SwitchId) (base : List (List ℕ)) (words more : List DriverOutput) → base ++ texts_to s (words ++ more) ≡ (base ++ texts_to s words) ++ texts_to s more
more_words s base words more = ap (λ (l : List (List ℕ)). base ++ l) (texts-append s words more) ∙ sym (append_assoc base (texts_to s words) (texts_to s more))

more_failures : (s : SwitchId) (base : List Cause) (words more : List DriverOutput) → base ++ failures_to s (words ++ more) ≡ (base ++ failures_to s words) ++ failures_to s more
more_failures s base words more = ap (λ (l : List Cause). base ++ l) (filter_map-append (failure_to s) words more) ∙ sym (append_assoc base (failures_to s words) (failures_to s more))

-- a call says events besides
pub grows_words : (s : SwitchId) (e : Exchange) (words more : List DriverOutput) (t : SwitchTalk) → AllByRecursion IsNote more → Grows (traffic_then s (saying e words) t) (traffic_then s (saying e (words ++ more)) t)
grows_words s e words more t notes = record {
  more = texts_to s more;
  came = refl;
  sent = more_words s (unless_anew (is_reopened s e.call) t.sent) words more;
  of_round = more_words s (unless_anew (is_reopened s e.call || begins_round e) t.of_round) words more;
  of_way = more_words s (unless_anew (is_reopened s e.call || begins_way e) t.of_way) words more;
  no_request = ap barrier_xids (texts_none s more notes);
  failures = (let base : List Cause = cond (is_reopened s e.call) [] t.failures in
      more_failures s base words more ∙ ap (λ (l : List Cause). (base ++ failures_to s words) ++ l) (failures_none s more notes) ∙ append-nil (base ++ failures_to s words));
  dead = refl;
}

abbrev pub fed : Stage → SwitchId → List ℕ → List DriverOutput → Exchange
fed stage t bytes words = record { stage = stage; call = Feed t bytes; taken = true; said = words }

-- bytes from another switch
pub grows_away : (s t : SwitchId) (stage : Stage) (bytes : List ℕ) (words : List DriverOutput) (u : SwitchTalk) → s.0 ≢ t.0 → AllByRecursion (IsTo t) words → Grows u (traffic_then s (fed stage t bytes words) u)
grows_away s t stage bytes words u ne all = record {
  more = texts_to s words;
  came = ap (λ b. cond b (u.came ++ bytes) u.came) (ne_eqb t.0 s.0 (λ e. ne (sym e)));
  sent = refl;
  of_round = refl;
  of_way = refl;
  no_request = ap barrier_xids (texts_away s t words ne all);
  failures = ap (λ (l : List Cause). u.failures ++ l) (failures_away s t words ne all) ∙ append-nil u.failures;
  dead = refl;
}

came_more : (b : Bool) (came front : List ℕ) (byte : ℕ) → cond b (came ++ (front ++ byte ∷ [])) came ≡ cond b (cond b (came ++ front) came ++ byte ∷ []) (cond b (came ++ front) came)
came_more true came front byte = sym (append_assoc came front (byte ∷ []))
came_more false came front byte = refl

-- the parts of a talk are others
pub same_talk : (a b : List ℕ) (c d e f g h : List (List ℕ)) (i j : List Cause) (gone : Bool) → a ≡ b → c ≡ d → e ≡ f → g ≡ h → i ≡ j
    → let t : SwitchTalk = record { came = a; sent = c; of_round = e; of_way = g; failures = i; dead = gone } in let u : SwitchTalk = record { came = b; sent = d; of_round = f; of_way = h; failures = j; dead = gone } in t ≡ u
same_talk a b c d e f g h i j gone p q r w z =
    ap (λ (l : List ℕ). let t : SwitchTalk = record { came = l; sent = c; of_round = e; of_way = g; failures = i; dead = gone } in t) p
    ∙ ap (λ (l : List (List ℕ)). let t : SwitchTalk = record { came = b; sent = l; of_round = e; of_way = g; failures = i; dead = gone } in t) q
    ∙ ap (λ (l : List (List ℕ)). let t : SwitchTalk = record { came = b; sent = d; of_round = l; of_way = g; failures = i; dead = gone } in t) r
    ∙ ap (λ (l : List (List ℕ)). let t : SwitchTalk = record { came = b; sent = d; of_round = f; of_way = l; failures = i; dead = gone } in t) w
    ∙ ap (λ (l : List Cause). let t : SwitchTalk = record { came = b; sent = d; of_round = f; of_way = h; failures = l; dead = gone } in t) z

-- one more byte
pub fed_more : (s t : SwitchId) (stage now : Stage) (front : List ℕ) (byte : ℕ) (words more : List DriverOutput) (u : SwitchTalk)
    → traffic_then s (fed stage t (front ++ byte ∷ []) (words ++ more)) u ≡ traffic_then s (fed now t (byte ∷ []) more) (traffic_then s (fed stage t front words) u)
fed_more s t stage now front byte words more u =
    let some : List (List ℕ) → List (List ℕ) = λ l. (l ++ texts_to s words) ++ texts_to s more in
    let all : List (List ℕ) → List (List ℕ) = λ l. l ++ texts_to s (words ++ more) in
    same_talk (cond (eqb t.0 s.0) (u.came ++ (front ++ byte ∷ [])) u.came) (cond (eqb t.0 s.0) (cond (eqb t.0 s.0) (u.came ++ front) u.came ++ byte ∷ []) (cond (eqb t.0 s.0) (u.came ++ front) u.came))
    (all u.sent) (some u.sent) (all u.of_round) (some u.of_round) (all u.of_way) (some u.of_way) (u.failures ++ failures_to s (words ++ more)) ((u.failures ++ failures_to s words) ++ failures_to s more) u.dead
    (came_more (eqb t.0 s.0) u.came front byte) (more_words s u.sent words more) (more_words s u.of_round words more) (more_words s u.of_way words more) (more_failures s u.failures words more)
