-- A session fails by the rules, and is quiet from then on.
use Rattle.std.proofs.Common.{◌≡◌, ℕ, ◌<◌, Bool, true, false, cond, List, [], ◌∷◌, ◌++◌, length, get_or, refl, sym, ap, ◌∙◌, subst, inl, inr, length-append, arith}
use Rattle.std.specs.Prelude.{Option, Some, None}
use Rattle.std.specs.List.{AllByRecursion}
use Rattle.std.specs.Option.{option_map_or}
use Rattle.std.proofs.lemmas.Bool.{cases_Bool, cases_eq}
use Rattle.net_base.specs.declared.ids.SwitchId.{SwitchId}
use Rattle.topology.specs.Networks.{Network, switch_count}
use Rattle.update_model.specs.declared.Change.{Change}
use Rattle.switch_session.specs.Channels.{hello, is_open}
use Rattle.turned_rounds.specs.Batches.{batch_of}
use Rattle.switch_session.specs.declared.Cause.{Cause}
use Rattle.switch_session.specs.declared.Session.{Session}
use Rattle.switch_session.specs.declared.Session.TheVariants.{Waiting, Open, Failed}
use Rattle.two_way_driver.specs.Peers.{first_peer}
use Rattle.two_way_driver.specs.Drivers.{DriverState, peer_at, fed_byte}
use Rattle.two_way_driver.specs.Calls.{AreTurnable, DriverView}
use Rattle.two_way_driver.specs.Laws.{Call, Start, Back, Reopen, Feed, Dead, IsCall, after_call, after_calls}
use Rattle.two_way_driver.specs.Words.{after_call_anew}
use Rattle.two_way_driver.specs.Sending.{texts_to, texts_for, session_at, asked_by, asking_messages, unanswered_messages, Sends, SendsFed, Answers}
use Rattle.two_way_driver.specs.declared.DriverOutput.{DriverOutput}
use Rattle.two_way_driver.proofs.SendingLaws.{each_call}
use Rattle.law_wire_answers.specs.Exchanges.{failures_to, SwitchTalk, is_reopened, dead_then, traffic_behind}
use Rattle.law_wire_answers.specs.Answering.{HasAnswered}
use Rattle.law_wire_answers.specs.Failing.{ByteTold, FailsByRules, IsQuietTo, FailureWasSaid}
use Rattle.law_wire_answers.proofs.KnowingLaws.{FailedAs}
use Rattle.law_wire_answers.proofs.FedLaws.{Permits, Stepped, fed_steps}
use Rattle.law_wire_answers.proofs.CallLaws.{made, OnCalls, done_call, behind_calls, silent_is}

-- of a failure that was said the session failed
is_failed_as : (x : Session) (failures : List Cause) → FailedAs x failures → (failures ≡ [] → ⊥) → (c : Cause) × (x ≡ Failed c) × (failures ≡ c ∷ [])
is_failed_as Waiting failures told some = absurd (some told)
is_failed_as Open failures told some = absurd (some told)
is_failed_as (Failed c) failures told some = (c, refl, told)

-- no other is said behind it
no_more : (x : Session) (c : Cause) (failures more : List Cause) → failures ≡ c ∷ [] → FailedAs x (failures ++ more) → more ≡ []
no_more Waiting c failures more one told = absurd (let n = ap length told in let m = length-append failures more in let k = ap length one in omega arith)
no_more Open c failures more one told = absurd (let n = ap length told in let m = length-append failures more in let k = ap length one in omega arith)
no_more (Failed d) c failures [] one told = refl
no_more (Failed d) c failures (e ∷ more) one told = absurd (let n = ap length told in let m = length-append failures (e ∷ more) in let k = ap length one in omega arith)

module _ (net : Network) (rounds inverses : List (List Change)) (turnable : AreTurnable net rounds inverses) where
  abbrev begun : DriverView
  begun = made net rounds inverses turnable

  abbrev on_calls : List Call → DriverState → Type 0
  on_calls calls d = OnCalls net rounds inverses turnable calls d

  abbrev sight : DriverState → DriverView
  sight d = record { net = net; rounds = rounds; inverses = inverses; state = d }

  abbrev talk : List Call → SwitchId → SwitchTalk
  talk calls s = traffic_behind begun s calls

  Any : DriverOutput → Type 0
  Any w = Unit {0}

  any : (w : DriverOutput) → Any w
  unfolding Any
  any w = tt

  abbrev Nothing : SwitchId → List Change → Type 0
  Nothing s changes = Unit {0}

  byte_steps : (calls : List Call) (d : DriverState) (s : SwitchId) (b : ℕ) → on_calls calls d → s.0 < switch_count net
      → Stepped net rounds inverses s b (talk calls) (λ r changes. HasAnswered begun calls r changes) Nothing Any d.stage (fed_byte net rounds inverses s b (record d { said = [] }))
  byte_steps calls d s b on less =
      let k = on.known in
      let count = k.count in
      let may : Permits net rounds inverses s b (talk calls) (λ r changes. HasAnswered begun calls r changes) Nothing Any d.stage = record {
        up = λ r changes h. tt;
        now = λ x ends asks. tt;
        send = λ r text. any _;
        failed = λ r c. any _;
        change = λ n at i c is here x ends asks. any _;
        undo = λ n at i c is here x ends asks. any _;
        settle = record { onward = λ n at all. any _; undone = λ n at all. any _; gone_change = λ n at i c is words gone. any _; gone_undo = λ n at i c is words gone. any _ };
      } in
      fed_steps net rounds inverses s b (talk calls) (λ r changes. HasAnswered begun calls r changes) Nothing Any d.first d.next d.peers d.in_force (omega arith) count d.stage may
      (record { count = k.count; all = k.all; running = k.running; next = k.next })

  pub fails_by_rules : (calls : List Call) (s : SwitchId) (b : ℕ) → AllByRecursion (IsCall net) calls → s.0 < switch_count net → FailsByRules (talk calls s) s b (after_call_anew (after_calls begun calls) (Feed s (b ∷ []))).state.said
  fails_by_rules calls s b ok less =
      let at = behind_calls net rounds inverses turnable calls ok in
      let step = byte_steps calls at.state s b at.on less in
      let same = silent_is net rounds inverses turnable calls at.state at.on in
      let said : DriverView → List DriverOutput = λ v. (after_call v (Feed s (b ∷ []))).state.said in
      record {
        going = λ none alive. subst (λ (v : DriverView). ByteTold (talk calls s) s b (said v)) (sym same) (step.told none alive);
        failed = λ some. subst (λ (v : DriverView). said v ≡ []) (sym same) (step.mute some);
        dead = λ gone. subst (λ (v : DriverView). said v ≡ []) (sym same) (step.silent gone);
      }

  -- ---- quiet

  -- nothing is asked of a switch whose session isn't open
  asks_nothing : (v : DriverView) (s : SwitchId) (o : Option (List Change)) → is_open (session_at v s) ≡ false → option_map_or (asking_messages v s) o [] ≡ []
  asks_nothing v s None shut = refl
  asks_nothing v s (Some changes) shut = ap (λ b. cond b (texts_for s (batch_of v.net v.state.next changes)) []) shut

  answers_nothing : (v w : DriverView) (s : SwitchId) (x : Session) (c : Cause) (again : List (List ℕ)) (came : List ℕ) (texts : List (List ℕ)) → x ≡ Failed c
      → Answers x again came (get_or w.state.peers s.0 first_peer).channel texts → texts ≡ []
  answers_nothing v w s x c again came texts is h = subst (λ (y : Session). Answers y again came (get_or w.state.peers s.0 first_peer).channel texts) is h

  fed_nothing : (v w : DriverView) (t s : SwitchId) (bytes : List ℕ) (c : Cause) (texts : List (List ℕ)) → session_at v s ≡ Failed c → SendsFed v w t bytes s texts → texts ≡ []
  fed_nothing v w t s bytes c texts is h =
      elim (cases_eq t.0 s.0) [
        | inl same ↦ elim (cases_Bool (peer_at v.state s).is_dead) [
          | inl gone ↦ h.dead gone
          | inr alive ↦ answers_nothing v w s (session_at v s) c (unanswered_messages v s) ((peer_at v.state s).channel.unread ++ bytes) texts is (h.here same alive)
        ]
        | inr differs ↦ h.others differs
      ]

  sends_nothing : (v : DriverView) (s : SwitchId) (c : Call) (cause : Cause) (texts : List (List ℕ)) → session_at v s ≡ Failed cause → is_reopened s c ≡ false → Sends v (after_call_anew v c) s c texts → texts ≡ []
  sends_nothing v s Start cause texts is open_not h = h ∙ asks_nothing v s (asked_by v Start) (ap is_open is)
  sends_nothing v s Back cause texts is open_not h = h ∙ asks_nothing v s (asked_by v Back) (ap is_open is)
  sends_nothing v s (Reopen t) cause texts is open_not h = h ∙ ap (λ b. cond b (hello ∷ []) []) open_not
  sends_nothing v s (Dead t) cause texts is open_not h = h
  sends_nothing v s (Feed t bytes) cause texts is open_not h = fed_nothing v (after_call_anew v (Feed t bytes)) t s bytes cause texts is h

  -- a switch stays as dead as it is
  as_dead : (s : SwitchId) (c : Call) (dead : Bool) → is_reopened s c ≡ false → dead_then s c dead ≡ dead
  as_dead s Start dead e = refl
  as_dead s Back dead e = refl
  as_dead s (Reopen t) dead e = ap (λ b. cond b false dead) e
  as_dead s (Feed t bytes) dead e = refl
  as_dead s (Dead t) dead e = ap (λ b. cond b true dead) e

  failures_end : (calls : List Call) (d : DriverState) (c : Call) (s : SwitchId) → on_calls calls d → IsCall net c → s.0 < switch_count net → FailureWasSaid (talk calls s) → is_reopened s c ≡ false
      → failures_to s (after_call_anew (sight d) c).state.said ≡ []
  failures_end calls d c s on ok less (some, alive) open_not =
      let done = done_call net rounds inverses turnable calls d c ok on in
      let now = done.known.all s less in
      let before = on.known.all s less in
      let told = now.told (sym now.dead ∙ as_dead s c (talk calls s).dead open_not ∙ alive) in
      let (cause, is, one) = is_failed_as (get_or d.peers s.0 first_peer).channel.session (talk calls s).failures (before.told (sym before.dead ∙ alive)) some in
      no_more (get_or done.state.peers s.0 first_peer).channel.session cause (talk calls s).failures (failures_to s (after_call_anew (sight d) c).state.said) one
      (subst (λ b. FailedAs (get_or done.state.peers s.0 first_peer).channel.session (cond b [] (talk calls s).failures ++ failures_to s (after_call_anew (sight d) c).state.said)) open_not told)

  pub stays_quiet : (calls : List Call) (s : SwitchId) (c : Call) → AllByRecursion (IsCall net) calls → IsCall net c → s.0 < switch_count net → FailureWasSaid (talk calls s) → is_reopened s c ≡ false → IsQuietTo s (after_call_anew (after_calls begun calls) c).state.said
  stays_quiet calls s c ok here less failed open_not =
      let at = behind_calls net rounds inverses turnable calls ok in
      let same = silent_is net rounds inverses turnable calls at.state at.on in
      let v = after_calls begun calls in
      let before = at.on.known.all s less in
      let (cause, is, one) = is_failed_as (get_or at.state.peers s.0 first_peer).channel.session (talk calls s).failures (before.told (sym before.dead ∙ failed.1)) failed.0 in
      let session : session_at v s ≡ Failed cause = ap (λ (u : DriverView). session_at u s) same ∙ is in
      record {
        texts = sends_nothing v s c cause (texts_to s (after_call_anew v c).state.said) session open_not (each_call net rounds inverses calls c s ok less);
        failures = subst (λ (u : DriverView). failures_to s (after_call u c).state.said ≡ []) (sym same) (failures_end calls at.state c s at.on here less failed open_not);
      }
