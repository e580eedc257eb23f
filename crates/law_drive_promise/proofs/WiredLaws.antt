-- The driver of `drive` does what the driver on the wire does.
use Rattle.std.proofs.Common.{◌≡◌, ℕ, ◌<◌, Bool, true, false, cond, eqb, List, [], ◌∷◌, ◌++◌, refl, sym, ap, ◌∙◌, subst, append_assoc, append-nil}
use Rattle.std.specs.Prelude.{Option, Some, None}
use Rattle.std.specs.Option.{option_map_or}
use Rattle.std.specs.List.{AllByRecursion, concat}
use Rattle.std.proofs.lemmas.List.Elements.{filter_map-append}
use Rattle.std.proofs.lemmas.List.Folds.{concat-append}
use Rattle.net_base.specs.declared.ids.SwitchId.{SwitchId}
use Rattle.net_base.proofs.MemberLaws.{each_append}
use Rattle.topology.specs.Networks.{Network, switch_count}
use Rattle.update_model.specs.Mixtures.{Rollout}
use Rattle.update_model.specs.declared.Change.{Change}
use Rattle.law_two_way_runs.specs.States.{TwoWayEvent}
use Rattle.round_inverses.specs.Rounds.{inverse_rounds}
use Rattle.switch_session.specs.Fronts.{front_of}
use Rattle.switch_session.specs.Channels.{ChannelState, hello, is_failed}
use Rattle.switch_session.specs.Laws.{AreCut}
use Rattle.switch_session.specs.declared.Cause.{Cause}
use Rattle.switch_session.specs.declared.Session.{Session}
use Rattle.switch_session.specs.declared.Session.TheVariants.{Waiting, Open, Failed}
use Rattle.update_driver.specs.Agreement.{two_way_call, Agree}
use Rattle.update_driver.specs.Calls as onward
use Rattle.update_driver.specs.Drivers.{DriverState, channel_at}
use Rattle.update_driver.proofs.AgreeLaws.{both_agree}
use Rattle.update_driver.proofs.PieceLaws.{after-append}
use Rattle.two_way_driver.specs.Drivers.{peer_at}
use Rattle.two_way_driver.specs.Calls.{AreTurnable, DriverView}
use Rattle.two_way_driver.specs.Laws.{Call, Feed, IsCall, event_in, events_in, after_call, after_calls}
use Rattle.two_way_driver.specs.Sending.{texts_to}
use Rattle.two_way_driver.specs.Words.{after_call_anew, said_by_each, joined_words}
use Rattle.two_way_driver.specs.declared.DriverOutput.{DriverOutput}
use Rattle.two_way_driver.proofs.QuietLaws.{texts-append}
use Rattle.two_way_driver.proofs.SendingLaws.{all_calls}
use Rattle.two_way_driver.proofs.WordLaws.{call_is, calls_said, calls_kept}
use Rattle.law_wire.specs.Network.{driver_at, block_at}
use Rattle.law_wire_answers.specs.Answering.{SaysAnswered}
use Rattle.law_wire_answers.specs.Exchanges.{exchange_of, exchanges_from, failures_to, SwitchTalk, first_traffic, is_reopened, came_then, dead_then, traffic_then, traffic_from, traffic_behind}
use Rattle.law_wire_answers.specs.Failing.{fault_at, due_behind}
use Rattle.law_wire_answers.proofs.TrafficLaws.{behind_push}
use Rattle.law_wire_answers.proofs.KnowingLaws.{FailedAs}
use Rattle.law_wire_answers.proofs.CallLaws.{behind_calls, silent_is, says_answered}
use Rattle.law_wire_answers.proofs.TurningLaws.{dead_as_told}
use Rattle.law_wire_answers.proofs.FailingLaws.{fails_by_rules, stays_quiet}
use Rattle.law_drive_promise.specs.Wired.{wire_calls, wire_driver, IsOneTalk, IsSameOnWire, SaysAsOnWire, FailedFor, FailsAtByte, SessionFails, SendsNoneFailed}

-- ---- one call more

calls_push : (v : DriverView) (calls : List Call) (c : Call) → after_calls v (calls ++ c ∷ []) ≡ after_call (after_calls v calls) c
calls_push v [] c = refl
calls_push v (d ∷ calls) c = calls_push (after_call v d) calls c

wire_push : (calls : List onward.Call) (c : onward.Call) → wire_calls (calls ++ c ∷ []) ≡ wire_calls calls ++ two_way_call c ∷ []
wire_push [] c = refl
wire_push (d ∷ calls) c = ap (λ (l : List Call). two_way_call d ∷ l) (wire_push calls c)

-- ---- the talk with a switch

-- a call begins no other session, and no switch dies by it
same_session : (s : SwitchId) (c : onward.Call) → is_reopened s (two_way_call c) ≡ false
same_session s onward.Start = refl
same_session s (onward.Feed t bytes) = refl

same_life : (s : SwitchId) (c : onward.Call) (dead : Bool) → dead_then s (two_way_call c) dead ≡ dead
same_life s onward.Start dead = refl
same_life s (onward.Feed t bytes) dead = refl

came_more : (s : SwitchId) (c : onward.Call) (came rest : List ℕ) → came_then s (two_way_call c) came ++ rest ≡ came ++ (onward.bytes_in s c ++ rest)
came_more s onward.Start came rest = refl
came_more s (onward.Feed t bytes) came rest =
    elim (eqb t.0 s.0) as (λ b. cond b (came ++ bytes) came ++ rest ≡ came ++ (cond b bytes [] ++ rest)) [
      | true ↦ append_assoc came bytes rest
      | false ↦ refl
    ]

sent_more : (s : SwitchId) (c : onward.Call) (v : DriverView) (t : SwitchTalk)
    → (traffic_then s (exchange_of v (two_way_call c)) t).sent ≡ t.sent ++ texts_to s (after_call_anew v (two_way_call c)).state.said
sent_more s onward.Start v t = refl
sent_more s (onward.Feed r bytes) v t = refl

module _ (s : SwitchId) where
  came_from : (v : DriverView) (t : SwitchTalk) (calls : List onward.Call) → (traffic_from s t (exchanges_from v (wire_calls calls))).came ≡ t.came ++ onward.bytes_from s calls
  came_from v t [] = sym (append-nil t.came)
  came_from v t (c ∷ calls) =
      let e = exchange_of v (two_way_call c) in
      came_from (after_call_anew v (two_way_call c)) (traffic_then s e t) calls ∙ came_more s c t.came (onward.bytes_from s calls)

  sent_from : (v : DriverView) (t : SwitchTalk) (calls : List onward.Call)
      → (traffic_from s t (exchanges_from v (wire_calls calls))).sent ≡ t.sent ++ texts_to s (joined_words (said_by_each v (wire_calls calls)))
  sent_from v t [] = sym (append-nil t.sent)
  sent_from v t (c ∷ calls) =
      let w = after_call_anew v (two_way_call c) in
      let rest = joined_words (said_by_each w (wire_calls calls)) in
      sent_from w (traffic_then s (exchange_of v (two_way_call c)) t) calls ∙ ap (λ (l : List (List ℕ)). l ++ texts_to s rest) (sent_more s c v t)
      ∙ append_assoc t.sent (texts_to s w.state.said) (texts_to s rest) ∙ ap (λ (l : List (List ℕ)). t.sent ++ l) (sym (texts-append s w.state.said rest))

  dead_from : (v : DriverView) (t : SwitchTalk) (calls : List onward.Call) → (traffic_from s t (exchanges_from v (wire_calls calls))).dead ≡ t.dead
  dead_from v t [] = refl
  dead_from v t (c ∷ calls) = dead_from (after_call_anew v (two_way_call c)) (traffic_then s (exchange_of v (two_way_call c)) t) calls ∙ same_life s c t.dead

-- ---- failures

going_none : (x : Session) (failures : List Cause) → is_failed x ≡ false → FailedAs x failures → failures ≡ []
going_none Waiting failures going told = told
going_none Open failures going told = told
going_none (Failed c) failures going told = absurd (let f : true ≡ false = going in cc)

some_failure : (x : Session) (failures : List Cause) → is_failed x ≡ true → FailedAs x failures → failures ≡ [] → ⊥
some_failure Waiting failures failed told none = absurd (let f : false ≡ true = failed in cc)
some_failure Open failures failed told none = absurd (let f : false ≡ true = failed in cc)
some_failure (Failed c) failures failed told none = let one : failures ≡ c ∷ [] = told in let f : c ∷ [] ≡ [] = sym one ∙ none in absurd (cc)

failed_one : (x : Session) (failures : List Cause) (c : Cause) → x ≡ Failed c → FailedAs x failures → failures ≡ c ∷ []
failed_one Waiting failures c is told = absurd (let f : Waiting ≡ Failed c = is in cc)
failed_one Open failures c is told = absurd (let f : Open ≡ Failed c = is in cc)
failed_one (Failed d) failures c is told = let f : Failed d ≡ Failed c = is in let one : failures ≡ d ∷ [] = told in cc

failed_for : (fault : Option Cause) (x : Session) (failures : List Cause) → failures ≡ option_map_or (λ c. c ∷ []) fault [] → FailedAs x failures → FailedFor fault x
failed_for None Waiting failures is told = refl
failed_for None Open failures is told = refl
failed_for None (Failed c) failures is told = absurd (let f : failures ≡ [] = is in let one : failures ≡ c ∷ [] = told in cc)
failed_for (Some c) Waiting failures is told = absurd (let f : failures ≡ c ∷ [] = is in let none : failures ≡ [] = told in cc)
failed_for (Some c) Open failures is told = absurd (let f : failures ≡ c ∷ [] = is in let none : failures ≡ [] = told in cc)
failed_for (Some c) (Failed d) failures is told = let f : failures ≡ c ∷ [] = is in let one : failures ≡ d ∷ [] = told in cc

-- ---- behind calls

module _ (u : Rollout) (drivable : onward.AreDrivable u.net u.rounds) (turnable : AreTurnable u.net u.rounds (inverse_rounds u.old u.rounds)) where
  abbrev net : Network
  net = u.net

  abbrev inverses : List (List Change)
  inverses = inverse_rounds u.old u.rounds

  abbrev are_calls : List onward.Call → Type 0
  are_calls calls = AllByRecursion (onward.IsCall net) calls

  abbrev driver : List onward.Call → DriverState
  driver calls = onward.driver_after net u.rounds calls

  abbrev talk : List onward.Call → SwitchId → SwitchTalk
  talk calls s = traffic_behind (driver_at u []) s (wire_calls calls)

  call_within : (c : onward.Call) → onward.IsCall net c → IsCall net (two_way_call c)
  call_within onward.Start ok = tt
  call_within (onward.Feed s bytes) ok = ok

  calls_within : (calls : List onward.Call) → are_calls calls → AllByRecursion (IsCall net) (wire_calls calls)
  calls_within [] ok = tt
  calls_within (c ∷ calls) ok = (call_within c ok.0, calls_within calls ok.1)

  agrees : (calls : List onward.Call) → are_calls calls → Agree net u.rounds (driver calls) (wire_driver u calls)
  agrees calls ok = both_agree net u.rounds inverses drivable calls ok

  one_talk : (calls : List onward.Call) (s : SwitchId) → are_calls calls → s.0 < switch_count net → IsOneTalk u calls s (talk calls s)
  one_talk calls s ok less =
      let v = driver_at u [] in
      let joined = joined_words (said_by_each v (wire_calls calls)) in
      let greeted : texts_to s v.state.said ≡ hello ∷ [] = all_calls s net u.rounds inverses [] less in
      let alive : (talk calls s).dead ≡ false = dead_from s v first_traffic calls in
      record {
        came = came_from s v first_traffic calls;
        sent = sent_from s v first_traffic calls ∙ ap (λ (l : List (List ℕ)). l ++ texts_to s joined) (sym greeted) ∙ sym (texts-append s v.state.said joined)
            ∙ ap (texts_to s) (sym (calls_said v (wire_calls calls)));
        alive = alive;
        kept = dead_as_told net u.rounds inverses turnable (wire_calls calls) s (calls_within calls ok) less ∙ alive;
      }

  pub same_on_wire : (calls : List onward.Call) → are_calls calls → IsSameOnWire u calls (driver calls)
  same_on_wire calls ok = record { agree = agrees calls ok; talks = λ s less. one_talk calls s ok less }

  -- ---- and one more

  module _ (calls : List onward.Call) (c : onward.Call) (ok : are_calls calls) (here : onward.IsCall net c) where
    abbrev block : List DriverOutput
    block = block_at u (wire_calls calls) (two_way_call c)

    abbrev said : List DriverOutput
    said = (wire_driver u calls).state.said

    are_more : are_calls (calls ++ c ∷ [])
    are_more = each_append (onward.IsCall net) calls (c ∷ []) ok (here, tt)

    wire_next : wire_driver u (calls ++ c ∷ []) ≡ after_call (wire_driver u calls) (two_way_call c)
    wire_next = ap (driver_at u) (wire_push calls c) ∙ calls_push (driver_at u []) (wire_calls calls) (two_way_call c)

    driver_next : driver (calls ++ c ∷ []) ≡ onward.after_call net u.rounds (driver calls) c
    driver_next = after-append net u.rounds (driver []) calls (c ∷ [])

    said_next : (wire_driver u (calls ++ c ∷ [])).state.said ≡ said ++ block
    said_next = ap (λ (v : DriverView). v.state.said) (wire_next ∙ call_is (wire_driver u calls) (two_way_call c))

    agrees_next : Agree net u.rounds (onward.after_call net u.rounds (driver calls) c) (wire_driver u (calls ++ c ∷ []))
    agrees_next = subst (λ (d : DriverState). Agree net u.rounds d (wire_driver u (calls ++ c ∷ []))) driver_next (agrees (calls ++ c ∷ []) are_more)

    pub says_as_on_wire : SaysAsOnWire u calls c (driver calls) (onward.after_call net u.rounds (driver calls) c)
    says_as_on_wire = record {
      sent = λ s less.
          sym (agrees_next.sent s less) ∙ ap (λ (w : List DriverOutput). concat (texts_to s w)) said_next ∙ ap concat (texts-append s said block)
          ∙ concat-append (texts_to s said) (texts_to s block) ∙ ap (λ (l : List ℕ). l ++ concat (texts_to s block)) ((agrees calls ok).sent s less);
      log = sym agrees_next.events ∙ ap events_in said_next ∙ filter_map-append event_in said block ∙ ap (λ (l : List TwoWayEvent). l ++ events_in block) (agrees calls ok).events;
    }

    pub call_answered : SaysAnswered (driver_at u []) (wire_calls calls) (two_way_call c)
    call_answered = says_answered net u.rounds inverses turnable (wire_calls calls) (two_way_call c) (calls_within calls ok) (call_within c here)

  -- ---- failures

  failures_told : (calls : List onward.Call) (s : SwitchId) → are_calls calls → s.0 < switch_count net → FailedAs (channel_at (driver calls) s).session (talk calls s).failures
  failures_told calls s ok less =
      let at = behind_calls net u.rounds inverses turnable (wire_calls calls) (calls_within calls ok) in
      let same = silent_is net u.rounds inverses turnable (wire_calls calls) at.state at.on in
      let knows = at.on.known.all s less in
      let session : (peer_at (wire_driver u calls).state s).channel.session ≡ (peer_at at.state s).channel.session = ap (λ (v : DriverView). (peer_at v.state s).channel.session) same in
      subst (λ (x : Session). FailedAs x (talk calls s).failures) (sym session ∙ (agrees calls ok).sessions s less)
      (knows.told (sym knows.dead ∙ (one_talk calls s ok less).alive))

  pub failed_quiet : (calls : List onward.Call) (c : onward.Call) → are_calls calls → onward.IsCall net c → (s : SwitchId) → s.0 < switch_count net
      → SendsNoneFailed (channel_at (driver calls) s) (channel_at (onward.after_call net u.rounds (driver calls) c) s)
  failed_quiet calls c ok here s less failed =
      let sent = (channel_at (driver calls) s).sent in
      let some = some_failure (channel_at (driver calls) s).session (talk calls s).failures failed (failures_told calls s ok less) in
      let quiet = stays_quiet net u.rounds inverses turnable (wire_calls calls) s (two_way_call c) (calls_within calls ok) (call_within c here) less (some, (one_talk calls s ok less).alive) (same_session s c) in
      (says_as_on_wire calls c ok here).sent s less ∙ ap (λ (l : List (List ℕ)). sent ++ concat l) quiet.texts ∙ append-nil sent

  module _ (calls : List onward.Call) (s : SwitchId) (byte : ℕ) (ok : are_calls calls) (less : s.0 < switch_count net) where
    abbrev fed : onward.Call
    fed = onward.Feed s (byte ∷ [])

    abbrev told : List DriverOutput
    told = block_at u (wire_calls calls) (Feed s (byte ∷ []))

    abbrev before : ChannelState
    before = channel_at (driver calls) s

    abbrev after : ChannelState
    after = channel_at (onward.after_call net u.rounds (driver calls) fed) s

    failures_next : (talk (calls ++ fed ∷ []) s).failures ≡ (talk calls s).failures ++ failures_to s told
    failures_next =
        let v = driver_at u [] in
        let c : Call = Feed s (byte ∷ []) in
        ap (λ (l : List Call). (traffic_behind v s l).failures) (wire_push calls fed) ∙ ap (λ (t : SwitchTalk). t.failures) (behind_push v s (wire_calls calls) c)
        ∙ ap (λ (w : DriverView). (talk calls s).failures ++ failures_to s (after_call w c).state.said) (sym (calls_kept v (wire_calls calls)))

    next_told : FailedAs after.session ((talk calls s).failures ++ failures_to s told)
    next_told =
        subst (FailedAs after.session) failures_next
        (subst (λ (d : DriverState). FailedAs (channel_at d s).session (talk (calls ++ fed ∷ []) s).failures) (driver_next calls fed ok less)
        (failures_told (calls ++ fed ∷ []) s (are_more calls fed ok less) less))

    at_byte : is_failed before.session ≡ false → FailsAtByte u calls s byte before after
    at_byte going =
        let t = one_talk calls s ok less in
        let rules = fails_by_rules net u.rounds inverses turnable (wire_calls calls) s byte (calls_within calls ok) less in
        let none = going_none before.session (talk calls s).failures going (failures_told calls s ok less) in
        let by = rules.going none t.alive in
        let fault : List (List ℕ) → Option Cause = λ sent. fault_at by.before (due_behind sent by.before) (by.rest ++ byte ∷ []) (front_of (by.rest ++ byte ∷ [])) in
        record {
          messages = by.before;
          rest = by.rest;
          cut = subst (λ (l : List ℕ). AreCut l by.before by.rest) t.came by.cut;
          short = by.short;
          session = subst (λ (sent : List (List ℕ)). FailedFor (fault sent) after.session) t.sent
              (failed_for (fault (talk calls s).sent) after.session ((talk calls s).failures ++ failures_to s told) (ap (λ (l : List Cause). l ++ failures_to s told) none ∙ by.failures) next_told);
          replies = λ behind. (says_as_on_wire calls fed ok less).sent s less ∙ ap (λ (l : List (List ℕ)). before.sent ++ concat l) (by.replies behind);
        }

    stays : (c : Cause) → before.session ≡ Failed c → after.session ≡ Failed c
    stays c is =
        let rules = fails_by_rules net u.rounds inverses turnable (wire_calls calls) s byte (calls_within calls ok) less in
        let one = failed_one before.session (talk calls s).failures c is (failures_told calls s ok less) in
        let mute : told ≡ [] = rules.failed (λ none. let f : c ∷ [] ≡ [] = sym one ∙ none in cc) in
        failed_for (Some c) after.session ((talk calls s).failures ++ failures_to s told) (ap (λ (l : List Cause). l ++ failures_to s told) one ∙ ap (λ (w : List DriverOutput). c ∷ failures_to s w) mute) next_told

    pub session_fails : SessionFails u calls s byte before after
    session_fails = record { going = at_byte; failed = stays }
