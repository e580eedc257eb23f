-- What each call keeps, and that its words stand behind the answers for which they wait.
use Rattle.std.proofs.Common.{◌≡◌, ◌≢◌, ◌⊎◌, ℕ, zero, suc, ◌<◌, Bool, true, false, cond, eqb, ◌&&◌, ◌||◌, List, [], ◌∷◌, ◌++◌, length, replicate, set, get_or, refl, sym, ap, ◌∙◌, subst, inl, inr, append_assoc, append-nil, length-set, arith}
use Rattle.std.specs.Prelude.{slice_get, Option, Some, None, is_none}
use Rattle.std.specs.List.{AllByRecursion}
use Rattle.std.proofs.lemmas.Bool.{cases_Bool, cond-true, cond_both, eq-eqb, ne_eqb}
use Rattle.std.proofs.lemmas.List.{length-replicate}
use Rattle.net_base.specs.declared.ids.SwitchId.{SwitchId}
use Rattle.topology.specs.Networks.{Network, switch_count}
use Rattle.update_model.specs.Changes.{switch_of, round_after}
use Rattle.update_model.specs.declared.Change.{Change}
use Rattle.round_messages.specs.Requests.{is_changed, switch_numbered}
use Rattle.switch_session.specs.Channels.{hello}
use Rattle.openflow10.specs.Layout.{number_at}
use Rattle.turned_rounds.specs.declared.outgoing.Outgoing.{Outgoing}
use Rattle.switch_session.specs.declared.Cause.{Cause}
use Rattle.switch_session.specs.declared.Session.TheVariants.{Waiting}
use Rattle.switch_session.proofs.TalkLaws.{front_nil}
use Rattle.two_way_driver.specs.PeerStates.{PeerState}
use Rattle.two_way_driver.specs.Peers.{first_peer, reopened_peer, dead_peer}
use Rattle.two_way_driver.specs.Drivers.{DriverState, sends, is_to_open, sent_out, settled_if_answered, running_round, asked_round, fed_byte, state_after_bytes, first_driver, start_fault_in, back_fault_in, started_in, turned_in, reopened_driver, dead_driver, all_answered}
use Rattle.two_way_driver.specs.Calls.{AreTurnable, DriverView, silent_view, start_fault, back_fault}
use Rattle.two_way_driver.specs.Laws.{Call, Start, Back, Reopen, Feed, Dead, IsCall, after_call, after_calls}
use Rattle.two_way_driver.specs.Words.{said_first, after_call_anew, after_calls_anew}
use Rattle.two_way_driver.specs.Sending.{texts_to}
use Rattle.two_way_driver.specs.declared.Stage.{Stage}
use Rattle.two_way_driver.specs.declared.Stage.TheVariants.{Settled, Onward, Undone}
use Rattle.two_way_driver.specs.declared.DriverEvent.TheVariants as logged
use Rattle.two_way_driver.specs.declared.DriverOutput.{DriverOutput}
use Rattle.two_way_driver.specs.declared.DriverOutput.TheVariants.{Log}
use Rattle.two_way_driver.proofs.WordLaws.{first_byte, calls_kept}
use Rattle.two_way_driver.proofs.ServingLaws.{fed-append}
use Rattle.law_wire_answers.specs.Exchanges.{Exchange, exchange_of, is_asked_way, begins_way, is_between_rounds, failures_to, SwitchTalk, first_traffic, traffic_then, traffic_behind}
use Rattle.law_wire_answers.specs.Answering.{EndsReply, AsksBehind, in_round, on_way, AnswersIn, AnswersBy, HasAnswered, stage_in, IsAnsweredWord, SaysAnswered}
use Rattle.law_wire_answers.specs.Failing.{barrier_xids}
use Rattle.law_wire_answers.proofs.TrafficLaws.{anew_push, behind_push, ways_push, IsNote, texts_away, Grows, grows_words, fed, same_talk, fed_more}
use Rattle.law_wire_answers.proofs.KnowingLaws.{none_some, asks_more, IsLive, IsHeard, asks_now, AreOut, Knows, Known, known_same, known_up, all_set, NearlyKnown, MaySettle, settles}
use Rattle.law_wire_answers.proofs.FedLaws.{Permits, Stepped, fed_steps, set_own, waits_more, sends_failures, one_text}
use Rattle.law_wire_answers.proofs.BeginLaws.{free_of, Prior, Free, Turned, begins}

module _ (net : Network) (rounds inverses : List (List Change)) (turnable : AreTurnable net rounds inverses) where
  abbrev pub view : DriverState → DriverView
  view d = record { net = net; rounds = rounds; inverses = inverses; state = d }

  abbrev pub made : DriverView
  made = view (first_driver net)

  abbrev talk : List Call → SwitchId → SwitchTalk
  talk calls s = traffic_behind made s calls

  abbrev Has : List Call → SwitchId → List Change → Type 0
  Has calls s changes = HasAnswered made calls s changes

  abbrev Done : List Call → Call → SwitchId → List Change → Type 0
  Done calls c s changes = HasAnswered made calls s changes ⊎ AnswersBy made calls s changes on_way c

  -- a driver behind calls
  pub record OnCalls (calls : List Call) (d : DriverState) : Type 0 where
    pub is : after_calls_anew made calls ≡ view d
    pub known : Known net rounds inverses (talk calls) (Has calls) d

  abbrev Word : List Call → Call → Stage → DriverOutput → Type 0
  Word calls c stage w = IsAnsweredWord made calls c stage w

  -- and behind one more
  pub record CallDone (calls : List Call) (d : DriverState) (c : Call) : Type 0 where
    pub state : DriverState
    pub is : after_call_anew (view d) c ≡ view state
    pub known : Known net rounds inverses (λ s. traffic_then s (exchange_of (view d) c) (talk calls s)) (Has (calls ++ c ∷ [])) state
    pub says : AllByRecursion (Word calls c (stage_in d.stage c)) state.said
    pub now : begins_way (exchange_of (view d) c) ≡ false → (state.stage ≡ d.stage) ⊎ (is_between_rounds state.stage ≡ true)

  pub on_next : (calls : List Call) (d : DriverState) (c : Call) → OnCalls calls d → (done : CallDone calls d c) → OnCalls (calls ++ c ∷ []) done.state
  on_next calls d c on done = record {
    is = anew_push made calls c ∙ ap (λ (v : DriverView). after_call_anew v c) on.is ∙ done.is;
    known = known_same net rounds inverses (Has (calls ++ c ∷ [])) (λ s. traffic_then s (exchange_of (view d) c) (talk calls s)) (talk (calls ++ c ∷ [])) done.state
        (λ s. sym (behind_push made s calls c ∙ ap (λ (v : DriverView). traffic_then s (exchange_of v c) (talk calls s)) on.is)) done.known;
  }

  -- an answer stays one, as long as the update goes the same way
  has_more : (calls : List Call) (d : DriverState) (c : Call) → OnCalls calls d → begins_way (exchange_of (view d) c) ≡ false → (s : SwitchId) (changes : List Change) → Has calls s changes → Has (calls ++ c ∷ []) s changes
  has_more calls d c on none s changes h = record {
    before = h.before;
    bytes = h.bytes;
    behind = h.behind ++ c ∷ [];
    calls_are = ap (λ (l : List Call). l ++ c ∷ []) h.calls_are ∙ append_assoc h.before (Feed s h.bytes ∷ h.behind) (c ∷ []);
    same_way = ways_push made calls c (ap (λ (v : DriverView). begins_way (exchange_of v c)) on.is ∙ none) ∙ h.same_way;
    answer = h.answer;
  }

  has_now : (calls : List Call) (t : SwitchId) (bytes : List ℕ) (s : SwitchId) (changes : List Change) → AnswersBy made calls s changes on_way (Feed t bytes) → Has (calls ++ Feed t bytes ∷ []) s changes
  has_now calls t bytes s changes (same, answer) = record {
    before = calls;
    bytes = bytes;
    behind = [];
    calls_are = ap (λ (r : SwitchId). calls ++ Feed r bytes ∷ []) (ap switch_numbered same);
    same_way = ways_push made calls (Feed t bytes) refl;
    answer = answer;
  }

  -- ---- bytes come

  answer_longer : (calls : List Call) (s : SwitchId) (bytes more : List ℕ) (changes : List Change) (counted : SwitchTalk → List (List ℕ)) → AnswersIn made calls s bytes changes counted → AnswersIn made calls s (bytes ++ more) changes counted
  answer_longer calls s bytes more changes counted a = record {
    front = a.front;
    byte = a.byte;
    rest = a.rest ++ more;
    bytes_are = ap (λ (l : List ℕ). l ++ more) a.bytes_are ∙ append_assoc a.front (a.byte ∷ a.rest) more;
    xid = a.xid;
    ends = a.ends;
    asked = a.asked;
  }

  stage_fed : (stage : Stage) (t : SwitchId) (bytes : List ℕ) → stage_in stage (Feed t bytes) ≡ stage
  stage_fed (Settled zero) t bytes = refl
  stage_fed (Settled (suc k)) t bytes = refl
  stage_fed (Onward k) t bytes = refl
  stage_fed (Undone k) t bytes = refl

  module _ (calls : List Call) (d : DriverState) (on : OnCalls calls d) (t : SwitchId) (less : t.0 < switch_count net) where
    -- the driver behind bytes
    abbrev behind_bytes : List ℕ → DriverState
    behind_bytes front = state_after_bytes net rounds inverses t front (record d { said = [] })

    abbrev talk_to : List ℕ → SwitchId → SwitchTalk
    talk_to front s = traffic_then s (fed d.stage t front (behind_bytes front).said) (talk calls s)

    talk_is : (front : List ℕ) (s : SwitchId) → traffic_behind made s (calls ++ Feed t front ∷ []) ≡ talk_to front s
    talk_is front s = behind_push made s calls (Feed t front) ∙ ap (λ (v : DriverView). traffic_then s (exchange_of v (Feed t front)) (talk calls s)) on.is

    module _ (whole : List ℕ) where
      pub record FedTo (front : List ℕ) : Type 0 where
        pub known : Known net rounds inverses (talk_to front) (Done calls (Feed t front)) (behind_bytes front)
        pub says : AllByRecursion (Word calls (Feed t whole) d.stage) (behind_bytes front).said
        pub now : ((behind_bytes front).stage ≡ d.stage) ⊎ (is_between_rounds (behind_bytes front).stage ≡ true)

      one_more : (front : List ℕ) (b : ℕ) → behind_bytes (front ++ b ∷ []) ≡ fed_byte net rounds inverses t b (behind_bytes front)
      one_more front b = ap (λ (v : DriverView). v.state) (fed-append t front (b ∷ []) (view (record d { said = [] })))

      own_words : (e : DriverState) → said_first e.said (record e { said = [] }) ≡ e
      own_words e = ap (λ (l : List DriverOutput). record e { said = l }) (append-nil e.said)

      -- its words are those before, and those of the byte
      byte_more : (b : ℕ) (e : DriverState) → fed_byte net rounds inverses t b e ≡ said_first e.said (fed_byte net rounds inverses t b (record e { said = [] }))
      byte_more b e = ap (fed_byte net rounds inverses t b) (sym (own_words e)) ∙ first_byte e.said net rounds inverses t b (record e { said = [] })

      module _ (front rest : List ℕ) (b : ℕ) (whole_is : front ++ b ∷ rest ≡ whole) (h : FedTo front) where
        abbrev e : DriverState
        e = behind_bytes front

        abbrev step : DriverState
        step = fed_byte net rounds inverses t b (record e { said = [] })

        -- the answer that the byte ends
        answer : (changes : List Change) (counted : SwitchTalk → List (List ℕ)) (x : ℕ) → EndsReply ((talk_to front t).came ++ b ∷ []) x → AsksBehind changes t x (counted (talk_to front t)) → AnswersIn made calls t whole changes counted
        answer changes counted x ends asks = record {
          front = front;
          byte = b;
          rest = rest;
          bytes_are = sym whole_is;
          xid = x;
          ends = subst (λ (u : SwitchTalk). EndsReply (u.came ++ b ∷ []) x) (sym (talk_is front t)) ends;
          asked = subst (λ (u : SwitchTalk). AsksBehind changes t x (counted u)) (sym (talk_is front t)) asks;
        }

        answer_so_far : (changes : List Change) (x : ℕ) → EndsReply ((talk_to front t).came ++ b ∷ []) x → AsksBehind changes t x (talk_to front t).of_way → AnswersIn made calls t (front ++ b ∷ []) changes on_way
        answer_so_far changes x ends asks = record {
          front = front;
          byte = b;
          rest = [];
          bytes_are = refl;
          xid = x;
          ends = subst (λ (u : SwitchTalk). EndsReply (u.came ++ b ∷ []) x) (sym (talk_is front t)) ends;
          asked = subst (λ (u : SwitchTalk). AsksBehind changes t x u.of_way) (sym (talk_is front t)) asks;
        }

        up : (s : SwitchId) (changes : List Change) → Done calls (Feed t front) s changes → Done calls (Feed t (front ++ b ∷ [])) s changes
        up s changes (inl has) = inl has
        up s changes (inr (same, a)) = inr (same, answer_longer calls s front (b ∷ []) changes on_way a)

        to_whole : (s : SwitchId) (changes : List Change) → Done calls (Feed t (front ++ b ∷ [])) s changes → Done calls (Feed t whole) s changes
        to_whole s changes (inl has) = inl has
        to_whole s changes (inr (same, a)) =
            inr (same, subst (λ (l : List ℕ). AnswersIn made calls s l changes on_way) (append_assoc front (b ∷ []) rest ∙ whole_is) (answer_longer calls s (front ++ b ∷ []) rest changes on_way a))

        answered_all : (s : SwitchId) (changes : List Change) → Done calls (Feed t whole) s changes → Has (calls ++ Feed t whole ∷ []) s changes
        answered_all s changes (inl h) = has_more calls d (Feed t whole) on refl s changes h
        answered_all s changes (inr a) = has_now calls t whole s changes a

        -- a round runs, so it is the one that ran before the call
        stage_is : (stage : Stage) → e.stage ≡ stage → is_between_rounds stage ≡ false → d.stage ≡ stage
        stage_is stage at runs = elim h.now [
          | inl same ↦ sym same ∙ at
          | inr between ↦ absurd (let f : true ≡ false = sym between ∙ ap is_between_rounds at ∙ runs in cc)
        ]

        of_switch : (s : SwitchId) (changes : List Change) (counted : SwitchTalk → List (List ℕ)) → s.0 ≡ t.0 → AnswersIn made calls t whole changes counted → AnswersBy made calls s changes counted (Feed t whole)
        of_switch s changes counted same a = (sym same, subst (λ (r : SwitchId). AnswersIn made calls r whole changes counted) (ap switch_numbered (sym same)) a)

        change_so : (stage : Stage) → d.stage ≡ stage → (i : ℕ) (c : Change) → slice_get (running_round rounds stage) i ≡ Some c → (switch_of c).0 ≡ t.0
            → AnswersIn made calls t whole (running_round rounds stage) in_round → Word calls (Feed t whole) d.stage (Log (logged.Change i))
        change_so stage is i c at here a =
            subst (λ (x : Stage). Word calls (Feed t whole) x (Log (logged.Change i))) (sym is)
            (record { change = c; is = at; answered = λ _. of_switch (switch_of c) (running_round rounds stage) in_round here a })

        undo_so : (stage : Stage) → d.stage ≡ stage → (i : ℕ) (c : Change) → slice_get (running_round rounds stage) i ≡ Some c → (switch_of c).0 ≡ t.0
            → AnswersIn made calls t whole (asked_round rounds inverses stage) on_way → Word calls (Feed t whole) d.stage (Log (logged.Undo i))
        undo_so stage is i c at here a =
            subst (λ (x : Stage). Word calls (Feed t whole) x (Log (logged.Undo i))) (sym is)
            (record { change = c; is = at; answered = λ _. of_switch (switch_of c) (asked_round rounds inverses stage) on_way here a })

        permits : Permits net rounds inverses t b (talk_to front) (Done calls (Feed t front)) (Done calls (Feed t (front ++ b ∷ []))) (Word calls (Feed t whole) d.stage) e.stage
        permits = record {
          up = up;
          now = λ x ends asks. inr (refl, answer_so_far (asked_round rounds inverses e.stage) x ends asks);
          send = λ s text. tt;
          failed = λ s c. tt;
          change = λ k at i c is here x ends asks. elim at [
            | inl onward ↦ change_so (Onward k) (stage_is (Onward k) onward refl) i c is here (answer (round_after k rounds) in_round x ends asks)
            | inr undone ↦ change_so (Undone k) (stage_is (Undone k) undone refl) i c is here (answer (round_after k rounds) in_round x ends asks)
          ];
          undo = λ k undone i c is here x ends asks. undo_so (Undone k) (stage_is (Undone k) undone refl) i c is here (answer (round_after k inverses) on_way x ends asks);
          settle = record {
            onward = λ k onward all. subst (λ (x : Stage). Word calls (Feed t whole) x (Log logged.Settle)) (sym (stage_is (Onward k) onward refl))
                (λ s within changed alive. answered_all s (round_after k rounds) (to_whole s (round_after k rounds) (all s within changed (λ words. alive))));
            undone = λ k undone all. subst (λ (x : Stage). Word calls (Feed t whole) x (Log logged.SettleBack)) (sym (stage_is (Undone k) undone refl))
                (λ s within changed alive. answered_all s (round_after k inverses) (to_whole s (round_after k inverses) (all s within changed (λ words. alive))));
            gone_change = λ k onward i c is words gone. subst (λ (x : Stage). Word calls (Feed t whole) x (Log (logged.Change i))) (sym (stage_is (Onward k) onward refl))
                (record { change = c; is = is; answered = λ alive. absurd (let f : true ≡ false = sym gone ∙ alive in cc) });
            gone_undo = λ k undone i c is words gone. subst (λ (x : Stage). Word calls (Feed t whole) x (Log (logged.Undo i))) (sym (stage_is (Undone k) undone refl))
                (record { change = c; is = is; answered = λ alive. absurd (let f : true ≡ false = sym gone ∙ alive in cc) });
          };
        }

        stepped : Stepped net rounds inverses t b (talk_to front) (Done calls (Feed t front)) (Done calls (Feed t (front ++ b ∷ []))) (Word calls (Feed t whole) d.stage) e.stage step
        stepped =
            let count = h.known.count in
            fed_steps net rounds inverses t b (talk_to front) (Done calls (Feed t front)) (Done calls (Feed t (front ++ b ∷ []))) (Word calls (Feed t whole) d.stage) e.first e.next e.peers e.in_force
            (omega arith) count e.stage permits (record { count = h.known.count; all = h.known.all; running = h.known.running; next = h.known.next })

        -- the driver behind the byte
        abbrev then_is : DriverState
        then_is = said_first e.said step

        now_is : behind_bytes (front ++ b ∷ []) ≡ then_is
        now_is = one_more front b ∙ byte_more b e

        both_words : (P : DriverOutput → Type 0) (xs ys : List DriverOutput) → AllByRecursion P xs → AllByRecursion P ys → AllByRecursion P (xs ++ ys)
        both_words P [] ys p q = q
        both_words P (x ∷ xs) ys p q = (p.0, both_words P xs ys p.1 q)

        known_then : Known net rounds inverses (λ s. traffic_then s (fed d.stage t (front ++ b ∷ []) then_is.said) (talk calls s)) (Done calls (Feed t (front ++ b ∷ []))) then_is
        known_then =
            let k = stepped.known in
            let done : Known net rounds inverses (λ s. traffic_then s (fed e.stage t (b ∷ []) step.said) (talk_to front s)) (Done calls (Feed t (front ++ b ∷ []))) then_is = record { count = k.count; all = k.all; running = k.running; next = k.next } in
            known_same net rounds inverses (Done calls (Feed t (front ++ b ∷ []))) (λ s. traffic_then s (fed e.stage t (b ∷ []) step.said) (talk_to front s))
            (λ s. traffic_then s (fed d.stage t (front ++ b ∷ []) then_is.said) (talk calls s)) then_is
            (λ s. sym (fed_more s t d.stage e.stage front b e.said step.said (talk calls s))) done

        stage_then : (then_is.stage ≡ d.stage) ⊎ (is_between_rounds then_is.stage ≡ true)
        stage_then = elim stepped.now [
          | inl same ↦ elim h.now [ inl first ↦ inl (same ∙ first) | inr between ↦ inr (ap is_between_rounds same ∙ between) ]
          | inr between ↦ inr between
        ]

        -- of a state that is this one
        fed_as : (f : DriverState) → then_is ≡ f → (Known net rounds inverses (λ s. traffic_then s (fed d.stage t (front ++ b ∷ []) f.said) (talk calls s)) (Done calls (Feed t (front ++ b ∷ []))) f)
            × AllByRecursion (Word calls (Feed t whole) d.stage) f.said × ((f.stage ≡ d.stage) ⊎ (is_between_rounds f.stage ≡ true))
        fed_as f is =
            subst (λ (g : DriverState). (Known net rounds inverses (λ s. traffic_then s (fed d.stage t (front ++ b ∷ []) g.said) (talk calls s)) (Done calls (Feed t (front ++ b ∷ []))) g)
            × AllByRecursion (Word calls (Feed t whole) d.stage) g.said × ((g.stage ≡ d.stage) ⊎ (is_between_rounds g.stage ≡ true))) is
            (known_then, both_words (Word calls (Feed t whole) d.stage) e.said step.said h.says stepped.says, stage_then)

        fed_next : FedTo (front ++ b ∷ [])
        fed_next =
            let (known, says, now) = fed_as (behind_bytes (front ++ b ∷ [])) (sym now_is) in
            record { known = known; says = says; now = now }

      fed_to : (rest front : List ℕ) → front ++ rest ≡ whole → FedTo front → FedTo whole
      fed_to [] front is h = subst FedTo (sym (append-nil front) ∙ is) h
      fed_to (b ∷ rest) front is h = fed_to rest (front ++ b ∷ []) (append_assoc front (b ∷ []) rest ∙ is) (fed_next front rest b is h)

      nothing_yet : (s : SwitchId) → talk_to [] s ≡ talk calls s
      nothing_yet s =
          let u = talk calls s in
          same_talk (cond (eqb t.0 s.0) (u.came ++ []) u.came) u.came (u.sent ++ []) u.sent (u.of_round ++ []) u.of_round (u.of_way ++ []) u.of_way (u.failures ++ []) u.failures u.dead
          (nothing (eqb t.0 s.0) u.came) (append-nil u.sent) (append-nil u.of_round) (append-nil u.of_way) (append-nil u.failures)
        where
          nothing : (b : Bool) (l : List ℕ) → cond b (l ++ []) l ≡ l
          nothing true l = append-nil l
          nothing false l = refl

      fed_first : FedTo []
      fed_first = record {
        known = known_same net rounds inverses (Done calls (Feed t [])) (talk calls) (talk_to []) (record d { said = [] }) (λ s. sym (nothing_yet s))
            (known_up net rounds inverses (Has calls) (Done calls (Feed t [])) (λ s changes h. inl h) (talk calls) (record d { said = [] })
            (record { count = on.known.count; all = on.known.all; running = on.known.running; next = on.known.next }));
        says = tt;
        now = inl refl;
      }

      done_fed : CallDone calls d (Feed t whole)
      done_fed =
          let h = fed_to whole [] refl fed_first in
          record {
            state = behind_bytes whole;
            is = refl;
            known = known_up net rounds inverses (Done calls (Feed t whole)) (Has (calls ++ Feed t whole ∷ [])) up_all (talk_to whole) (behind_bytes whole) h.known;
            says = subst (λ (x : Stage). AllByRecursion (Word calls (Feed t whole) x) (behind_bytes whole).said) (sym (stage_fed d.stage t whole)) h.says;
            now = λ _. h.now;
          }
        where
          up_all : (s : SwitchId) (changes : List Change) → Done calls (Feed t whole) s changes → Has (calls ++ Feed t whole ∷ []) s changes
          up_all s changes (inl h) = has_more calls d (Feed t whole) on refl s changes h
          up_all s changes (inr a) = has_now calls t whole s changes a

  -- ---- a session is opened again

  heard_nothing : IsHeard [] (hello ∷ []) Waiting [] None None
  unfolding number_at
  heard_nothing = record { messages = []; cut = record { whole = tt; bytes_are = refl }; short = front_nil; answered = []; requests = refl; replies = refl; greeted = refl }

  module _ (calls : List Call) (d : DriverState) (on : OnCalls calls d) (t : SwitchId) (less : t.0 < switch_count net) where
    abbrev reopening : Exchange
    reopening = exchange_of (view d) (Reopen t)

    abbrev q : PeerState
    q = reopened_peer (get_or d.peers t.0 first_peer)

    grows_reopened : (s : SwitchId) → s.0 ≢ t.0 → Grows (talk calls s) (traffic_then s reopening (talk calls s))
    grows_reopened s differs =
        let away = ne_eqb t.0 s.0 (λ e. differs (sym e)) in
        let u = talk calls s in
        record {
          more = texts_to s reopening.said;
          came = ap (λ b. cond b [] u.came) away;
          sent = ap (λ b. cond b [] u.sent ++ texts_to s reopening.said) away;
          of_round = ap (λ b. cond (b || false) [] u.of_round ++ texts_to s reopening.said) away;
          of_way = ap (λ b. cond (b || false) [] u.of_way ++ texts_to s reopening.said) away;
          no_request = ap barrier_xids (texts_away s t reopening.said differs (refl, tt));
          failures = ap (λ b. cond b [] u.failures ++ []) away ∙ append-nil u.failures;
          dead = ap (λ b. cond b false u.dead) away;
        }

    sent_anew : (traffic_then t reopening (talk calls t)).sent ≡ hello ∷ []
    sent_anew = ap (λ b. cond b [] (talk calls t).sent ++ texts_to t reopening.said) (eq-eqb t.0 t.0 refl) ∙ one_text t hello

    reopened_here : Knows net rounds inverses (Has (calls ++ Reopen t ∷ []) t) d.stage d.first t (traffic_then t reopening (talk calls t)) q
    reopened_here =
        let h = on.known.all t less in
        let u = talk calls t in
        let anew : (traffic_then t reopening u).came ≡ [] = cond-true (eqb t.0 t.0) [] u.came (eq-eqb t.0 t.0 refl) in
        record {
          goes = λ going. record {
            reads = subst (λ (l : List ℕ). IsHeard l (traffic_then t reopening u).sent Waiting [] None None) (sym anew)
                (subst (λ (l : List (List ℕ)). IsHeard [] l Waiting [] None None) (sym sent_anew) heard_nothing);
            out = tt;
            waiting = λ e. refl;
          };
          asked = h.asked;
          unasked = h.unasked;
          answered = λ changed none. has_more calls d (Reopen t) on refl t (asks_now net rounds inverses d.stage) (h.answered changed none);
          same = λ k at. ap (λ (l : List (List ℕ)). cond (eqb t.0 t.0 || false) [] l ++ texts_to t reopening.said) (h.same k at);
          range = h.range;
          told = λ _. ap (λ b. cond b [] u.failures ++ []) (eq-eqb t.0 t.0 refl);
          dead = ap (λ b. cond b false u.dead) (eq-eqb t.0 t.0 refl);
        }

    done_reopened : CallDone calls d (Reopen t)
    done_reopened =
        let k = on.known in
        record {
          state = reopened_driver t (record d { said = [] });
          is = refl;
          known = record {
            count = length-set d.peers t.0 q ∙ k.count;
            all = all_set net rounds inverses (Has calls) (Has (calls ++ Reopen t ∷ [])) (λ s changes h. has_more calls d (Reopen t) on refl s changes h) d.stage d.first (talk calls)
                (λ s. traffic_then s reopening (talk calls s)) d.peers t q (let c = k.count in omega arith) grows_reopened reopened_here k.all;
            running = λ e. waits_more d.peers t.0 q refl refl (k.running e);
            next = k.next;
          };
          says = (tt, tt);
          now = λ _. inl refl;
        }

  -- ---- a switch dies

  stage_dead : (stage : Stage) (t : SwitchId) → stage_in stage (Dead t) ≡ stage
  stage_dead (Settled zero) t = refl
  stage_dead (Settled (suc k)) t = refl
  stage_dead (Onward k) t = refl
  stage_dead (Undone k) t = refl

  module _ (calls : List Call) (d : DriverState) (on : OnCalls calls d) (t : SwitchId) (less : t.0 < switch_count net) where
    abbrev dying : List DriverOutput → Exchange
    dying words = record { stage = d.stage; call = Dead t; taken = true; said = words }

    abbrev talk_dead : List DriverOutput → SwitchId → SwitchTalk
    talk_dead words s = traffic_then s (dying words) (talk calls s)

    grows_dead : (words more : List DriverOutput) → AllByRecursion IsNote more → (s : SwitchId) → Grows (talk_dead words s) (talk_dead (words ++ more) s)
    grows_dead words more notes s = grows_words s (dying words) words more (talk calls s) notes

    grows_others_dead : (s : SwitchId) → s.0 ≢ t.0 → Grows (talk calls s) (talk_dead [] s)
    grows_others_dead s differs =
        let away = ne_eqb t.0 s.0 (λ e. differs (sym e)) in
        let u = talk calls s in
        record {
          more = [];
          came = ap (λ b. cond b [] u.came) away;
          sent = ap (λ b. cond b [] u.sent ++ []) away;
          of_round = ap (λ b. cond (b || false) [] u.of_round ++ []) away;
          of_way = ap (λ b. cond (b || false) [] u.of_way ++ []) away;
          no_request = refl;
          failures = ap (λ b. cond b [] u.failures ++ []) away ∙ append-nil u.failures;
          dead = ap (λ b. cond b true u.dead) away;
        }

    knows_dead : (q : PeerState) → q.is_dead ≡ true → q.asked ≡ (get_or d.peers t.0 first_peer).asked → Knows net rounds inverses (Has calls t) d.stage d.first t (talk_dead [] t) q
    knows_dead q gone same =
        let h = on.known.all t less in
        let u = talk calls t in
        record {
          goes = λ live. absurd (let f : true ≡ false = sym gone ∙ live.1 in cc);
          asked = λ y at. h.asked y (sym same ∙ at);
          unasked = λ off. same ∙ h.unasked off;
          answered = λ changed none. h.answered changed (sym same ∙ none);
          same = λ k at. ap (λ (l : List (List ℕ)). cond (eqb t.0 t.0 || false) [] l ++ []) (h.same k at);
          range = λ y at. h.range y (sym same ∙ at);
          told = λ alive. absurd (let f : true ≡ false = sym gone ∙ alive in cc);
          dead = ap (λ b. cond b true u.dead) (eq-eqb t.0 t.0 refl) ∙ sym gone;
        }

    abbrev peer : PeerState
    peer = get_or d.peers t.0 first_peer

    abbrev with_dead : PeerState → DriverState
    with_dead q = record d { peers = set d.peers t.0 q; said = [] }

    nearly_dead : (q : PeerState) → q.is_dead ≡ true → q.asked ≡ peer.asked → NearlyKnown net rounds inverses (talk_dead []) (Has calls) (with_dead q)
    nearly_dead q gone same =
        let k = on.known in
        record {
          count = length-set d.peers t.0 q ∙ k.count;
          all = all_set net rounds inverses (Has calls) (Has calls) (λ s changes h. h) d.stage d.first (talk calls) (talk_dead []) d.peers t q (let c = k.count in omega arith) grows_others_dead (knows_dead q gone same) k.all;
          next = k.next;
        }

    abbrev DeadDone : DriverState → Type 0
    DeadDone e = (Known net rounds inverses (talk_dead e.said) (Has calls) e) × AllByRecursion (Word calls (Dead t) d.stage) e.said × ((e.stage ≡ d.stage) ⊎ (is_between_rounds e.stage ≡ true))

    settling_dead : MaySettle net rounds inverses (Has calls) talk_dead grows_dead (Word calls (Dead t) d.stage) d.stage
    settling_dead = record {
      onward = λ k at all. subst (λ (x : Stage). Word calls (Dead t) x (Log logged.Settle)) (sym at) (λ s within changed alive. has_more calls d (Dead t) on refl s (round_after k rounds) (all s within changed (λ words. alive)));
      undone = λ k at all. subst (λ (x : Stage). Word calls (Dead t) x (Log logged.SettleBack)) (sym at) (λ s within changed alive. has_more calls d (Dead t) on refl s (round_after k inverses) (all s within changed (λ words. alive)));
      gone_change = λ k at i c is words gone. subst (λ (x : Stage). Word calls (Dead t) x (Log (logged.Change i))) (sym at)
          (record { change = c; is = is; answered = λ alive. absurd (let f : true ≡ false = sym gone ∙ alive in cc) });
      gone_undo = λ k at i c is words gone. subst (λ (x : Stage). Word calls (Dead t) x (Log (logged.Undo i))) (sym at)
          (record { change = c; is = is; answered = λ alive. absurd (let f : true ≡ false = sym gone ∙ alive in cc) });
    }

    -- a dead switch dies again
    dies_again : peer.is_dead ≡ true → DeadDone (record d { said = [] })
    dies_again gone =
        let near = nearly_dead peer gone refl in
        let own : with_dead peer ≡ record d { said = [] } = ap (λ (l : List PeerState). record d { peers = l; said = [] }) (set_own d.peers t.0) in
        subst DeadDone own (
          record { count = near.count; all = near.all; running = λ e. ap all_answered (set_own d.peers t.0) ∙ on.known.running e; next = near.next },
          tt,
          inl refl,
        )

    dies : DeadDone (settled_if_answered (running_round rounds d.stage) (with_dead (dead_peer peer)))
    dies =
        let h = settles net rounds inverses (Has calls) talk_dead grows_dead (Word calls (Dead t) d.stage) (with_dead (dead_peer peer)) settling_dead (nearly_dead (dead_peer peer) refl refl) in
        (h.known, h.says tt, h.stage)

    dead_done : DeadDone (dead_driver rounds t (record d { said = [] }))
    dead_done = cond_both peer.is_dead (record d { said = [] }) (settled_if_answered (running_round rounds d.stage) (with_dead (dead_peer peer))) DeadDone dies_again (λ _. dies)

    done_dead : CallDone calls d (Dead t)
    done_dead =
        let (known, says, now) = dead_done in
        let e = dead_driver rounds t (record d { said = [] }) in
        record {
          state = e;
          is = refl;
          known = known_up net rounds inverses (Has calls) (Has (calls ++ Dead t ∷ [])) (λ s changes h. has_more calls d (Dead t) on refl s changes h) (talk_dead e.said) e known;
          says = subst (λ (x : Stage). AllByRecursion (Word calls (Dead t) x) e.said) (sym (stage_dead d.stage t)) says;
          now = λ _. now;
        }

  -- ---- a round begins, or turns

  module _ (calls : List Call) (d : DriverState) (on : OnCalls calls d) where
    abbrev beginning : Stage → Call → List DriverOutput → Exchange
    beginning stage c words = record { stage = stage; call = c; taken = true; said = words }

    abbrev talk_then : Stage → Call → List DriverOutput → SwitchId → SwitchTalk
    talk_then stage c words s = traffic_then s (beginning stage c words) (talk calls s)

    grows_then : (stage : Stage) (c : Call) (words more : List DriverOutput) → AllByRecursion IsNote more → (s : SwitchId) → Grows (talk_then stage c words s) (talk_then stage c (words ++ more) s)
    grows_then stage c words more notes s = grows_words s (beginning stage c words) words more (talk calls s) notes

    no_failures : (ms : List Outgoing) (s : SwitchId) → (talk calls s).failures ++ failures_to s (sends (is_to_open d.peers) ms) ≡ (talk calls s).failures
    no_failures ms s = ap (λ (l : List Cause). (talk calls s).failures ++ l) (sends_failures s (is_to_open d.peers) ms) ∙ append-nil (talk calls s).failures

    -- none answers in a call that begins a way
    abbrev NoneAnswers : SwitchId → List Change → Type 0
    NoneAnswers s changes = ⊥

    abbrev BegunBy : Stage → Call → Stage → DriverState → Type 0
    BegunBy stage c next e = (Known net rounds inverses (talk_then stage c e.said) NoneAnswers e) × AllByRecursion (Word calls c next) e.said

    abbrev KnownAt : Stage → Type 0
    KnownAt stage = Known net rounds inverses (talk calls) (Has calls) (record d { stage = stage })

    settling_start : (k : ℕ) → MaySettle net rounds inverses NoneAnswers (talk_then (Settled k) Start) (grows_then (Settled k) Start) (Word calls Start (Onward k)) (Onward k)
    settling_start k = record {
      onward = λ j at all. (let f : Onward k ≡ Onward j = at in let g : k ≡ j = cc in
          λ s within changed alive. absurd (all s within (subst (λ n. is_changed (round_after n rounds) s ≡ true) g changed) (λ words. alive)));
      undone = λ j at all. absurd (let f : Onward k ≡ Undone j = at in cc);
      gone_change = λ j at i c is words gone. (let f : Onward k ≡ Onward j = at in let g : j ≡ k = cc in
          record { change = c; is = subst (λ n. slice_get (round_after n rounds) i ≡ Some c) g is; answered = λ alive. absurd (let z : true ≡ false = sym gone ∙ alive in cc) });
      gone_undo = λ j at i c is words gone. absurd (let f : Onward k ≡ Undone j = at in cc);
    }

    settling_back : (stage : Stage) (k : ℕ) → MaySettle net rounds inverses NoneAnswers (talk_then stage Back) (grows_then stage Back) (Word calls Back (Undone k)) (Undone k)
    settling_back stage k = record {
      onward = λ j at all. absurd (let f : Undone k ≡ Onward j = at in cc);
      undone = λ j at all. (let f : Undone k ≡ Undone j = at in let g : k ≡ j = cc in
          λ s within changed alive. absurd (all s within (subst (λ n. is_changed (round_after n inverses) s ≡ true) g changed) (λ words. alive)));
      gone_change = λ j at i c is words gone. absurd (let f : Undone k ≡ Onward j = at in cc);
      gone_undo = λ j at i c is words gone. (let f : Undone k ≡ Undone j = at in let g : j ≡ k = cc in
          record { change = c; is = subst (λ n. slice_get (round_after n rounds) i ≡ Some c) g is; answered = λ alive. absurd (let z : true ≡ false = sym gone ∙ alive in cc) });
    }

    -- between rounds nothing is outstanding
    free_between : (k : ℕ) → KnownAt (Settled k) → (s : SwitchId) → s.0 < switch_count net → IsLive (get_or d.peers s.0 first_peer)
        → ((get_or d.peers s.0 first_peer).channel.outstanding ≡ None) × ((get_or d.peers s.0 first_peer).behind ≡ None)
    free_between k h s less going =
        let now = h.all s less in
        let p = get_or d.peers s.0 first_peer in
        free_of net rounds inverses (talk calls) (talk_then (Settled k) Start) (Has calls) NoneAnswers (Settled k) s (talk calls s).of_round (talk calls s).of_way p.channel.outstanding p.behind p.asked (now.unasked refl) (now.goes going).out

    starts : (k : ℕ) → KnownAt (Settled k) → BegunBy (Settled k) Start (Onward k) (started_in net rounds (Settled k) (record d { stage = Settled k; said = [] }))
    unfolding sent_out
    starts k h =
        let b = begins net rounds inverses (talk calls) (talk_then (Settled k) Start) (Has calls) NoneAnswers (Onward k) d.first d.next d.peers (replicate (length d.peers) false) (Log logged.Start ∷ []) h.count h.next
        (Word calls Start (Onward k)) (grows_then (Settled k) Start) (settling_start k) (λ s text. tt) (tt, tt)
        (λ s. record { came = refl; of_way = refl; quiet = refl; same = λ j at. refl; sent = refl; failures = no_failures _ s; dead = refl })
        (λ s less. record {
          reads = λ going. ((h.all s less).goes going).reads;
          told = (h.all s less).told;
          prior = λ going. (let (out, alone) = free_between k h s less going in Free out alone);
          waiting = λ live waits. ((h.all s less).goes live).waiting waits;
          dead = (h.all s less).dead;
          unasked = λ off. (h.all s less).unasked refl;
        })
        (λ s less none going x out. none_some _ x (free_between k h s less going).0 out) in
        (b.known, b.says)

    undoes : (k : ℕ) → KnownAt (Settled (suc k)) → BegunBy (Settled (suc k)) Back (Undone k) (turned_in net rounds inverses (Settled (suc k)) (record d { stage = Settled (suc k); said = [] }))
    unfolding sent_out
    undoes k h =
        let b = begins net rounds inverses (talk calls) (talk_then (Settled (suc k)) Back) (Has calls) NoneAnswers (Undone k) d.first d.next d.peers (replicate (length d.peers) true) (Log logged.Back ∷ []) h.count h.next
        (Word calls Back (Undone k)) (grows_then (Settled (suc k)) Back) (settling_back (Settled (suc k)) k) (λ s text. tt) (tt, tt)
        (λ s. record { came = refl; of_way = refl; quiet = refl; same = λ j at. refl; sent = refl; failures = no_failures _ s; dead = refl })
        (λ s less. record {
          reads = λ going. ((h.all s less).goes going).reads;
          told = (h.all s less).told;
          prior = λ going. (let (out, alone) = free_between (suc k) h s less going in Free out alone);
          waiting = λ live waits. ((h.all s less).goes live).waiting waits;
          dead = (h.all s less).dead;
          unasked = λ off. (h.all s less).unasked refl;
        })
        (λ s less none going x out. none_some _ x (free_between (suc k) h s less going).0 out) in
        (b.known, b.says)

    -- of a round that goes onward the messages stay sent where it is turned
    prior_turned : (k : ℕ) (s : SwitchId) (p : PeerState) (u : SwitchTalk) (more : List (List ℕ)) → u.of_round ≡ u.of_way → (o behind : Option ℕ) → p.channel.outstanding ≡ o → p.behind ≡ behind
        → AreOut net rounds inverses (Onward k) s u.of_round u.of_way o behind p.asked → Prior net rounds inverses (talk calls) (talk_then (Onward k) Back) (Has calls) NoneAnswers (Undone k) s (u.of_round ++ more) p
    prior_turned k s p u more same None None at none h = Free at none
    prior_turned k s p u more same None (Some y) at none h = absurd h
    prior_turned k s p u more same (Some x) None at none h =
        Turned x at none k refl (asks_more (round_after k rounds) s x u.of_round more (subst (AsksBehind (round_after k rounds) s x) (sym same) h.is))
    prior_turned k s p u more same (Some x) (Some y) at none h = absurd (let f : Onward k ≡ Undone h.k = h.undone in cc)

    turns : (k : ℕ) → KnownAt (Onward k) → BegunBy (Onward k) Back (Undone k) (turned_in net rounds inverses (Onward k) (record d { stage = Onward k; said = [] }))
    unfolding sent_out
    turns k h =
        let b = begins net rounds inverses (talk calls) (talk_then (Onward k) Back) (Has calls) NoneAnswers (Undone k) d.first d.next d.peers d.in_force [] h.count h.next
        (Word calls Back (Undone k)) (grows_then (Onward k) Back) (settling_back (Onward k) k) (λ s text. tt) tt
        (λ s. record { came = refl; of_way = refl; quiet = refl; same = λ j at. absurd (let f : Undone k ≡ Onward j = at in cc); sent = refl; failures = no_failures _ s; dead = refl })
        (λ s less. record {
          reads = λ going. ((h.all s less).goes going).reads;
          told = (h.all s less).told;
          prior = λ going. prior_turned k s (get_or d.peers s.0 first_peer) (talk calls s) _ ((h.all s less).same k refl) (get_or d.peers s.0 first_peer).channel.outstanding (get_or d.peers s.0 first_peer).behind refl refl ((h.all s less).goes going).out;
          waiting = λ live waits. ((h.all s less).goes live).waiting waits;
          dead = (h.all s less).dead;
          unasked = λ off. (h.all s less).unasked (sym (turnable.same k s) ∙ off);
        })
        (λ s less none going x out.
        let p = get_or d.peers s.0 first_peer in
        none_some p.channel.outstanding x
        (free_of net rounds inverses (talk calls) (talk_then (Onward k) Back) (Has calls) NoneAnswers (Onward k) s (talk calls s).of_round (talk calls s).of_way p.channel.outstanding p.behind p.asked none ((h.all s less).goes going).out).0 out) in
        (b.known, b.says)

  -- ---- each call

  -- the talk with a switch is as before where a call is refused
  still : (stage : Stage) (c : Call) → is_asked_way c ≡ true → (s : SwitchId) (u : SwitchTalk) → traffic_then s (record { stage = stage; call = c; taken = false; said = [] }) u ≡ u
  still stage Start way s u = same_talk u.came u.came (u.sent ++ []) u.sent (u.of_round ++ []) u.of_round (u.of_way ++ []) u.of_way (u.failures ++ []) u.failures u.dead refl (append-nil u.sent) (append-nil u.of_round) (append-nil u.of_way) (append-nil u.failures)
  still stage Back way s u = same_talk u.came u.came (u.sent ++ []) u.sent (u.of_round ++ []) u.of_round (u.of_way ++ []) u.of_way (u.failures ++ []) u.failures u.dead refl (append-nil u.sent) (append-nil u.of_round) (append-nil u.of_way) (append-nil u.failures)
  still stage (Reopen t) way s u = absurd (let f : false ≡ true = way in cc)
  still stage (Feed t bytes) way s u = absurd (let f : false ≡ true = way in cc)
  still stage (Dead t) way s u = absurd (let f : false ≡ true = way in cc)

  module _ (calls : List Call) (d : DriverState) (on : OnCalls calls d) (c : Call) (way : is_asked_way c ≡ true) where
    -- what a call exchanges, by whether it is taken
    abbrev as_if : DriverView → Bool → Exchange
    as_if taken b = record { stage = d.stage; call = c; taken = b; said = (cond b taken (silent_view (view d))).state.said }

    refused : (taken : DriverView) → after_call_anew (view d) c ≡ silent_view (view d) → exchange_of (view d) c ≡ as_if taken false → CallDone calls d c
    refused taken is exchanged = record {
      state = record d { said = [] };
      is = is;
      known = known_same net rounds inverses (Has (calls ++ c ∷ [])) (talk calls) (λ s. traffic_then s (exchange_of (view d) c) (talk calls s)) (record d { said = [] })
          (λ s. sym (ap (λ (e : Exchange). traffic_then s e (talk calls s)) exchanged ∙ still d.stage c way s (talk calls s)))
          (known_up net rounds inverses (Has calls) (Has (calls ++ c ∷ [])) (λ s changes h. has_more calls d c on none s changes h) (talk calls) (record d { said = [] })
          (record { count = on.known.count; all = on.known.all; running = on.known.running; next = on.known.next }));
      says = tt;
      now = λ _. inl refl;
    }
      where
        none : begins_way (exchange_of (view d) c) ≡ false
        none = ap begins_way exchanged ∙ ap (λ b. b && false) way

    taken_as : (e : DriverState) → after_call_anew (view d) c ≡ view e → exchange_of (view d) c ≡ as_if (view e) true → (next : Stage) → stage_in d.stage c ≡ next
        → (Known net rounds inverses (λ s. traffic_then s (record { stage = d.stage; call = c; taken = true; said = e.said }) (talk calls s)) (λ s changes. ⊥) e) × AllByRecursion (Word calls c next) e.said
        → CallDone calls d c
    taken_as e is exchanged next goes (known, says) = record {
      state = e;
      is = is;
      known = known_same net rounds inverses (Has (calls ++ c ∷ [])) (λ s. traffic_then s (record { stage = d.stage; call = c; taken = true; said = e.said }) (talk calls s))
          (λ s. traffic_then s (exchange_of (view d) c) (talk calls s)) e (λ s. sym (ap (λ (x : Exchange). traffic_then s x (talk calls s)) exchanged))
          (known_up net rounds inverses (λ s changes. ⊥) (Has (calls ++ c ∷ [])) (λ s changes h. absurd h) (λ s. traffic_then s (record { stage = d.stage; call = c; taken = true; said = e.said }) (talk calls s)) e known);
      says = subst (λ (x : Stage). AllByRecursion (Word calls c x) e.said) (sym goes) says;
      now = λ none. absurd (let f : true ≡ false = sym (ap begins_way exchanged ∙ ap (λ b. b && true) way) ∙ none in cc);
    }

  false_true : {A : Type 0} (b : Bool) → b ≡ false → b ≡ true → A
  false_true b e f = absurd (let g : false ≡ true = sym e ∙ f in cc)

  done_start : (calls : List Call) (stage : Stage) (d : DriverState) → OnCalls calls (record d { stage = stage }) → CallDone calls (record d { stage = stage }) Start
  done_start calls stage d on =
      let now : DriverState = record d { stage = stage } in
      let e : DriverState = started_in net rounds stage (record now { said = [] }) in
      let exchanged : Bool → Exchange = λ b. record { stage = stage; call = Start; taken = b; said = (cond b (view e) (silent_view (view now))).state.said } in
      elim (cases_Bool (is_none (start_fault (view now)))) [
        | inl t ↦ by_stage stage d on t
        | inr f ↦ refused calls now on Start refl (view e) (ap (λ b. cond b (view e) (silent_view (view now))) f) (ap exchanged f)
      ]
    where
      by_stage : (stage : Stage) (d : DriverState) → OnCalls calls (record d { stage = stage }) → is_none (start_fault_in net rounds d.peers stage) ≡ true → CallDone calls (record d { stage = stage }) Start
      by_stage (Settled k) d on t =
          let now : DriverState = record d { stage = Settled k } in
          let e : DriverState = started_in net rounds (Settled k) (record now { said = [] }) in
          taken_as calls now on Start refl e (ap (λ b. cond b (view e) (silent_view (view now))) t)
          (ap (λ b. record { stage = Settled k; call = Start; taken = b; said = (cond b (view e) (silent_view (view now))).state.said }) t) (Onward k) refl (starts calls now on k on.known)
      by_stage (Onward k) d on t = false_true false refl t
      by_stage (Undone k) d on t = false_true false refl t

  done_back : (calls : List Call) (stage : Stage) (d : DriverState) → OnCalls calls (record d { stage = stage }) → CallDone calls (record d { stage = stage }) Back
  done_back calls stage d on =
      let now : DriverState = record d { stage = stage } in
      let e : DriverState = turned_in net rounds inverses stage (record now { said = [] }) in
      let exchanged : Bool → Exchange = λ b. record { stage = stage; call = Back; taken = b; said = (cond b (view e) (silent_view (view now))).state.said } in
      elim (cases_Bool (is_none (back_fault (view now)))) [
        | inl t ↦ by_stage stage d on t
        | inr f ↦ refused calls now on Back refl (view e) (ap (λ b. cond b (view e) (silent_view (view now))) f) (ap exchanged f)
      ]
    where
      by_stage : (stage : Stage) (d : DriverState) → OnCalls calls (record d { stage = stage }) → is_none (back_fault_in net rounds d.peers stage) ≡ true → CallDone calls (record d { stage = stage }) Back
      by_stage (Settled zero) d on t = false_true false refl t
      by_stage (Settled (suc k)) d on t =
          let now : DriverState = record d { stage = Settled (suc k) } in
          let e : DriverState = turned_in net rounds inverses (Settled (suc k)) (record now { said = [] }) in
          taken_as calls now on Back refl e (ap (λ b. cond b (view e) (silent_view (view now))) t)
          (ap (λ b. record { stage = Settled (suc k); call = Back; taken = b; said = (cond b (view e) (silent_view (view now))).state.said }) t) (Undone k) refl (undoes calls now on k on.known)
      by_stage (Onward k) d on t =
          let now : DriverState = record d { stage = Onward k } in
          let e : DriverState = turned_in net rounds inverses (Onward k) (record now { said = [] }) in
          taken_as calls now on Back refl e (ap (λ b. cond b (view e) (silent_view (view now))) t)
          (ap (λ b. record { stage = Onward k; call = Back; taken = b; said = (cond b (view e) (silent_view (view now))).state.said }) t) (Undone k) refl (turns calls now on k on.known)
      by_stage (Undone k) d on t = false_true false refl t

  pub done_call : (calls : List Call) (d : DriverState) (c : Call) → IsCall net c → OnCalls calls d → CallDone calls d c
  done_call calls d Start ok on = done_start calls d.stage d on
  done_call calls d Back ok on = done_back calls d.stage d on
  done_call calls d (Reopen t) ok on = done_reopened calls d on t ok
  done_call calls d (Feed t bytes) ok on = done_fed calls d on t ok bytes
  done_call calls d (Dead t) ok on = done_dead calls d on t ok

  -- ---- all calls

  pub record Behind (calls : List Call) : Type 0 where
    pub state : DriverState
    pub on : OnCalls calls state

  on_calls : (more calls : List Call) (d : DriverState) → AllByRecursion (IsCall net) more → OnCalls calls d → Behind (calls ++ more)
  on_calls [] calls d ok on = subst Behind (sym (append-nil calls)) (record { state = d; on = on })
  on_calls (c ∷ more) calls d ok on =
      let done = done_call calls d c ok.0 on in
      subst Behind (append_assoc calls (c ∷ []) more) (on_calls more (calls ++ c ∷ []) done.state ok.1 (on_next calls d c on done))

  first_at : (n i : ℕ) → get_or (replicate n first_peer) i first_peer ≡ first_peer
  first_at zero i = refl
  first_at (suc n) zero = refl
  first_at (suc n) (suc i) = first_at n i

  pub on_none : OnCalls [] (first_driver net)
  on_none = record {
    is = refl;
    known = record {
      count = length-replicate (switch_count net) first_peer;
      all = λ s less. subst (Knows net rounds inverses (Has [] s) (Settled 0) 1 s first_traffic) (sym (first_at (switch_count net) s.0)) (record {
        goes = λ going. record { reads = heard_nothing; out = tt; waiting = λ e. refl };
        asked = λ y at. absurd (let f : None ≡ Some y = at in cc);
        unasked = λ off. refl;
        answered = λ changed none. false_true false refl changed;
        same = λ k at. absurd (let f : Settled 0 ≡ Onward k = at in cc);
        range = λ y at. absurd (let f : None ≡ Some y = at in cc);
        told = λ _. refl;
        dead = refl;
      });
      running = λ e. false_true false refl (sym e);
      next = omega arith;
    };
  }

  pub behind_calls : (calls : List Call) → AllByRecursion (IsCall net) calls → Behind calls
  behind_calls calls ok = on_calls calls [] (first_driver net) ok on_none

  -- the driver behind calls, but for what it said
  pub silent_is : (calls : List Call) (d : DriverState) → OnCalls calls d → silent_view (after_calls made calls) ≡ silent_view (view d)
  silent_is calls d on = calls_kept made calls ∙ ap silent_view on.is

  pub says_answered : (calls : List Call) (c : Call) → AllByRecursion (IsCall net) calls → IsCall net c → SaysAnswered made calls c
  says_answered calls c ok here =
      let at = behind_calls calls ok in
      let done = done_call calls at.state c here at.on in
      subst (λ (v : DriverView). AllByRecursion (Word calls c (stage_in v.state.stage c)) (after_call v c).state.said) (sym (silent_is calls at.state at.on))
      (subst (λ (v : DriverView). AllByRecursion (Word calls c (stage_in at.state.stage c)) v.state.said) (sym done.is) done.says)
