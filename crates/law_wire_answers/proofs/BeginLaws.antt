-- What a round that begins, or turns, changes in what a driver keeps.
use Rattle.std.proofs.Common.{◌≡◌, ℕ, ◌<◌, Bool, true, false, cond, List, [], ◌∷◌, ◌++◌, length, get_or, refl, sym, ap, ◌∙◌, subst, inl, inr}
use Rattle.std.specs.Prelude.{Option, Some, None, is_some}
use Rattle.std.specs.List.{AllByRecursion}
use Rattle.std.proofs.lemmas.Bool.{cases_Bool, cond_both}
use Rattle.net_base.proofs.MemberLaws.{each_append}
use Rattle.net_base.specs.declared.ids.SwitchId.{SwitchId}
use Rattle.topology.specs.Networks.{Network, switch_count}
use Rattle.update_model.specs.Changes.{round_after}
use Rattle.update_model.specs.declared.Change.{Change}
use Rattle.openflow10.specs.Messages.{wire_text}
use Rattle.openflow10.specs.declared.Message.TheVariants.{BarrierRequest}
use Rattle.round_messages.specs.Requests.{is_changed}
use Rattle.switch_session.specs.Channels.{is_failed, is_open, after_request}
use Rattle.switch_session.specs.declared.Session.{Session}
use Rattle.switch_session.specs.declared.Session.TheVariants.{Waiting, Open, Failed}
use Rattle.turned_rounds.specs.Batches.{change_messages, batch_of, xid_behind}
use Rattle.two_way_driver.specs.PeerStates.{PeerState}
use Rattle.two_way_driver.specs.Peers.{first_peer, queued_peer, asks}
use Rattle.two_way_driver.specs.Drivers.{DriverState, sends, is_to_open, asks_if, asked_from, sent_out, running_round, settled_if_answered}
use Rattle.two_way_driver.specs.Sending.{texts_to, texts_for}
use Rattle.two_way_driver.specs.declared.Stage.{Stage}
use Rattle.two_way_driver.specs.declared.Stage.TheVariants.{Onward, Undone}
use Rattle.two_way_driver.specs.declared.DriverOutput.{DriverOutput}
use Rattle.two_way_driver.specs.declared.DriverOutput.TheVariants.{Send}
use Rattle.two_way_driver.proofs.QuietLaws.{texts-append, texts_open}
use Rattle.two_way_driver.proofs.ServingLaws.{length-asked}
use Rattle.law_wire_answers.specs.Exchanges.{SwitchTalk}
use Rattle.law_wire_answers.specs.Answering.{AsksBehind}
use Rattle.law_wire_answers.specs.Failing.{barrier_xids}
use Rattle.law_wire_answers.proofs.TrafficLaws.{IsNote, Grows}
use Rattle.law_wire_answers.proofs.RequestLaws.{behind_range, one_request, AskedIn, asked_in}
use Rattle.law_wire_answers.proofs.FedLaws.{all_sends, heard_request}
use Rattle.law_wire_answers.proofs.KnowingLaws.{none_some, out_list, FailedAs, IsLive, IsHeard, heard_more, asks_now, AreOut, Goes, Knows, Known, NearlyKnown, MaySettle, settles}

false_is : {A : Type 0} → false ≡ true → A
false_is e = absurd (let f : false ≡ true = e in cc)

module _ (net : Network) (rounds inverses : List (List Change)) (T : SwitchId → SwitchTalk) (U : List DriverOutput → SwitchId → SwitchTalk) (D E : SwitchId → List Change → Type 0) where
  -- of a switch that didn't answer so far nothing is outstanding
  pub free_of : (stage : Stage) (s : SwitchId) (of_round of_way : List (List ℕ)) (o behind asked : Option ℕ) → asked ≡ None → AreOut net rounds inverses stage s of_round of_way o behind asked → (o ≡ None) × (behind ≡ None)
  free_of stage s of_round of_way None None asked none h = (refl, refl)
  free_of stage s of_round of_way None (Some y) asked none h = absurd h
  free_of stage s of_round of_way (Some x) None asked none h = absurd (none_some asked x none h.waits)
  free_of stage s of_round of_way (Some x) (Some y) asked none h = absurd (none_some asked y none h.waits)

  -- what may be outstanding where a round begins, or turns
  pub data Prior (stage : Stage) (s : SwitchId) (of_round : List (List ℕ)) (p : PeerState) : Type 0 where
    Free : p.channel.outstanding ≡ None → p.behind ≡ None → Prior stage s of_round p
    Turned : (x : ℕ) → p.channel.outstanding ≡ Some x → p.behind ≡ None → (k : ℕ) → stage ≡ Undone k → AsksBehind (round_after k rounds) s x of_round → Prior stage s of_round p

  module _ (stage : Stage) (first next : ℕ) (peers : List PeerState) (flags : List Bool) (words : List DriverOutput) (count : length peers ≡ switch_count net) (next_less : next < 4294967296) where
    abbrev changes : List Change
    changes = asks_now net rounds inverses stage

    abbrev asking : List DriverOutput
    asking = sends (is_to_open peers) (batch_of net next changes)

    abbrev all_words : List DriverOutput
    all_words = words ++ asking

    -- the talk with a switch: its session is the same, and what counts of it begins anew
    pub record Anew (s : SwitchId) : Type 0 where
      pub came : (U all_words s).came ≡ (T s).came
      pub of_way : (U all_words s).of_way ≡ texts_to s all_words
      pub quiet : texts_to s words ≡ []
      pub same : (k : ℕ) → stage ≡ Onward k → (U all_words s).of_round ≡ (U all_words s).of_way
      pub sent : (U all_words s).sent ≡ (T s).sent ++ texts_to s all_words
      pub failures : (U all_words s).failures ≡ (T s).failures
      pub dead : (U all_words s).dead ≡ (T s).dead

    -- what is kept of a switch before
    pub record Before (s : SwitchId) (p : PeerState) : Type 0 where
      pub reads : IsLive p → IsHeard (T s).came (T s).sent p.channel.session p.channel.unread p.channel.outstanding p.behind
      pub told : p.is_dead ≡ false → FailedAs p.channel.session (T s).failures
      pub prior : IsLive p → Prior stage s (U all_words s).of_round p
      pub waiting : IsLive p → p.channel.session ≡ Waiting → p.channel.outstanding ≡ None
      pub dead : (T s).dead ≡ p.is_dead
      pub unasked : is_changed changes s ≡ false → p.asked ≡ None

    module _ (s : SwitchId) (less : s.0 < switch_count net) (p : PeerState) (is_kept : get_or peers s.0 first_peer ≡ p) (anew : Anew s) (before : Before s p) where
      abbrev asked_here : AskedIn net next changes s peers
      asked_here = asked_in net next changes s peers count less

      abbrev y : ℕ
      y = asked_here.xid

      abbrev texts : List (List ℕ)
      texts = texts_to s all_words

      -- on an open session its messages are sent
      texts_are : texts ≡ cond (is_open p.channel.session) (texts_for s (batch_of net next changes)) []
      texts_are =
          texts-append s words asking ∙ ap (λ (l : List (List ℕ)). l ++ texts_to s asking) anew.quiet ∙ texts_open s peers (batch_of net next changes)
          ∙ ap (λ (q : PeerState). cond (is_open q.channel.session) (texts_for s (batch_of net next changes)) []) is_kept

      asked_texts : is_open p.channel.session ≡ true → is_changed changes s ≡ true → texts ≡ texts_for s (change_messages next changes) ++ wire_text (BarrierRequest y) ∷ []
      asked_texts open_now on = texts_are ∙ ap (λ b. cond b (texts_for s (batch_of net next changes)) []) open_now ∙ asked_here.sent on

      way_is : is_open p.channel.session ≡ true → is_changed changes s ≡ true → AsksBehind changes s y (U all_words s).of_way
      way_is open_now on = record { before = []; first = next; behind = []; sent_are = anew.of_way ∙ asked_texts open_now on }

      xids_asked : is_open p.channel.session ≡ true → is_changed changes s ≡ true → barrier_xids texts ≡ y ∷ []
      xids_asked open_now on = ap barrier_xids (asked_texts open_now on) ∙ one_request s next y changes (asked_here.range next_less)

      xids_closed : is_open p.channel.session ≡ false → barrier_xids texts ≡ []
      xids_closed shut = ap barrier_xids (texts_are ∙ ap (λ b. cond b (texts_for s (batch_of net next changes)) []) shut)

      xids_unasked : is_changed changes s ≡ false → barrier_xids texts ≡ []
      xids_unasked off =
          ap barrier_xids texts_are
          ∙ cond_both (is_open p.channel.session) (texts_for s (batch_of net next changes)) [] (λ (l : List (List ℕ)). barrier_xids l ≡ []) (λ _. asked_here.quiet off) (λ _. refl)

      heard_so : (o out : Option ℕ) → IsHeard (T s).came ((T s).sent ++ texts) p.channel.session p.channel.unread o out → IsHeard (U all_words s).came (U all_words s).sent p.channel.session p.channel.unread o out
      heard_so o out h =
          subst (λ (l : List ℕ). IsHeard l (U all_words s).sent p.channel.session p.channel.unread o out) (sym anew.came)
          (subst (λ (l : List (List ℕ)). IsHeard (T s).came l p.channel.session p.channel.unread o out) (sym anew.sent) h)

      -- no barrier request is sent
      reads_quiet : IsLive p → barrier_xids texts ≡ [] → IsHeard (U all_words s).came (U all_words s).sent p.channel.session p.channel.unread p.channel.outstanding p.behind
      reads_quiet going none =
          heard_so p.channel.outstanding p.behind (heard_more (T s).came (T s).sent texts p.channel.session p.channel.unread p.channel.outstanding p.behind none (before.reads going))

      -- one is
      reads_asked : IsLive p → is_open p.channel.session ≡ true → is_changed changes s ≡ true → (o out : Option ℕ) → out_list p.channel.outstanding p.behind ++ y ∷ [] ≡ out_list o out
          → IsHeard (U all_words s).came (U all_words s).sent p.channel.session p.channel.unread o out
      reads_asked going open_now on o out more =
          heard_so o out (heard_request (T s).came (T s).sent p.channel.session p.channel.unread p.channel.outstanding p.behind (before.reads going) texts y o out (xids_asked open_now on) more)

      told_so : p.is_dead ≡ false → FailedAs p.channel.session (U all_words s).failures
      told_so alive = subst (FailedAs p.channel.session) (sym anew.failures) (before.told alive)

      abbrev KnowsSo : PeerState → Type 0
      KnowsSo q = Knows net rounds inverses (E s) stage next s (U all_words s) q

      -- a switch that is asked
      knows_asked : (q : PeerState) → q.asked ≡ Some y → q.channel.session ≡ p.channel.session → q.is_dead ≡ p.is_dead → is_changed changes s ≡ true → (IsLive q → Goes net rounds inverses stage s (U all_words s) q) → KnowsSo q
      knows_asked q asked same gone on goes = record {
        goes = goes;
        asked = λ z at. (let f : Some y ≡ Some z = sym asked ∙ at in let g : y ≡ z = cc in subst (λ w. texts_for s (batch_of net next changes) ≡ texts_for s (change_messages next changes) ++ wire_text (BarrierRequest w) ∷ []) g (asked_here.sent on));
        unasked = λ off. false_is (sym off ∙ on);
        answered = λ on_now none. absurd (none_some q.asked y none asked);
        same = anew.same;
        range = λ z at. (let f : Some y ≡ Some z = sym asked ∙ at in let g : y ≡ z = cc in subst (λ n. n < 4294967296) g (asked_here.range next_less));
        told = λ alive. subst (λ (x : Session). FailedAs x (U all_words s).failures) (sym same) (told_so (sym gone ∙ alive));
        dead = anew.dead ∙ before.dead ∙ sym gone;
      }

      -- by its session and what is outstanding
      queue_free : Prior stage s (U all_words s).of_round p → is_open p.channel.session ≡ true → is_changed changes s ≡ true → IsLive p → p.channel.session ≡ Open → KnowsSo (queued_peer y (record p { asked = Some y }))
      queue_free (Free none alone) open_now on going is_open_now =
          let q : PeerState = record p { asked = Some y } in
          let r : PeerState = record q { channel = after_request [] y q.channel } in
          subst (λ (o : Option ℕ). KnowsSo (cond (is_some o) (record q { behind = Some y }) r)) (sym none)
          (knows_asked r refl refl refl on (λ _. record {
            reads = reads_asked going open_now on (Some y) p.behind (ap (λ (o : Option ℕ). out_list o p.behind ++ y ∷ []) none ∙ ap (out_list (Some y)) (sym alone));
            out = subst (λ (o : Option ℕ). AreOut net rounds inverses stage s (U all_words s).of_round (U all_words s).of_way (Some y) o (Some y)) (sym alone) (record { waits = refl; is = way_is open_now on });
            waiting = λ e. absurd (let f : Open ≡ Waiting = sym is_open_now ∙ e in cc);
          }))
      queue_free (Turned x out alone k undone asks_first) open_now on going is_open_now =
          let q : PeerState = record p { asked = Some y } in
          let r : PeerState = record q { behind = Some y } in
          let now : changes ≡ round_after k inverses = ap (asks_now net rounds inverses) undone in
          subst (λ (o : Option ℕ). KnowsSo (cond (is_some o) r (record q { channel = after_request [] y q.channel }))) (sym out)
          (knows_asked r refl refl refl on (λ _. record {
            reads = reads_asked going open_now on p.channel.outstanding (Some y)
                (ap (λ (o : Option ℕ). out_list o p.behind ++ y ∷ []) out ∙ ap (λ (o : Option ℕ). out_list (Some x) o ++ y ∷ []) alone ∙ ap (λ (o : Option ℕ). out_list o (Some y)) (sym out));
            out = subst (λ (o : Option ℕ). AreOut net rounds inverses stage s (U all_words s).of_round (U all_words s).of_way o (Some y) (Some y)) (sym out)
                (record { k = k; undone = undone; first = asks_first; waits = refl; turned = subst (λ (l : List Change). AsksBehind l s y (U all_words s).of_way) now (way_is open_now on) });
            waiting = λ e. absurd (let f : Open ≡ Waiting = sym is_open_now ∙ e in cc);
          }))

      asks_by : (x : Session) → p.channel.session ≡ x → p.is_dead ≡ false → is_changed changes s ≡ true → KnowsSo (cond (is_open p.channel.session) (queued_peer y (record p { asked = Some y })) (record p { asked = Some y }))
      asks_by Waiting is alive on =
          let q : PeerState = record p { asked = Some y } in
          subst (λ (x : Session). KnowsSo (cond (is_open x) (queued_peer y q) q)) (sym is)
          (knows_asked q refl refl refl on (λ going. record {
            reads = reads_quiet going (xids_closed (ap is_open is));
            out = waits_out (before.prior going) (before.waiting going is);
            waiting = before.waiting going;
          }))
        where
          waits_out : Prior stage s (U all_words s).of_round p → p.channel.outstanding ≡ None → AreOut net rounds inverses stage s (U all_words s).of_round (U all_words s).of_way p.channel.outstanding p.behind (Some y)
          waits_out (Free none alone) out = free_out none alone
            where
              free_out : p.channel.outstanding ≡ None → p.behind ≡ None → AreOut net rounds inverses stage s (U all_words s).of_round (U all_words s).of_way p.channel.outstanding p.behind (Some y)
              free_out none alone =
                  subst (λ (o : Option ℕ). AreOut net rounds inverses stage s (U all_words s).of_round (U all_words s).of_way o p.behind (Some y)) (sym none)
                  (subst (λ (o : Option ℕ). AreOut net rounds inverses stage s (U all_words s).of_round (U all_words s).of_way None o (Some y)) (sym alone) tt)
          waits_out (Turned x some alone k undone asks_first) out = absurd (none_some p.channel.outstanding x out some)
      asks_by Open is alive on =
          let q : PeerState = record p { asked = Some y } in
          let going : IsLive p = (ap is_failed is, alive) in
          let open_now : is_open p.channel.session ≡ true = ap is_open is in
          subst (λ b. KnowsSo (cond b (queued_peer y q) q)) (sym open_now) (queue_free (before.prior going) open_now on going is)
      asks_by (Failed c) is alive on =
          let q : PeerState = record p { asked = Some y } in
          subst (λ (x : Session). KnowsSo (cond (is_open x) (queued_peer y q) q)) (sym is)
          (knows_asked q refl refl refl on (λ going. absurd (let f : true ≡ false = sym (ap is_failed is) ∙ going.0 in cc)))

      -- a switch that isn't asked
      unasked_out : p.asked ≡ None → Prior stage s (U all_words s).of_round p → is_changed changes s ≡ false
          → ((x : ℕ) → p.channel.outstanding ≡ Some x → ⊥) → AreOut net rounds inverses stage s (U all_words s).of_round (U all_words s).of_way p.channel.outstanding p.behind p.asked
      unasked_out none (Free out alone) off never =
          subst (λ (o : Option ℕ). AreOut net rounds inverses stage s (U all_words s).of_round (U all_words s).of_way o p.behind p.asked) (sym out)
          (subst (λ (o : Option ℕ). AreOut net rounds inverses stage s (U all_words s).of_round (U all_words s).of_way None o p.asked) (sym alone) tt)
      unasked_out none (Turned x out alone k undone asks_first) off never = absurd (never x out)

      -- a dead switch is asked, and nothing is sent to it
      asks_gone : p.is_dead ≡ true → is_changed changes s ≡ true → KnowsSo (cond (is_open p.channel.session) (queued_peer y (record p { asked = Some y })) (record p { asked = Some y }))
      asks_gone gone on =
          let q : PeerState = record p { asked = Some y } in
          let r : PeerState = record q { channel = after_request [] y q.channel } in
          cond_both (is_open p.channel.session) (queued_peer y q) q KnowsSo
          (λ _. cond_both (is_some p.channel.outstanding) (record q { behind = Some y }) r KnowsSo (λ _. none_lives (record q { behind = Some y }) refl refl refl) (λ _. none_lives r refl refl refl)) (λ _. none_lives q refl refl refl)
        where
          none_lives : (q : PeerState) → q.asked ≡ Some y → q.channel.session ≡ p.channel.session → q.is_dead ≡ p.is_dead → KnowsSo q
          none_lives q asked same kept = knows_asked q asked same kept on (λ live. absurd (let f : true ≡ false = sym gone ∙ sym kept ∙ live.1 in cc))

      knows_new : (never : p.asked ≡ None → IsLive p → (x : ℕ) → p.channel.outstanding ≡ Some x → ⊥) → KnowsSo (get_or (asked_from (xid_behind next (length changes)) changes 0 peers) s.0 first_peer)
      unfolding asks
      knows_new never =
          let kept = asked_here.kept ∙ ap (asks_if (is_changed changes s) y) is_kept in
          subst KnowsSo (sym kept) (elim (cases_Bool (is_changed changes s)) [
            | inl on ↦ subst (λ b. KnowsSo (asks_if b y p)) (sym on) (elim (cases_Bool p.is_dead) [ inl gone ↦ asks_gone gone on | inr alive ↦ asks_by p.channel.session refl alive on ])
            | inr off ↦ (
                let none = before.unasked off in
                subst (λ b. KnowsSo (asks_if b y p)) (sym off) (record {
                  goes = λ going. record { reads = reads_quiet going (xids_unasked off); out = unasked_out none (before.prior going) off (never none going); waiting = before.waiting going };
                  asked = λ z at. absurd (none_some p.asked z none at);
                  unasked = λ _. none;
                  answered = λ on z. false_is (sym off ∙ on);
                  same = anew.same;
                  range = λ z at. absurd (none_some p.asked z none at);
                  told = told_so;
                  dead = anew.dead ∙ before.dead;
                }))
          ])

    abbrev begun : DriverState
    begun = record { stage = stage; first = first; next = next; peers = peers; in_force = flags; said = words }

    -- the round runs that way
    module _ (P : DriverOutput → Type 0) (grows : (said more : List DriverOutput) → AllByRecursion IsNote more → (s : SwitchId) → Grows (U said s) (U (said ++ more) s)) (may : MaySettle net rounds inverses E U grows P stage)
        (send : (s : SwitchId) (text : List ℕ) → P (Send s text)) (said_before : AllByRecursion P words)
        (anew : (s : SwitchId) → Anew s) (before : (s : SwitchId) → s.0 < switch_count net → Before s (get_or peers s.0 first_peer))
        (never : (s : SwitchId) → s.0 < switch_count net → (get_or peers s.0 first_peer).asked ≡ None → IsLive (get_or peers s.0 first_peer) → (x : ℕ) → (get_or peers s.0 first_peer).channel.outstanding ≡ Some x → ⊥) where
      pub record Begun (e : DriverState) : Type 0 where
        pub known : Known net rounds inverses (U e.said) E e
        pub says : AllByRecursion P e.said

      pub begins : Begun (settled_if_answered (running_round rounds stage) (sent_out net changes stage begun))
      unfolding sent_out
      begins =
          let e = sent_out net changes stage begun in
          let near : NearlyKnown net rounds inverses (U e.said) E e = record {
            count = length-asked (xid_behind next (length changes)) changes 0 peers ∙ count;
            all = λ s less. knows_new s less (get_or peers s.0 first_peer) refl (anew s) (before s less) (never s less);
            next = behind_range next (length (batch_of net next changes)) next_less;
          } in
          let done = settles net rounds inverses E U grows P e may near in
          record { known = done.known; says = done.says (each_append P words asking said_before (all_sends P send (is_to_open peers) (batch_of net next changes))) }
