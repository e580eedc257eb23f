-- What holds of every state on the wire, event by event.
use Rattle.std.proofs.Common.{◌≡◌, ◌≢◌, ℕ, zero, suc, ◌+◌, ◌<◌, Bool, true, false, List, [], ◌∷◌, ◌++◌, length, set, take, drop, get_or-set_same, get_or-set_other, refl, sym, ◌∙◌, subst, ap, inl, inr, append-nil, length-set, arith, map, get_or}
use Rattle.std.specs.Prelude.{Option, Some, None, is_none, slice_get}
use Rattle.std.specs.List.{AllByRecursion}
use Rattle.std.proofs.lemmas.Bool.{cases_eq, cond_both, cases_Bool, both_ways}
use Rattle.net_base.specs.declared.ids.SwitchId.{SwitchId}
use Rattle.net_base.proofs.MemberLaws.{each_append}
use Rattle.topology.specs.Networks.{switch_count}
use Rattle.flow_rules.specs.Tables.{IsTable, rules_at}
use Rattle.flow_rules.specs.declared.rules.Key.{Key}
use Rattle.flow_rules.specs.declared.rules.Rule.{Rule}
use Rattle.update_model.specs.Mixtures.{Rollout, AreGoodRounds}
use Rattle.openflow10.specs.declared.Message.{Message}
use Rattle.openflow10.specs.declared.Message.TheVariants.{Flow, BarrierRequest}
use Rattle.round_inverses.specs.Rounds.{inverse_rounds}
use Rattle.two_way_driver.specs.Drivers.{DriverState, peer_at, first_driver, running_round}
use Rattle.two_way_driver.specs.Calls.{AreTurnable, DriverView, silent_view, start_fault, back_fault, started_view, turned_view}
use Rattle.two_way_driver.specs.Laws.{Call, IsCall, after_call, after_calls, driver_after}
use Rattle.two_way_driver.specs.Laws as call
use Rattle.two_way_driver.specs.Words.{with_words, after_call_anew}
use Rattle.two_way_driver.proofs.WordLaws.{call_is}
use Rattle.law_wire.specs.Carried.{carried}
use Rattle.law_wire.specs.Network.{WireState, driver_at, settles_in, settles_at, with_box, given, without, carried_out_at, MayDeal}
use Rattle.law_wire.proofs.Entries.{HoldsBy, holds_carried, with_key}
use Rattle.law_wire.proofs.Link.{Link, Holding, carry_link, nothing_held}
use Rattle.law_wire.proofs.Sides.{sides, named_at, way_of, switch_is}
use Rattle.law_wire.proofs.Words.{settles-append}
use Rattle.law_wire.proofs.Keeps.{Around, Keeps, Waits, keeps_said, Beside, LogsAt, IsAsked, beside_alive, beside_gone, keeps_peer}
use Rattle.law_wire.proofs.Feeds.{box_here, box_away, around, Serves}
use Rattle.two_way_driver.specs.PeerStates.{PeerState}
use Rattle.two_way_driver.specs.Peers.{first_peer, reopened_peer, dead_peer}
use Rattle.two_way_driver.specs.declared.DriverOutput.TheVariants.{Send}
use Rattle.switch_session.specs.Channels.{hello}
use Rattle.round_messages.specs.Requests.{is_changed}
use Rattle.net_base.specs.Members.{IsIn}
use Rattle.update_model.specs.Changes.{changes_at, round_after}
use Rattle.update_model.specs.declared.Change.{Change}
use Rattle.update_model.proofs.ChangeLaws.{key_named}
use Rattle.openflow10.specs.declared.FlowMod.{FlowMod}
use Rattle.law_wire.proofs.Batch.{none_changed}
use Rattle.law_wire.proofs.Asks.{reopened_from}
use Rattle.two_way_driver.specs.declared.Stage.{Stage}
use Rattle.two_way_driver.specs.declared.Stage.TheVariants.{Settled, Onward, Undone}

-- ---- lists

split_at : (xs : List Message) (i : ℕ) (x : Message) → slice_get xs i ≡ Some x → xs ≡ take i xs ++ x ∷ drop (suc i) xs
split_at [] i x e = absurd (let f : None ≡ Some x = e in cc)
split_at (y ∷ xs) zero x e = let f : Some y ≡ Some x = e in let g : y ≡ x = cc in ap (λ z. z ∷ xs) g
split_at (y ∷ xs) (suc i) x e = ap (λ l. y ∷ l) (split_at xs i x e)

pub held_at : (messages : List Message) (i : ℕ) (may : MayDeal messages i) → Holding messages may.flow (without i messages)
held_at messages i may = record { before = take i messages; behind = drop (suc i) messages; are = split_at messages i (Flow may.flow) may.is; free = may.free; rest_is = refl }

pub none_is : {A : Type 0} (o : Option A) → is_none o ≡ true → o ≡ None
none_is None e = refl
none_is (Some x) e = absurd (let f : false ≡ true = e in cc)

module _ (u : Rollout) (good : AreGoodRounds u) (old : AllByRecursion IsTable u.old) (turnable : AreTurnable u.net u.rounds (inverse_rounds u.old u.rounds)) (sized : length u.old ≡ switch_count u.net) where
  -- ---- the driver

  abbrev view : DriverState → DriverView
  view d = record { net = u.net; rounds = u.rounds; inverses = inverse_rounds u.old u.rounds; state = d }

  view_kept : (d : DriverState) (c : Call) → after_call (view d) c ≡ view (after_call (view d) c).state
  view_kept d call.Start = cond_both (is_none (start_fault (view d))) (started_view (view d)) (view d) (λ (w : DriverView). w ≡ view w.state) (λ e. refl) (λ e. refl)
  view_kept d call.Back = cond_both (is_none (back_fault (view d))) (turned_view (view d)) (view d) (λ (w : DriverView). w ≡ view w.state) (λ e. refl) (λ e. refl)
  view_kept d (call.Reopen s) = refl
  view_kept d (call.Feed s bytes) = refl
  view_kept d (call.Dead s) = refl

  calls_more : (v : DriverView) (calls : List Call) (c : Call) → after_calls v (calls ++ c ∷ []) ≡ after_call (after_calls v calls) c
  calls_more v [] c = refl
  calls_more v (d ∷ calls) c = calls_more (after_call v d) calls c

  view_at : (d : DriverState) (calls : List Call) → after_calls (view d) calls ≡ view (after_calls (view d) calls).state
  view_at d [] = refl
  view_at d (c ∷ calls) =
      let next = after_call (view d) c in
      let same = view_kept d c in
      subst (λ (w : DriverView). after_calls w calls ≡ view (after_calls w calls).state) (sym same) (view_at next.state calls)

  abbrev silent : List Call → DriverState
  silent calls = record (driver_at u calls).state { said = [] }

  is_view : (calls : List Call) → driver_at u calls ≡ view (driver_at u calls).state
  is_view calls = view_at (first_driver u.net) calls

  -- ---- what holds of a state

  abbrev pub base : WireState → Around
  base st = record { tables = st.tables; inbox = st.inbox; outbox = st.outbox; settles = settles_at u st.calls; packets = st.packets }

  pub record OnWire (st : WireState) : Type 0 where
    pub keeps : Keeps u good old turnable sized (record (driver_at u st.calls).state { said = [] }) (base st)
    pub waits : Waits u good old turnable sized (record (driver_at u st.calls).state { said = [] })
    pub calls : AllByRecursion (IsCall u.net) st.calls

  -- around a driver that is silent
  pub silent_around : (b : Around) (d : DriverState) → Keeps u good old turnable sized (record d { said = [] }) b
      → Keeps u good old turnable sized (record d { said = [] }) (around u good old turnable sized b (record d { said = [] }))
  silent_around b d keeps =
      let e : DriverState = record d { said = [] } in
      let same : b.settles ≡ b.settles + 0 = omega arith in
      subst (λ n. Keeps u good old turnable sized e (record b { inbox = λ t. b.inbox t ++ []; settles = n })) same (keeps_said u good old turnable sized e b [] (λ t. b.inbox t ++ []) keeps (λ t. append-nil (b.inbox t)))

  -- a driver that was silent before a call
  pub serves_of : (b : Around) (d : DriverState) → Keeps u good old turnable sized (record d { said = [] }) b → Waits u good old turnable sized (record d { said = [] }) → Serves u good old turnable sized b (record d { said = [] })
  serves_of b d keeps waits = record { keeps = silent_around b d keeps; waits = waits }

  -- behind a call, which says a block
  pub called : (st : WireState) (c : Call) → AllByRecursion (IsCall u.net) st.calls → IsCall u.net c → Serves u good old turnable sized (base st) (after_call_anew (driver_at u st.calls) c).state → OnWire (given u c st)
  called st c calls ok h =
      let v = driver_at u st.calls in
      let f = (after_call_anew v c).state in
      let more : driver_at u (st.calls ++ c ∷ []) ≡ with_words v.state.said (after_call_anew v c) = calls_more (view (first_driver u.net)) st.calls c ∙ call_is v c in
      let state : record (driver_at u (st.calls ++ c ∷ [])).state { said = [] } ≡ record f { said = [] } = ap (λ (w : DriverView). let x : DriverState = record w.state { said = [] } in x) more in
      let settles : settles_at u (st.calls ++ c ∷ []) ≡ settles_at u st.calls + settles_in f.said = ap (λ (w : DriverView). settles_in w.state.said) more ∙ settles-append v.state.said f.said in
      let b = base st in
      let w = around u good old turnable sized b f in
      let said_none : Keeps u good old turnable sized (record f { said = [] }) w = keeps_said u good old turnable sized f w [] w.inbox h.keeps (λ t. refl) in
      record {
        keeps = subst (λ (d : DriverState). Keeps u good old turnable sized d (record w { settles = settles_at u (st.calls ++ c ∷ []) })) (sym state)
            (subst (λ n. Keeps u good old turnable sized (record f { said = [] }) (record w { settles = n })) (sym settles) said_none);
        waits = subst (λ (d : DriverState). Waits u good old turnable sized d) (sym state) h.waits;
        calls = each_append (IsCall u.net) st.calls (c ∷ []) calls (ok, tt);
      }

  -- a call on the view
  pub call_on : (calls : List Call) (c : Call) → (after_call_anew (driver_at u calls) c).state ≡ (after_call (view (record (driver_at u calls).state { said = [] })) c).state
  call_on calls c = ap (λ (w : DriverView). (after_call (silent_view w) c).state) (is_view calls)

  -- ---- a switch's boxes and table

  -- one switch has other boxes, and maybe another table
  module _ (d : DriverState) (b : Around) (h : Keeps u good old turnable sized d b) (s : SwitchId) (here : s.0 < switch_count u.net) where
    pub relinked : (inbox : SwitchId → List Message) (outbox : SwitchId → List ℕ) → ((t : SwitchId) → t.0 ≢ s.0 → inbox t ≡ b.inbox t) → ((t : SwitchId) → t.0 ≢ s.0 → outbox t ≡ b.outbox t)
        → (on : SwitchId → Key → Bool) → ((t : SwitchId) → t.0 ≢ s.0 → on t ≡ h.on t) → (seen tables : List (List Rule)) → length seen ≡ length h.seen → length tables ≡ length b.tables
        → ((t : SwitchId) → (peer_at d t).is_dead ≡ false → rules_at seen t ≡ rules_at tables t)
        → ((t : SwitchId) → HoldsBy (sides u d.stage t) (on t) (rules_at seen t)) → Beside u good old turnable sized d.stage on s (peer_at d s) (inbox s) (outbox s)
        → Keeps u good old turnable sized d (record b { tables = tables; inbox = inbox; outbox = outbox })
    relinked inbox outbox inboxes outboxes on ons seen tables count counted like holds link = record {
      on = on;
      seen = seen;
      like = like;
      holds = holds;
      count = count ∙ h.count;
      counted = counted ∙ h.counted;
      packets = h.packets;
      links = λ t within. elim (cases_eq t.0 s.0) [
        | inl same ↦ subst (λ (x : SwitchId). Beside u good old turnable sized d.stage on x (peer_at d x) (inbox x) (outbox x)) (sym (switch_is t s same)) link
        | inr differs ↦ subst (λ l. Beside u good old turnable sized d.stage on t (peer_at d t) l (outbox t)) (sym (inboxes t differs))
            (subst (λ l. Beside u good old turnable sized d.stage on t (peer_at d t) (b.inbox t) l) (sym (outboxes t differs)) (others t differs within))
      ];
      logs = h.logs;
      peers = h.peers;
      flags = h.flags;
      first = h.first;
      next = h.next;
      within = h.within;
      asks = h.asks;
    }
      where
        others : (t : SwitchId) → t.0 ≢ s.0 → t.0 < switch_count u.net → Beside u good old turnable sized d.stage on t (peer_at d t) (b.inbox t) (b.outbox t)
        others t differs within = record {
          alive = λ alive. subst (λ f. Link (sides u d.stage t) (named_at u d.stage t) (way_of d.stage) f (peer_at d t) (b.inbox t) (b.outbox t)) (sym (ons t differs)) ((h.links t within).alive alive);
          gone = (h.links t within).gone;
        }

    -- a switch with something in its inbox isn't dead
    pub holding_alive : (rest : List Message) (m : FlowMod) → Holding (b.inbox s) m rest → (peer_at d s).is_dead ≡ false
    holding_alive rest m held =
        elim (cases_Bool (peer_at d s).is_dead) [
          | inl dead ↦ absurd (nothing_held m rest (subst (λ l. Holding l m rest) ((h.links s here).gone dead).empty held))
          | inr alive ↦ alive
        ]

    pub asked_alive : (x : ℕ) (rest : List Message) → b.inbox s ≡ BarrierRequest x ∷ rest → (peer_at d s).is_dead ≡ false
    asked_alive x rest is =
        elim (cases_Bool (peer_at d s).is_dead) [
          | inl dead ↦ absurd (let f : BarrierRequest x ∷ rest ≡ [] = sym is ∙ ((h.links s here).gone dead).empty in cc)
          | inr alive ↦ alive
        ]

    -- a flow message is carried out
    pub carries : (i : ℕ) (may : MayDeal (b.inbox s) i)
        → Keeps u good old turnable sized d (record b { tables = set b.tables s.0 (carried_out_at (slice_get (b.inbox s) i) (rules_at b.tables s)); inbox = with_box s (without i (b.inbox s)) b.inbox })
    carries i may =
        let m = may.flow in
        let held = held_at (b.inbox s) i may in
        let alive = holding_alive (without i (b.inbox s)) m held in
        let inbox = with_box s (without i (b.inbox s)) b.inbox in
        let c = carry_link (sides u d.stage s) (named_at u d.stage s) (way_of d.stage) (h.on s) (peer_at d s) (b.inbox s) (without i (b.inbox s)) (b.outbox s) m ((h.links s here).alive alive) held in
        let on : SwitchId → Key → Bool = with_box s (with_key m.key c.b (h.on s)) h.on in
        let on_here : on s ≡ with_key m.key c.b (h.on s) = box_here s (with_key m.key c.b (h.on s)) h.on in
        let rules = carried m (rules_at b.tables s) in
        let now = carried m (rules_at h.seen s) in
        let seen = set h.seen s.0 now in
        let tables = set b.tables s.0 rules in
        let holds : (t : SwitchId) → HoldsBy (sides u d.stage t) (on t) (rules_at seen t) = λ t.
        elim (cases_eq t.0 s.0) [
          | inl same ↦ subst (λ (x : SwitchId). HoldsBy (sides u d.stage x) (on x) (rules_at seen x)) (sym (switch_is t s same))
              (subst (λ f. HoldsBy (sides u d.stage s) f (rules_at seen s)) (sym on_here)
              (subst (HoldsBy (sides u d.stage s) (with_key m.key c.b (h.on s))) (sym (get_or-set_same h.seen s.0 now [] seen_short))
              (holds_carried (sides u d.stage s) (h.on s) (rules_at h.seen s) m c.b (h.holds s) c.leads)))
          | inr differs ↦ subst (λ f. HoldsBy (sides u d.stage t) f (rules_at seen t)) (sym (box_away s (with_key m.key c.b (h.on s)) h.on t differs))
              (subst (HoldsBy (sides u d.stage t) (h.on t)) (sym (get_or-set_other h.seen s.0 t.0 now [] differs)) (h.holds t))
        ] in
        let like : (t : SwitchId) → (peer_at d t).is_dead ≡ false → rules_at seen t ≡ rules_at tables t = λ t living.
        elim (cases_eq t.0 s.0) [
          | inl same ↦ subst (λ (x : SwitchId). rules_at seen x ≡ rules_at tables x) (sym (switch_is t s same))
              (get_or-set_same h.seen s.0 now [] seen_short ∙ ap (carried m) (h.like s alive) ∙ sym (get_or-set_same b.tables s.0 rules [] tables_short))
          | inr differs ↦ get_or-set_other h.seen s.0 t.0 now [] differs ∙ h.like t living ∙ sym (get_or-set_other b.tables s.0 t.0 rules [] differs)
        ] in
        subst (λ r. Keeps u good old turnable sized d (record b { tables = set b.tables s.0 (carried_out_at r (rules_at b.tables s)); inbox = inbox })) (sym may.is)
        (relinked inbox b.outbox (λ t differs. box_away s (without i (b.inbox s)) b.inbox t differs) (λ t differs. refl) on (λ t differs. box_away s (with_key m.key c.b (h.on s)) h.on t differs)
        seen tables (length-set h.seen s.0 now) (length-set b.tables s.0 rules) like holds
        (beside_alive u good old turnable sized d.stage on s (peer_at d s) (inbox s) (b.outbox s) alive
        (subst (λ l. Link (sides u d.stage s) (named_at u d.stage s) (way_of d.stage) (on s) (peer_at d s) l (b.outbox s)) (sym (box_here s (without i (b.inbox s)) b.inbox))
        (subst (λ f. Link (sides u d.stage s) (named_at u d.stage s) (way_of d.stage) f (peer_at d s) (without i (b.inbox s)) (b.outbox s)) (sym on_here) c.link))))
      where
        seen_short : s.0 < length h.seen
        seen_short = let count = h.count in omega arith

        tables_short : s.0 < length b.tables
        tables_short = let count = h.counted in omega arith

    -- the boxes of the switch are others, and its table is as it is
    pub boxes_are : (messages : List Message) (bytes : List ℕ) → Beside u good old turnable sized d.stage h.on s (peer_at d s) messages bytes
        → Keeps u good old turnable sized d (record b { inbox = with_box s messages b.inbox; outbox = with_box s bytes b.outbox })
    boxes_are messages bytes link =
        relinked (with_box s messages b.inbox) (with_box s bytes b.outbox) (λ t differs. box_away s messages b.inbox t differs) (λ t differs. box_away s bytes b.outbox t differs) h.on (λ t differs. refl)
        h.seen b.tables refl refl h.like h.holds
        (subst (λ l. Beside u good old turnable sized d.stage h.on s (peer_at d s) l (with_box s bytes b.outbox s)) (sym (box_here s messages b.inbox))
        (subst (Beside u good old turnable sized d.stage h.on s (peer_at d s) messages) (sym (box_here s bytes b.outbox)) link))

    -- a dead switch gets another table
    pub repairs : (rules : List Rule) → (peer_at d s).is_dead ≡ true → Keeps u good old turnable sized d (record b { tables = set b.tables s.0 rules })
    repairs rules dead =
        relinked b.inbox b.outbox (λ t differs. refl) (λ t differs. refl) h.on (λ t differs. refl) h.seen (set b.tables s.0 rules) refl (length-set b.tables s.0 rules)
        (λ t living. elim (cases_eq t.0 s.0) [
          | inl same ↦ absurd (both_ways (peer_at d s).is_dead (sym (ap (λ (n : ℕ). (get_or d.peers n first_peer).is_dead) same) ∙ living) dead)
          | inr differs ↦ h.like t living ∙ sym (get_or-set_other b.tables s.0 t.0 rules [] differs)
        ]) h.holds (h.links s here)

    -- ---- a dead switch is opened again

    named_changed : (stage : Stage) (key : Key) → IsIn key (named_at u stage s) → is_changed (running_round u.rounds stage) s ≡ true
    named_changed (Settled k) key i = absurd i
    named_changed (Onward k) key i = by_round (round_after k u.rounds) key i
      where
        by_round : (round : List Change) (key : Key) → IsIn key (map key_named (changes_at s round)) → is_changed round s ≡ true
        by_round round key i = elim (cases_Bool (is_changed round s)) [
          | inl e ↦ e
          | inr e ↦ absurd (let j : IsIn key [] = subst (λ cs. IsIn key (map key_named cs)) (none_changed round s e) i in j)
        ]
    named_changed (Undone k) key i = by_round (round_after k u.rounds) key i
      where
        by_round : (round : List Change) (key : Key) → IsIn key (map key_named (changes_at s round)) → is_changed round s ≡ true
        by_round round key i = elim (cases_Bool (is_changed round s)) [
          | inl e ↦ e
          | inr e ↦ absurd (let j : IsIn key [] = subst (λ cs. IsIn key (map key_named cs)) (none_changed round s e) i in j)
        ]

    -- its table is one on the side of what is logged of it
    pub reopens_dead : HoldsBy (sides u d.stage s) (λ key. get_or d.in_force s.0 false) (rules_at b.tables s)
        → Keeps u good old turnable sized (record d { peers = set d.peers s.0 (reopened_peer (peer_at d s)); said = d.said ++ Send s hello ∷ [] }) (record b { inbox = with_box s [] b.inbox; outbox = with_box s [] b.outbox })
    reopens_dead holds_here =
        let q = reopened_peer (peer_at d s) in
        let flag = get_or d.in_force s.0 false in
        let on : SwitchId → Key → Bool = with_box s (λ (key : Key). flag) h.on in
        let on_here : on s ≡ (λ (key : Key). flag) = box_here s (λ (key : Key). flag) h.on in
        let rules = rules_at b.tables s in
        let seen = set h.seen s.0 rules in
        let link : Link (sides u d.stage s) (named_at u d.stage s) (way_of d.stage) (λ key. flag) q [] [] =
        reopened_from (sides u d.stage s) (named_at u d.stage s) (way_of d.stage) (λ key. flag) (peer_at d s) (λ none key i. (h.logs s here).done none (named_changed d.stage key i)) in
        record {
          on = on;
          seen = seen;
          like = λ t alive. elim (cases_eq t.0 s.0) [
            | inl same ↦ subst (λ (x : SwitchId). rules_at seen x ≡ rules_at b.tables x) (sym (switch_is t s same)) (get_or-set_same h.seen s.0 rules [] seen_short)
            | inr differs ↦ get_or-set_other h.seen s.0 t.0 rules [] differs ∙ h.like t (sym (ap (λ (r : PeerState). r.is_dead) (get_or-set_other d.peers s.0 t.0 q first_peer differs)) ∙ alive)
          ];
          holds = λ t. elim (cases_eq t.0 s.0) [
            | inl same ↦ subst (λ (x : SwitchId). HoldsBy (sides u d.stage x) (on x) (rules_at seen x)) (sym (switch_is t s same))
                (subst (λ f. HoldsBy (sides u d.stage s) f (rules_at seen s)) (sym on_here)
                (subst (HoldsBy (sides u d.stage s) (λ key. flag)) (sym (get_or-set_same h.seen s.0 rules [] seen_short)) holds_here))
            | inr differs ↦ subst (λ f. HoldsBy (sides u d.stage t) f (rules_at seen t)) (sym (box_away s (λ (key : Key). flag) h.on t differs))
                (subst (HoldsBy (sides u d.stage t) (h.on t)) (sym (get_or-set_other h.seen s.0 t.0 rules [] differs)) (h.holds t))
          ];
          count = length-set h.seen s.0 rules ∙ h.count;
          counted = h.counted;
          packets = h.packets;
          links = λ t within. elim (cases_eq t.0 s.0) [
            | inl same ↦ subst (λ (x : SwitchId). Beside u good old turnable sized d.stage on x (get_or (set d.peers s.0 q) x.0 first_peer) (with_box s [] b.inbox x) (with_box s [] b.outbox x)) (sym (switch_is t s same))
                (subst (λ r. Beside u good old turnable sized d.stage on s r (with_box s [] b.inbox s) (with_box s [] b.outbox s)) (sym (get_or-set_same d.peers s.0 q first_peer short))
                (beside_alive u good old turnable sized d.stage on s q (with_box s [] b.inbox s) (with_box s [] b.outbox s) refl
                (subst (λ l. Link (sides u d.stage s) (named_at u d.stage s) (way_of d.stage) (on s) q l (with_box s [] b.outbox s)) (sym (box_here s [] b.inbox))
                (subst (Link (sides u d.stage s) (named_at u d.stage s) (way_of d.stage) (on s) q []) (sym (box_here s [] b.outbox))
                (subst (λ f. Link (sides u d.stage s) (named_at u d.stage s) (way_of d.stage) f q [] []) (sym on_here) link)))))
            | inr differs ↦ subst (λ r. Beside u good old turnable sized d.stage on t r (with_box s [] b.inbox t) (with_box s [] b.outbox t)) (sym (get_or-set_other d.peers s.0 t.0 q first_peer differs))
                (subst (λ l. Beside u good old turnable sized d.stage on t (peer_at d t) l (with_box s [] b.outbox t)) (sym (box_away s [] b.inbox t differs))
                (subst (Beside u good old turnable sized d.stage on t (peer_at d t) (b.inbox t)) (sym (box_away s [] b.outbox t differs)) (record {
                  alive = λ alive. subst (λ f. Link (sides u d.stage t) (named_at u d.stage t) (way_of d.stage) f (peer_at d t) (b.inbox t) (b.outbox t)) (sym (box_away s (λ (key : Key). flag) h.on t differs)) ((h.links t within).alive alive);
                  gone = (h.links t within).gone;
                })))
          ];
          logs = λ t within. elim (cases_eq t.0 s.0) [
            | inl same ↦ subst (λ (x : SwitchId). LogsAt u good old turnable sized d.stage x (get_or (set d.peers s.0 q) x.0 first_peer) (get_or d.in_force x.0 false)) (sym (switch_is t s same))
                (subst (λ r. LogsAt u good old turnable sized d.stage s r flag) (sym (get_or-set_same d.peers s.0 q first_peer short)) (let l = h.logs s here in record { done = l.done; firm = l.firm }))
            | inr differs ↦ subst (λ r. LogsAt u good old turnable sized d.stage t r (get_or d.in_force t.0 false)) (sym (get_or-set_other d.peers s.0 t.0 q first_peer differs)) (h.logs t within)
          ];
          peers = length-set d.peers s.0 q ∙ h.peers;
          flags = h.flags;
          first = h.first;
          next = h.next;
          within = h.within;
          asks = λ t within x is. elim (cases_eq t.0 s.0) [
            | inl same ↦ (
                let now : get_or (set d.peers s.0 q) t.0 first_peer ≡ q = ap (λ (n : ℕ). get_or (set d.peers s.0 q) n first_peer) same ∙ get_or-set_same d.peers s.0 q first_peer short in
                subst (λ (y : SwitchId). IsAsked u good old turnable sized d.stage d.first y x) (sym (switch_is t s same)) (h.asks s here x (sym (ap (λ (r : PeerState). r.asked) now) ∙ is)))
            | inr differs ↦ h.asks t within x (sym (ap (λ (r : PeerState). r.asked) (get_or-set_other d.peers s.0 t.0 q first_peer differs)) ∙ is)
          ];
        }
      where
        seen_short : s.0 < length h.seen
        seen_short = let count = h.count in omega arith

        short : s.0 < length d.peers
        short = let count = h.peers in omega arith

    -- ---- a switch dies

    pub dies : Keeps u good old turnable sized (record d { peers = set d.peers s.0 (dead_peer (peer_at d s)) }) (record b { inbox = with_box s [] b.inbox; outbox = with_box s [] b.outbox })
    dies =
        let q = dead_peer (peer_at d s) in
        keeps_peer u good old turnable sized d b s q d.in_force d.said (with_box s [] b.inbox) (with_box s [] b.outbox) here h (λ t differs. box_away s [] b.inbox t differs) (λ t differs. box_away s [] b.outbox t differs)
        (λ alive. absurd (let f : true ≡ false = alive in cc))
        (beside_gone u good old turnable sized d.stage h.on s q (with_box s [] b.inbox s) (with_box s [] b.outbox s) refl (record { empty = box_here s [] b.inbox; channel = refl; behind = refl }))
        (λ x is. h.asks s here x is) h.flags (λ t differs. refl) (let l = h.logs s here in record { done = l.done; firm = l.firm })
