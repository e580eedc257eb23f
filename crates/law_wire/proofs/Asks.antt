-- One switch when the driver asks it for a round, hears its answer, or opens its session again.
use Rattle.std.proofs.Common.{◌≡◌, ℕ, ◌<◌, ◌^◌, Bool, true, false, cond, List, [], ◌∷◌, ◌++◌, map, refl, sym, ◌∙◌, subst, ap, inl, inr, append_assoc, append-nil, arith}
use Rattle.std.specs.Prelude.{Option, Some, None, is_some}
use Rattle.std.specs.List.{AllByRecursion}
use Rattle.std.proofs.lemmas.Bool.{cond-true, cond-false, cond_both, cases_Bool}
use Rattle.net_base.specs.Members.{IsIn}
use Rattle.net_base.proofs.MemberLaws.{each_append}
use Rattle.flow_rules.specs.declared.rules.Key.{Key}
use Rattle.flow_rules.specs.declared.rules.Rule.{Rule}
use Rattle.openflow10.specs.declared.FlowMod.{FlowMod}
use Rattle.openflow10.specs.declared.Message.{Message}
use Rattle.openflow10.specs.declared.Message.TheVariants.{Flow, BarrierRequest}
use Rattle.switch_session.specs.Fronts.{type_in}
use Rattle.switch_session.specs.Channels.{is_failed, is_open, after_request}
use Rattle.switch_session.specs.declared.Session.{Session}
use Rattle.switch_session.specs.declared.Session.TheVariants.{Waiting, Open, Failed}
use Rattle.two_way_driver.specs.PeerStates.{PeerState}
use Rattle.two_way_driver.specs.Peers.{queued_peer, asks, reopened_peer}
use Rattle.law_wire.proofs.Entries.{LeadsTo}
use Rattle.law_wire.proofs.Bytes.{Clear, clear_alone, no_replies, replies_in, Stream, stream_first}
use Rattle.law_wire.proofs.Link.{requests_in, requests-append, requests_flows, option_list, waiting_of, keys_in, AllLead, LeadsSome, Shape, ShapeBy, Link, Turned}

pub none_and_some : {A : Type 0} {B : Type 0} (o : Option A) → o ≡ None → is_some o ≡ true → B
none_and_some None e s = absurd (let f : false ≡ true = s in cc)
none_and_some (Some x) e s = absurd (let f : Some x ≡ None = e in cc)

pub both_empty : (xs ys : List ℕ) → [] ≡ xs ++ ys → (xs ≡ []) × (ys ≡ [])
both_empty [] ys e = (refl, sym e)
both_empty (x ∷ xs) ys e = absurd (let f : [] ≡ x ∷ (xs ++ ys) = e in cc)

pub asks_asked : (x : ℕ) (p : PeerState) → (asks x p).asked ≡ Some x
unfolding asks
asks_asked x p =
    let q : PeerState = record p { asked = Some x } in
    cond_both (is_open p.channel.session) (queued_peer x q) q (λ (r : PeerState). r.asked ≡ Some x)
    (λ e. cond_both (is_some p.channel.outstanding) (record q { behind = Some x }) (record q { channel = after_request [] x p.channel }) (λ (r : PeerState). r.asked ≡ Some x) (λ f. refl) (λ f. refl)) (λ e. refl)

pub asks_closed : (x : ℕ) (p : PeerState) → is_open p.channel.session ≡ false → asks x p ≡ record p { asked = Some x }
unfolding asks
asks_closed x p closed = let q : PeerState = record p { asked = Some x } in cond-false (is_open p.channel.session) (queued_peer x q) q closed

pub asks_dead : (x : ℕ) (p : PeerState) → (asks x p).is_dead ≡ p.is_dead
unfolding asks
asks_dead x p =
    let q : PeerState = record p { asked = Some x } in
    cond_both (is_open p.channel.session) (queued_peer x q) q (λ (r : PeerState). r.is_dead ≡ p.is_dead)
    (λ e. cond_both (is_some p.channel.outstanding) (record q { behind = Some x }) (record q { channel = after_request [] x p.channel }) (λ (r : PeerState). r.is_dead ≡ p.is_dead) (λ f. refl) (λ f. refl)) (λ e. refl)

-- a switch with which nothing is under way
pub record Idle (p : PeerState) (inbox : List Message) (outbox : List ℕ) : Type 0 where
  pub empty : inbox ≡ []
  pub outstanding : p.channel.outstanding ≡ None
  pub behind : p.behind ≡ None
  pub live : is_failed p.channel.session ≡ false → (messages : List (List ℕ)) × Stream p.channel.unread outbox messages × (replies_in messages ≡ [])

module _ (side : Bool → List Rule) (named : List Key) where
  -- a switch of which nothing is asked is idle
  pub idle_of : (g : Bool) (on : Key → Bool) (p : PeerState) (inbox : List Message) (outbox : List ℕ) → Link side named g on p inbox outbox → p.asked ≡ None → Idle p inbox outbox
  idle_of g on p inbox outbox l none =
      let r = l.rest none in
      record {
        empty = r.empty;
        outstanding = r.outstanding;
        behind = r.behind;
        live = λ going.
            let live = l.live going in
            let none_waits : waiting_of p ≡ [] =
            ap (λ (o : Option ℕ). option_list o ++ option_list p.behind) r.outstanding ∙ ap option_list r.behind in
            (live.messages, live.stream, (both_empty (replies_in live.messages) (requests_in inbox) (sym none_waits ∙ live.order)).0);
      }

  -- an idle switch of which nothing is asked, where all is done
  pub link_idle : (g : Bool) (on : Key → Bool) (p : PeerState) (inbox : List Message) (outbox : List ℕ) → Idle p inbox outbox → p.asked ≡ None → ((k : Key) → IsIn k named → on k ≡ g)
      → Link side named g on p inbox outbox
  link_idle g on p inbox outbox i none done = record {
    rest = λ _. record { empty = i.empty; done = done; outstanding = i.outstanding; behind = i.behind };
    alone = λ _. i.behind;
    leads = subst (AllByRecursion (LeadsSome side named)) (sym i.empty) tt;
    live = λ going.
        let live = i.live going in
        record {
          messages = live.0;
          stream = live.1;
          order = ap (λ (o : Option ℕ). option_list o ++ option_list p.behind) i.outstanding ∙ ap option_list i.behind
              ∙ sym (ap (λ xs. xs ++ requests_in inbox) live.2 ∙ ap requests_in i.empty);
          range = subst (λ l. AllByRecursion (λ x. x < 2 ^ 32) (requests_in l)) (sym i.empty) tt;
          shape = λ some. none_and_some p.asked none some;
        };
  }

  leads_all : (g : Bool) (flows : List FlowMod) → AllLead side named g flows → AllByRecursion (LeadsSome side named) (map Flow flows)
  leads_all g [] all = tt
  leads_all g (m ∷ flows) all = ((g, all.0), leads_all g flows all.1)

  request_row : (flows : List FlowMod) (x : ℕ) → requests_in (map Flow flows ++ BarrierRequest x ∷ []) ≡ x ∷ []
  request_row flows x = requests-append (map Flow flows) (BarrierRequest x ∷ []) ∙ ap (λ l. l ++ x ∷ []) (requests_flows flows)

  -- an open session on which all messages were just sent, and nothing else is under way
  pub link_asked : (g : Bool) (on : Key → Bool) (p : PeerState) (x : ℕ) (flows : List FlowMod) (inbox : List Message) (outbox : List ℕ)
      → p.asked ≡ Some x → p.channel.session ≡ Open → p.channel.outstanding ≡ Some x → p.behind ≡ None → x < 2 ^ 32
      → (messages : List (List ℕ)) → Stream p.channel.unread outbox messages → replies_in messages ≡ []
      → inbox ≡ map Flow flows ++ BarrierRequest x ∷ [] → AllLead side named g flows → ((k : Key) → IsIn k named → IsIn k (keys_in flows))
      → Link side named g on p inbox outbox
  link_asked g on p x flows inbox outbox asked open_now outstanding behind ok messages stream no_reply is lead all = record {
    rest = λ none. absurd (let f : Some x ≡ None = sym asked ∙ none in cc);
    alone = λ _. behind;
    leads = subst (AllByRecursion (LeadsSome side named)) (sym is) (each_append (LeadsSome side named) (map Flow flows) (BarrierRequest x ∷ []) (leads_all g flows lead) (tt, tt));
    live = λ _. record {
      messages = messages;
      stream = stream;
      order = ap (λ (o : Option ℕ). option_list o ++ option_list p.behind) outstanding ∙ ap (λ (o : Option ℕ). x ∷ option_list o) behind
          ∙ sym (ap (λ xs. xs ++ requests_in inbox) no_reply ∙ ap requests_in is ∙ request_row flows x);
      range = subst (λ l. AllByRecursion (λ y. y < 2 ^ 32) l) (sym (ap requests_in is ∙ request_row flows x)) (ok, tt);
      shape = λ some. subst (λ (s : Session). ShapeBy side named s g on p inbox messages) (sym open_now) (
        ap is_some outstanding,
        inl (record { flows = flows; xid = x; are = is; lead = lead; done = λ _ k i. inl (all k i) }),
      );
    };
  }

  -- a switch whose session isn't open is asked: nothing is sent now
  pub link_closed : (g : Bool) (on : Key → Bool) (p : PeerState) (x : ℕ) (inbox : List Message) (outbox : List ℕ) → p.asked ≡ Some x → is_open p.channel.session ≡ false → Idle p inbox outbox
      → Link side named g on p inbox outbox
  link_closed g on p x inbox outbox asked closed i = record {
    rest = λ none. absurd (let f : Some x ≡ None = sym asked ∙ none in cc);
    alone = λ _. i.behind;
    leads = subst (AllByRecursion (LeadsSome side named)) (sym i.empty) tt;
    live = λ going.
        let live = i.live going in
        record {
          messages = live.0;
          stream = live.1;
          order = ap (λ (o : Option ℕ). option_list o ++ option_list p.behind) i.outstanding ∙ ap option_list i.behind
              ∙ sym (ap (λ xs. xs ++ requests_in inbox) live.2 ∙ ap requests_in i.empty);
          range = subst (λ l. AllByRecursion (λ y. y < 2 ^ 32) (requests_in l)) (sym i.empty) tt;
          shape = λ some. by_session p.channel.session closed live.0;
        };
  }
    where
      by_session : (s : Session) → is_open s ≡ false → (messages : List (List ℕ)) → ShapeBy side named s g on p inbox messages
      by_session Waiting e messages = (i.empty, i.outstanding, i.behind)
      by_session Open e messages = absurd (let f : true ≡ false = e in cc)
      by_session (Failed c) e messages = tt

  -- ---- an idle switch is asked for a round

  asks_open : (x : ℕ) (p : PeerState) → is_open p.channel.session ≡ true → p.channel.outstanding ≡ None → asks x p ≡ record p { asked = Some x; channel = after_request [] x p.channel }
  unfolding asks
  asks_open x p open_now none =
      let q : PeerState = record p { asked = Some x } in
      let r : PeerState = record q { channel = after_request [] x p.channel } in
      cond-true (is_open p.channel.session) (queued_peer x q) q open_now ∙ ap (λ (o : Option ℕ). cond (is_some o) (record q { behind = Some x }) r) none

  open_is : (s : Session) → is_open s ≡ true → s ≡ Open
  open_is Waiting e = absurd (let f : false ≡ true = e in cc)
  open_is Open e = refl
  open_is (Failed c) e = absurd (let f : false ≡ true = e in cc)

  open_going : (s : Session) → is_open s ≡ true → is_failed s ≡ false
  open_going Waiting e = refl
  open_going Open e = refl
  open_going (Failed c) e = absurd (let f : false ≡ true = e in cc)

  -- what is sent: the messages of the switch's changes and one barrier request, if its session is open
  pub fresh_link : (g : Bool) (on : Key → Bool) (p : PeerState) (x : ℕ) (flows : List FlowMod) (inbox : List Message) (outbox : List ℕ) → x < 2 ^ 32 → Idle p inbox outbox
      → AllLead side named g flows → ((k : Key) → IsIn k named → IsIn k (keys_in flows))
      → Link side named g on (asks x p) (inbox ++ cond (is_open p.channel.session) (map Flow flows ++ BarrierRequest x ∷ []) []) outbox
  fresh_link g on p x flows inbox outbox ok i lead all =
      let sent = map Flow flows ++ BarrierRequest x ∷ [] in
      elim (cases_Bool (is_open p.channel.session)) [
        | inl open_now ↦ (
            let q : PeerState = record p { asked = Some x; channel = after_request [] x p.channel } in
            let live = i.live (open_going p.channel.session open_now) in
            let row : inbox ++ cond (is_open p.channel.session) sent [] ≡ sent = ap (λ l. l ++ cond (is_open p.channel.session) sent []) i.empty ∙ cond-true (is_open p.channel.session) sent [] open_now in
            subst (λ r. Link side named g on r (inbox ++ cond (is_open p.channel.session) sent []) outbox) (sym (asks_open x p open_now i.outstanding))
            (link_asked g on q x flows (inbox ++ cond (is_open p.channel.session) sent []) outbox refl (open_is p.channel.session open_now) refl i.behind ok live.0 live.1 live.2 row lead all))
        | inr closed ↦ (
            let q : PeerState = record p { asked = Some x } in
            let row : inbox ++ cond (is_open p.channel.session) sent [] ≡ inbox = ap (λ l. inbox ++ l) (cond-false (is_open p.channel.session) sent [] closed) ∙ append-nil inbox in
            subst (λ r. Link side named g on r (inbox ++ cond (is_open p.channel.session) sent []) outbox) (sym (asks_closed x p closed))
            (subst (λ l. Link side named g on q l outbox) (sym row) (link_closed g on q x inbox outbox refl closed (record { empty = i.empty; outstanding = i.outstanding; behind = i.behind; live = i.live }))))
      ]

  -- ---- a switch that is asked is asked for what takes the round back

  asks_behind_is : (x : ℕ) (p : PeerState) → is_open p.channel.session ≡ true → is_some p.channel.outstanding ≡ true → asks x p ≡ record p { asked = Some x; behind = Some x }
  unfolding asks
  asks_behind_is x p open_now some =
      let q : PeerState = record p { asked = Some x } in
      cond-true (is_open p.channel.session) (queued_peer x q) q open_now
      ∙ cond-true (is_some p.channel.outstanding) (record q { behind = Some x }) (record q { channel = after_request [] x p.channel }) some

  turned_shape : (on : Key → Bool) (x : ℕ) (flows : List FlowMod) (inbox : List Message) (messages : List (List ℕ)) → AllLead side named false flows → ((k : Key) → IsIn k named → IsIn k (keys_in flows))
      → (Turned side named true inbox → ⊥) → Shape side named true on inbox messages → Shape side named false on (inbox ++ (map Flow flows ++ BarrierRequest x ∷ [])) messages
  turned_shape on x flows inbox messages lead all none (inl a) =
      inr (inr (record {
        old = a.flows;
        first = a.xid;
        flows = flows;
        xid = x;
        are = ap (λ l. l ++ (map Flow flows ++ BarrierRequest x ∷ [])) a.are ∙ append_assoc (map Flow a.flows) (BarrierRequest a.xid ∷ []) (map Flow flows ++ BarrierRequest x ∷ []);
        old_lead = some_lead a.flows a.lead;
        lead = lead;
        all = all;
      }))
    where
      some_lead : (ms : List FlowMod) → AllLead side named true ms → AllByRecursion (λ m. (b : Bool) × LeadsTo (side b) m) ms
      some_lead [] h = tt
      some_lead (m ∷ ms) h = ((true, h.0), some_lead ms h.1)
  turned_shape on x flows inbox messages lead all none (inr (inl d)) =
      inl (record { flows = flows; xid = x; are = ap (λ l. l ++ (map Flow flows ++ BarrierRequest x ∷ [])) d.empty; lead = lead; done = λ _ k i. inl (all k i) })
  turned_shape on x flows inbox messages lead all none (inr (inr t)) = absurd (none t)

  two_wait : (inbox : List Message) (xs ys : List ℕ) (x : ℕ) → (t : Turned side named true inbox) → xs ≡ x ∷ [] → xs ≡ ys ++ requests_in inbox → ⊥
  two_wait inbox xs ys x t one row =
      let two : requests_in inbox ≡ t.first ∷ t.xid ∷ [] = ap requests_in t.are ∙ requests-append (map Flow t.old) (BarrierRequest t.first ∷ (map Flow t.flows ++ BarrierRequest t.xid ∷ []))
      ∙ ap (λ l. l ++ t.first ∷ requests_in (map Flow t.flows ++ BarrierRequest t.xid ∷ [])) (requests_flows t.old) ∙ ap (λ l. t.first ∷ l) (request_row t.flows t.xid) in
      go ys (sym one ∙ row ∙ ap (λ l. ys ++ l) two)
    where
      go : (ys : List ℕ) → x ∷ [] ≡ ys ++ t.first ∷ t.xid ∷ [] → ⊥
      go [] e = absurd (let f : x ∷ [] ≡ t.first ∷ t.xid ∷ [] = e in let g : [] ≡ t.xid ∷ [] = cc in cc)
      go (y ∷ ys) e = absurd (let f : x ∷ [] ≡ y ∷ (ys ++ t.first ∷ t.xid ∷ []) = e in let g : [] ≡ ys ++ t.first ∷ t.xid ∷ [] = cc in nothing ys g)
        where
          nothing : (zs : List ℕ) → [] ≡ zs ++ t.first ∷ t.xid ∷ [] → ⊥
          nothing [] e2 = cc
          nothing (z ∷ zs) e2 = cc

  pub turned_link : (on : Key → Bool) (p : PeerState) (x : ℕ) (flows : List FlowMod) (inbox : List Message) (outbox : List ℕ) → x < 2 ^ 32 → Link side named true on p inbox outbox
      → is_some p.asked ≡ true → AllLead side named false flows → ((k : Key) → IsIn k named → IsIn k (keys_in flows))
      → Link side named false on (asks x p) (inbox ++ cond (is_open p.channel.session) (map Flow flows ++ BarrierRequest x ∷ []) []) outbox
  turned_link on p x flows inbox outbox ok l asked lead all =
      let sent = map Flow flows ++ BarrierRequest x ∷ [] in
      elim (cases_Bool (is_open p.channel.session)) [
        | inl open_now ↦ (
            let live = l.live (open_going p.channel.session open_now) in
            let is = open_is p.channel.session open_now in
            let (some, shape) = let s : ShapeBy side named Open true on p inbox live.messages = subst (λ (s : Session). ShapeBy side named s true on p inbox live.messages) is (live.shape asked) in s in
            let alone : p.behind ≡ None = l.alone refl in
            let q : PeerState = record p { asked = Some x; behind = Some x } in
            let row : inbox ++ cond (is_open p.channel.session) sent [] ≡ inbox ++ sent = ap (λ l. inbox ++ l) (cond-true (is_open p.channel.session) sent [] open_now) in
            let requests : requests_in (inbox ++ sent) ≡ requests_in inbox ++ x ∷ [] = requests-append inbox sent ∙ ap (λ l. requests_in inbox ++ l) (request_row flows x) in
            subst (λ r. Link side named false on r (inbox ++ cond (is_open p.channel.session) sent []) outbox) (sym (asks_behind_is x p open_now some))
            (subst (λ m. Link side named false on q m outbox) (sym row) (record {
              rest = λ none. absurd (let f : Some x ≡ None = none in cc);
              alone = λ e. absurd (let f : false ≡ true = e in cc);
              leads = each_append (LeadsSome side named) inbox sent l.leads (each_append (LeadsSome side named) (map Flow flows) (BarrierRequest x ∷ []) (leads_all false flows lead) (tt, tt));
              live = λ _. record {
                messages = live.messages;
                stream = live.stream;
                order = ap (λ (xs : List ℕ). xs ++ x ∷ []) (sym (append-nil (option_list p.channel.outstanding)) ∙ ap (λ (o : Option ℕ). option_list p.channel.outstanding ++ option_list o) (sym alone) ∙ live.order)
                    ∙ append_assoc (replies_in live.messages) (requests_in inbox) (x ∷ []) ∙ ap (λ xs. replies_in live.messages ++ xs) (sym requests);
                range = subst (AllByRecursion (λ y. y < 2 ^ 32)) (sym requests) (each_append (λ y. y < 2 ^ 32) (requests_in inbox) (x ∷ []) live.range (ok, tt));
                shape = λ _. subst (λ (s : Session). ShapeBy side named s false on q (inbox ++ sent) live.messages) (sym is)
                    (some, turned_shape on x flows inbox live.messages lead all (not_two live.messages live.order alone some) shape);
              };
            })))
        | inr closed ↦ (
            let q : PeerState = record p { asked = Some x } in
            let row : inbox ++ cond (is_open p.channel.session) sent [] ≡ inbox = ap (λ l. inbox ++ l) (cond-false (is_open p.channel.session) sent [] closed) ∙ append-nil inbox in
            subst (λ r. Link side named false on r (inbox ++ cond (is_open p.channel.session) sent []) outbox) (sym (asks_closed x p closed))
            (subst (λ m. Link side named false on q m outbox) (sym row) (record {
              rest = λ none. absurd (let f : Some x ≡ None = none in cc);
              alone = λ e. absurd (let f : false ≡ true = e in cc);
              leads = l.leads;
              live = λ going.
                  let live = l.live going in
                  record {
                    messages = live.messages;
                    stream = live.stream;
                    order = live.order;
                    range = live.range;
                    shape = λ _. by_session p.channel.session closed live.messages (live.shape asked);
                  };
            })))
      ]
    where
      by_session : (s : Session) → is_open s ≡ false → (messages : List (List ℕ)) → ShapeBy side named s true on p inbox messages → ShapeBy side named s false on (record p { asked = Some x }) inbox messages
      by_session Waiting e messages h = h
      by_session Open e messages h = absurd (let f : true ≡ false = e in cc)
      by_session (Failed c) e messages h = tt

      not_two : (messages : List (List ℕ)) → waiting_of p ≡ replies_in messages ++ requests_in inbox → p.behind ≡ None → is_some p.channel.outstanding ≡ true → Turned side named true inbox → ⊥
      not_two messages row alone some t = go p.channel.outstanding refl some
        where
          go : (o : Option ℕ) → p.channel.outstanding ≡ o → is_some o ≡ true → ⊥
          go None e s = let f : false ≡ true = s in cc
          go (Some y) e s =
              two_wait inbox (waiting_of p) (replies_in messages) y t (ap (λ (o : Option ℕ). option_list o ++ option_list p.behind) e ∙ ap (λ (o : Option ℕ). y ∷ option_list o) alone) row

  -- ---- a session is opened again

  pub reopened_from : (g : Bool) (on : Key → Bool) (p : PeerState) → (p.asked ≡ None → (k : Key) → IsIn k named → on k ≡ g) → Link side named g on (reopened_peer p) [] []
  reopened_from g on p done = record {
    rest = λ none. record { empty = refl; done = done none; outstanding = refl; behind = refl };
    alone = λ _. refl;
    leads = tt;
    live = λ _. record { messages = []; stream = stream_first; order = refl; range = tt; shape = λ _. (refl, refl, refl) };
  }

  pub reopened_link : (g : Bool) (on : Key → Bool) (p : PeerState) (inbox : List Message) (outbox : List ℕ) → Link side named g on p inbox outbox → Link side named g on (reopened_peer p) [] []
  reopened_link g on p inbox outbox l = reopened_from g on p (λ none. (l.rest none).done)

  -- ---- an answer

  -- behind the answered request stands that of the turning
  pub more_link : (g : Bool) (on : Key → Bool) (p : PeerState) (x : ℕ) (inbox : List Message) (outbox reply : List ℕ) (messages : List (List ℕ)) → (g ≡ true → p.behind ≡ None)
      → is_some p.asked ≡ true → p.channel.session ≡ Open → p.behind ≡ Some x → type_in reply ≡ 19 → AllByRecursion (LeadsSome side named) inbox → Shape side named g on inbox (reply ∷ messages)
      → Stream p.channel.unread outbox messages → option_list p.behind ≡ replies_in messages ++ requests_in inbox → AllByRecursion (λ y. y < 2 ^ 32) (requests_in inbox)
      → Link side named g on (record p { channel = after_request [] x p.channel; behind = None }) inbox outbox
  more_link g on p x inbox outbox reply messages alone asked open_now more is_reply leads shape stream order range =
      let q : PeerState = record p { channel = after_request [] x p.channel; behind = None } in
      record {
        rest = λ none. none_and_some p.asked none asked;
        alone = λ _. refl;
        leads = leads;
        live = λ _. record {
          messages = messages;
          stream = stream;
          order = ap option_list (sym more) ∙ order;
          range = range;
          shape = λ _. subst (λ (s : Session). ShapeBy side named s g on q inbox messages) (sym open_now) (refl, less shape);
        };
      }
    where
      less : Shape side named g on inbox (reply ∷ messages) → Shape side named g on inbox messages
      less (inl a) = inl (record { flows = a.flows; xid = a.xid; are = a.are; lead = a.lead; done = λ none. a.done ((λ e. let f : type_in reply ≡ 19 = is_reply in omega arith), none) })
      less (inr (inl d)) = inr (inl (record { empty = d.empty; done = λ clear. d.done ((λ e. absurd (let f : type_in reply ≡ 19 = is_reply in omega arith)), clear) }))
      less (inr (inr t)) = inr (inr t)

  -- it was the last one: the switch has dealt with all
  pub last_idle : (g : Bool) (on : Key → Bool) (p : PeerState) (inbox : List Message) (outbox reply : List ℕ) (messages : List (List ℕ)) → p.behind ≡ None → p.channel.outstanding ≡ None
      → type_in reply ≡ 19 → Shape side named g on inbox (reply ∷ messages) → Stream p.channel.unread outbox messages → option_list p.behind ≡ replies_in messages ++ requests_in inbox
      → Idle (record p { asked = None }) inbox outbox × ((k : Key) → IsIn k named → on k ≡ g)
  last_idle g on p inbox outbox reply messages last gone is_reply shape stream order =
      let (no_reply, no_request) = both_empty (replies_in messages) (requests_in inbox) (ap option_list (sym last) ∙ order) in
      let dealt = settled shape no_request in (
        record { empty = dealt.0; outstanding = gone; behind = last; live = λ _. (messages, stream, no_reply) },
        dealt.1 ((λ e. absurd (let f : type_in reply ≡ 19 = is_reply in omega arith)), clear_alone messages (no_replies messages no_reply)),
      )
    where
      settled : Shape side named g on inbox (reply ∷ messages) → requests_in inbox ≡ [] → (inbox ≡ []) × (Clear (reply ∷ messages) → (k : Key) → IsIn k named → on k ≡ g)
      settled (inl a) none = absurd (let f : a.xid ∷ [] ≡ [] = sym (ap requests_in a.are ∙ request_row a.flows a.xid) ∙ none in cc)
      settled (inr (inl d)) none = (d.empty, d.done)
      settled (inr (inr t)) none =
          absurd (let f : t.first ∷ t.xid ∷ [] ≡ [] = sym (ap requests_in t.are ∙ requests-append (map Flow t.old) (BarrierRequest t.first ∷ (map Flow t.flows ++ BarrierRequest t.xid ∷ []))
          ∙ ap (λ l. l ++ t.first ∷ requests_in (map Flow t.flows ++ BarrierRequest t.xid ∷ [])) (requests_flows t.old) ∙ ap (λ l. t.first ∷ l) (request_row t.flows t.xid)) ∙ none in cc)
