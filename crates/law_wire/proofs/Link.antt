-- One switch: what stands in its boxes, beside what the driver keeps of it and the entries of its table.
use Rattle.std.proofs.Common.{◌≡◌, ◌≢◌, ◌⊎◌, ℕ, ◌<◌, ◌^◌, Bool, true, false, List, [], ◌∷◌, ◌++◌, map, refl, sym, ◌∙◌, subst, ap, inl, inr, append_assoc, arith}
use Rattle.std.specs.Prelude.{Option, Some, None, is_some}
use Rattle.std.specs.List.{AllByRecursion}
use Rattle.net_base.specs.Members.{IsIn}
use Rattle.net_base.proofs.MemberLaws.{each_append, each_first, each_last}
use Rattle.flow_rules.specs.declared.rules.Key.{Key}
use Rattle.flow_rules.specs.declared.rules.Rule.{Rule}
use Rattle.flow_rules.proofs.KeyLaws.{cases_key}
use Rattle.openflow10.specs.Messages.{wire_text}
use Rattle.openflow10.specs.declared.FlowMod.{FlowMod}
use Rattle.openflow10.specs.declared.Message.{Message}
use Rattle.openflow10.specs.declared.Message.TheVariants.{Flow, BarrierRequest, BarrierReply}
use Rattle.switch_session.specs.Fronts.{type_in}
use Rattle.switch_session.specs.Channels.{is_failed}
use Rattle.switch_session.specs.declared.Session.{Session}
use Rattle.switch_session.specs.declared.Session.TheVariants.{Waiting, Open, Failed}
use Rattle.two_way_driver.specs.PeerStates.{PeerState}
use Rattle.law_wire.specs.Network.{IsFlow, IsError, MaySay}
use Rattle.law_wire.proofs.Entries.{LeadsTo, with_key, with_key-same, with_key-other}
use Rattle.law_wire.proofs.Bytes.{NoError, Clear, replies_in, replies_push_reply, replies_push_other, clear_behind_reply, clear_before, error_before, Stream, stream_push, reply_whole, reply_type, reply_xid}

-- ---- requests

-- the xids of the barrier requests
abbrev pub requests_in : List Message → List ℕ
requests_in [] = []
requests_in (Flow m ∷ messages) = requests_in messages
requests_in (BarrierRequest x ∷ messages) = x ∷ requests_in messages
requests_in (BarrierReply x ∷ messages) = requests_in messages

pub requests-append : (xs ys : List Message) → requests_in (xs ++ ys) ≡ requests_in xs ++ requests_in ys
requests-append [] ys = refl
requests-append (Flow m ∷ xs) ys = requests-append xs ys
requests-append (BarrierRequest x ∷ xs) ys = ap (λ l. x ∷ l) (requests-append xs ys)
requests-append (BarrierReply x ∷ xs) ys = requests-append xs ys

pub requests_flows : (ms : List FlowMod) → requests_in (map Flow ms) ≡ []
requests_flows [] = refl
requests_flows (m ∷ ms) = requests_flows ms

abbrev pub option_list : Option ℕ → List ℕ
option_list None = []
option_list (Some x) = x ∷ []

-- the barrier requests whose answers the driver waits for on this session, in order
abbrev pub waiting_of : PeerState → List ℕ
waiting_of p = option_list p.channel.outstanding ++ option_list p.behind

-- ---- flow messages

-- a list of messages with a flow message, before which there are flow messages only
pub record Holding (messages : List Message) (m : FlowMod) (rest : List Message) : Type 0 where
  pub before : List Message
  pub behind : List Message
  pub are : messages ≡ before ++ Flow m ∷ behind
  pub free : AllByRecursion IsFlow before
  pub rest_is : rest ≡ before ++ behind

-- it is one of those before the first barrier request
pub record Cut (flows : List FlowMod) (m : FlowMod) (tail rest : List Message) : Type 0 where
  pub front : List FlowMod
  pub back : List FlowMod
  pub are : flows ≡ front ++ m ∷ back
  pub rest_is : rest ≡ map Flow (front ++ back) ++ tail

pub nothing_held : (m : FlowMod) (rest : List Message) → Holding [] m rest → ⊥
nothing_held m rest h = go h.before h.are
  where
    go : (before : List Message) → [] ≡ before ++ Flow m ∷ h.behind → ⊥
    go [] e = cc
    go (x ∷ before) e = cc

cut_at : (flows : List FlowMod) (x : ℕ) (tail before behind : List Message) (m : FlowMod) → map Flow flows ++ BarrierRequest x ∷ tail ≡ before ++ Flow m ∷ behind
    → AllByRecursion IsFlow before → Cut flows m (BarrierRequest x ∷ tail) (before ++ behind)
cut_at [] x tail [] behind m e free = absurd (let f : BarrierRequest x ∷ tail ≡ Flow m ∷ behind = e in cc)
cut_at [] x tail (b ∷ before) behind m e free =
    absurd (let f : BarrierRequest x ∷ tail ≡ b ∷ (before ++ Flow m ∷ behind) = e in let g : BarrierRequest x ≡ b = cc in subst IsFlow (sym g) free.0)
cut_at (f ∷ flows) x tail [] behind m e free =
    let g : Flow f ∷ (map Flow flows ++ BarrierRequest x ∷ tail) ≡ Flow m ∷ behind = e in
    let h : f ≡ m = cc in
    let r : map Flow flows ++ BarrierRequest x ∷ tail ≡ behind = cc in
    record { front = []; back = flows; are = ap (λ y. y ∷ flows) h; rest_is = sym r }
cut_at (f ∷ flows) x tail (b ∷ before) behind m e free =
    let g : Flow f ∷ (map Flow flows ++ BarrierRequest x ∷ tail) ≡ b ∷ (before ++ Flow m ∷ behind) = e in
    let h : Flow f ≡ b = cc in
    let r : map Flow flows ++ BarrierRequest x ∷ tail ≡ before ++ Flow m ∷ behind = cc in
    let c = cut_at flows x tail before behind m r free.1 in
    record { front = f ∷ c.front; back = c.back; are = ap (λ l. f ∷ l) c.are; rest_is = ap (λ y. y ∷ (before ++ behind)) (sym h) ∙ ap (λ l. Flow f ∷ l) c.rest_is }

pub cut_held : (flows : List FlowMod) (x : ℕ) (tail messages rest : List Message) (m : FlowMod) → messages ≡ map Flow flows ++ BarrierRequest x ∷ tail → Holding messages m rest
    → Cut flows m (BarrierRequest x ∷ tail) rest
cut_held flows x tail messages rest m is h =
    subst (Cut flows m (BarrierRequest x ∷ tail)) (sym h.rest_is) (cut_at flows x tail h.before h.behind m (sym is ∙ h.are) h.free)

requests_held : (messages rest : List Message) (m : FlowMod) → Holding messages m rest → requests_in rest ≡ requests_in messages
requests_held messages rest m h =
    ap requests_in h.rest_is ∙ requests-append h.before h.behind ∙ sym (requests-append h.before (Flow m ∷ h.behind)) ∙ ap requests_in (sym h.are)

-- ---- a switch

abbrev pub keys_in : List FlowMod → List Key
keys_in flows = map (λ (m : FlowMod). m.key) flows

module _ (side : Bool → List Rule) (named : List Key) where
  -- a flow message leads to the one or the other table
  abbrev pub LeadsSome : Message → Type 0
  LeadsSome (Flow m) = (b : Bool) × LeadsTo (side b) m
  LeadsSome (BarrierRequest x) = Unit {0}
  LeadsSome (BarrierReply x) = Unit {0}

  abbrev pub AllLead : Bool → List FlowMod → Type 0
  AllLead g flows = AllByRecursion (λ m. LeadsTo (side g) m) flows

  -- the last barrier request stands in the inbox, behind the messages that lead where the round goes: each entry that isn't there is so
  pub record Asked (g : Bool) (on : Key → Bool) (inbox : List Message) (messages : List (List ℕ)) : Type 0 where
    pub flows : List FlowMod
    pub xid : ℕ
    pub are : inbox ≡ map Flow flows ++ BarrierRequest xid ∷ []
    pub lead : AllLead g flows
    pub done : NoError messages → (k : Key) → IsIn k named → IsIn k (keys_in flows) ⊎ (on k ≡ g)

  -- it is answered: each entry is where the round goes, if no error came before
  pub record Dealt (g : Bool) (on : Key → Bool) (inbox : List Message) (messages : List (List ℕ)) : Type 0 where
    pub empty : inbox ≡ []
    pub done : Clear messages → (k : Key) → IsIn k named → on k ≡ g

  -- the barrier request of the round itself stands there, and behind it all that takes the round back
  pub record Turned (g : Bool) (inbox : List Message) : Type 0 where
    pub old : List FlowMod
    pub first : ℕ
    pub flows : List FlowMod
    pub xid : ℕ
    pub are : inbox ≡ map Flow old ++ BarrierRequest first ∷ (map Flow flows ++ BarrierRequest xid ∷ [])
    pub old_lead : AllByRecursion (λ m. (b : Bool) × LeadsTo (side b) m) old
    pub lead : AllLead g flows
    pub all : (k : Key) → IsIn k named → IsIn k (keys_in flows)

  abbrev pub Shape : Bool → (Key → Bool) → List Message → List (List ℕ) → Type 0
  Shape g on inbox messages = Asked g on inbox messages ⊎ (Dealt g on inbox messages ⊎ Turned g inbox)

  -- a switch that is waited for: nothing was sent on a session that waits for HELLO
  abbrev pub ShapeBy : Session → Bool → (Key → Bool) → PeerState → List Message → List (List ℕ) → Type 0
  ShapeBy Waiting g on p inbox messages = (inbox ≡ []) × (p.channel.outstanding ≡ None) × (p.behind ≡ None)
  ShapeBy Open g on p inbox messages = (is_some p.channel.outstanding ≡ true) × Shape g on inbox messages
  ShapeBy (Failed c) g on p inbox messages = Unit {0}

  -- a session that hasn't failed: replies on the way and requests in the inbox are those that the driver waits for
  pub record Live (g : Bool) (on : Key → Bool) (p : PeerState) (inbox : List Message) (outbox : List ℕ) : Type 0 where
    pub messages : List (List ℕ)
    pub stream : Stream p.channel.unread outbox messages
    pub order : waiting_of p ≡ replies_in messages ++ requests_in inbox
    pub range : AllByRecursion (λ x. x < 2 ^ 32) (requests_in inbox)
    pub shape : is_some p.asked ≡ true → ShapeBy p.channel.session g on p inbox messages

  -- nothing is asked of the switch: it has dealt with all
  pub record Resting (g : Bool) (on : Key → Bool) (p : PeerState) (inbox : List Message) : Type 0 where
    pub empty : inbox ≡ []
    pub done : (k : Key) → IsIn k named → on k ≡ g
    pub outstanding : p.channel.outstanding ≡ None
    pub behind : p.behind ≡ None

  pub record Link (g : Bool) (on : Key → Bool) (p : PeerState) (inbox : List Message) (outbox : List ℕ) : Type 0 where
    pub rest : p.asked ≡ None → Resting g on p inbox
    pub alone : g ≡ true → p.behind ≡ None
    pub leads : AllByRecursion LeadsSome inbox
    pub live : is_failed p.channel.session ≡ false → Live g on p inbox outbox

  asked_some : (p : PeerState) → ¬ (p.asked ≡ None) → is_some p.asked ≡ true
  asked_some p n = go p.asked refl
    where
      go : (o : Option ℕ) → p.asked ≡ o → is_some p.asked ≡ true
      go None e = absurd (n e)
      go (Some x) e = ap is_some e

  leads_rest : (inbox rest : List Message) (m : FlowMod) → Holding inbox m rest → AllByRecursion LeadsSome inbox → AllByRecursion LeadsSome rest × ((b : Bool) × LeadsTo (side b) m)
  leads_rest inbox rest m h all =
      let here : AllByRecursion LeadsSome (h.before ++ Flow m ∷ h.behind) = subst (AllByRecursion LeadsSome) h.are all in
      let front = each_first LeadsSome h.before (Flow m ∷ h.behind) here in
      let back = each_last LeadsSome h.before (Flow m ∷ h.behind) here in
      (subst (AllByRecursion LeadsSome) (sym h.rest_is) (each_append LeadsSome h.before h.behind front back.1), back.0)

  -- a switch with a flow message in its inbox is waited for
  held_asked : (g : Bool) (on : Key → Bool) (p : PeerState) (inbox rest : List Message) (outbox : List ℕ) (m : FlowMod) → Link g on p inbox outbox → Holding inbox m rest → ¬ (p.asked ≡ None)
  held_asked g on p inbox rest outbox m l h e = nothing_held m rest (subst (λ x. Holding x m rest) (l.rest e).empty h)

  -- ---- a flow message is carried out or refused

  without_one : (front back : List FlowMod) (m : FlowMod) (k : Key) → IsIn k (keys_in (front ++ m ∷ back)) → (k ≡ m.key) ⊎ IsIn k (keys_in (front ++ back))
  without_one [] back m k i = i
  without_one (f ∷ front) back m k (inl e) = inr (inl e)
  without_one (f ∷ front) back m k (inr i) = elim (without_one front back m k i) [ inl e ↦ inl e | inr j ↦ inr (inr j) ]

  all_without : (P : FlowMod → Type 0) (flows front back : List FlowMod) (m : FlowMod) → flows ≡ front ++ m ∷ back → AllByRecursion P flows → AllByRecursion P (front ++ back) × P m
  all_without P flows front back m is all =
      let here : AllByRecursion P (front ++ m ∷ back) = subst (AllByRecursion P) is all in
      let last = each_last P front (m ∷ back) here in
      (each_append P front back (each_first P front (m ∷ back) here) last.1, last.0)

  -- after a message was carried out, by which an entry is that of one side
  pub record CarriedOn (g : Bool) (on : Key → Bool) (p : PeerState) (rest : List Message) (outbox : List ℕ) (m : FlowMod) : Type 0 where
    pub b : Bool
    pub leads : LeadsTo (side b) m
    pub link : Link g (with_key m.key b on) p rest outbox

  record CarriedShape (g : Bool) (on : Key → Bool) (rest : List Message) (messages : List (List ℕ)) (m : FlowMod) : Type 0 where
    b : Bool
    leads : LeadsTo (side b) m
    shape : Shape g (with_key m.key b on) rest messages

  carry_shape : (g : Bool) (on : Key → Bool) (inbox rest : List Message) (messages : List (List ℕ)) (m : FlowMod) → Holding inbox m rest → Shape g on inbox messages → CarriedShape g on rest messages m
  carry_shape g on inbox rest messages m h (inl a) =
      let c = cut_held a.flows a.xid [] inbox rest m a.are h in
      let (others, mine) = all_without (λ x. LeadsTo (side g) x) a.flows c.front c.back m c.are a.lead in
      record {
        b = g;
        leads = mine;
        shape = inl (record {
          flows = c.front ++ c.back;
          xid = a.xid;
          are = c.rest_is;
          lead = others;
          done = λ none k i. elim (cases_key k m.key) [
            | inl e ↦ inr (with_key-same m.key g on k e)
            | inr n ↦ elim (a.done none k i) [
              | inl j ↦ elim (without_one c.front c.back m k (subst (λ l. IsIn k (keys_in l)) c.are j)) [ inl e ↦ absurd (n e) | inr j2 ↦ inl j2 ]
              | inr f ↦ inr (with_key-other m.key g on k n ∙ f)
            ]
          ];
        });
      }
  carry_shape g on inbox rest messages m h (inr (inl d)) = absurd (nothing_held m rest (subst (λ x. Holding x m rest) d.empty h))
  carry_shape g on inbox rest messages m h (inr (inr t)) =
      let c = cut_held t.old t.first (map Flow t.flows ++ BarrierRequest t.xid ∷ []) inbox rest m t.are h in
      let (others, mine) = all_without (λ x. (b : Bool) × LeadsTo (side b) x) t.old c.front c.back m c.are t.old_lead in
      record {
        b = mine.0;
        leads = mine.1;
        shape = inr (inr (record { old = c.front ++ c.back; first = t.first; flows = t.flows; xid = t.xid; are = c.rest_is; old_lead = others; lead = t.lead; all = t.all }));
      }

  carry_live : (g : Bool) (on : Key → Bool) (p : PeerState) (inbox rest : List Message) (outbox : List ℕ) (m : FlowMod) (session : Session) → p.channel.session ≡ session → is_failed session ≡ false
      → Link g on p inbox outbox → Holding inbox m rest → CarriedOn g on p rest outbox m
  carry_live g on p inbox rest outbox m (Failed c) is going l h = absurd (let f : true ≡ false = going in cc)
  carry_live g on p inbox rest outbox m Waiting is going l h =
      let live = l.live (ap is_failed is ∙ going) in
      let shape : ShapeBy Waiting g on p inbox live.messages = subst (λ x. ShapeBy x g on p inbox live.messages) is (live.shape (asked_some p (held_asked g on p inbox rest outbox m l h))) in
      absurd (nothing_held m rest (subst (λ x. Holding x m rest) shape.0 h))
  carry_live g on p inbox rest outbox m Open is going l h =
      let some = held_asked g on p inbox rest outbox m l h in
      let live = l.live (ap is_failed is ∙ going) in
      let (out, shape) = let s : ShapeBy Open g on p inbox live.messages = subst (λ x. ShapeBy x g on p inbox live.messages) is (live.shape (asked_some p some)) in s in
      let c = carry_shape g on inbox rest live.messages m h shape in
      let same = requests_held inbox rest m h in
      record {
        b = c.b;
        leads = c.leads;
        link = record {
          rest = λ e. absurd (some e);
          alone = l.alone;
          leads = (leads_rest inbox rest m h l.leads).0;
          live = λ _. record {
            messages = live.messages;
            stream = live.stream;
            order = live.order ∙ ap (λ x. replies_in live.messages ++ x) (sym same);
            range = subst (AllByRecursion (λ x. x < 2 ^ 32)) (sym same) live.range;
            shape = λ _. subst (λ x. ShapeBy x g (with_key m.key c.b on) p rest live.messages) (sym is) (out, c.shape);
          };
        };
      }

  pub carry_link : (g : Bool) (on : Key → Bool) (p : PeerState) (inbox rest : List Message) (outbox : List ℕ) (m : FlowMod) → Link g on p inbox outbox → Holding inbox m rest → CarriedOn g on p rest outbox m
  carry_link g on p inbox rest outbox m l h =
      elim (is_failed p.channel.session) as (λ f. is_failed p.channel.session ≡ f → CarriedOn g on p rest outbox m) [
        | true ↦ λ e. (
            let (others, mine) = leads_rest inbox rest m h l.leads in
            record {
              b = mine.0;
              leads = mine.1;
              link = record {
                rest = λ none. absurd (held_asked g on p inbox rest outbox m l h none);
                alone = l.alone;
                leads = others;
                live = λ f. absurd (let g2 : true ≡ false = sym e ∙ f in cc);
              };
            })
        | false ↦ λ e. carry_live g on p inbox rest outbox m p.channel.session refl e l h
      ] refl

  -- ---- a flow message is refused

  refuse_shape : (g : Bool) (on : Key → Bool) (inbox rest : List Message) (messages : List (List ℕ)) (error : List ℕ) (m : FlowMod) → Holding inbox m rest → IsError error → Shape g on inbox messages
      → Shape g on rest (messages ++ error ∷ [])
  refuse_shape g on inbox rest messages error m h is (inl a) =
      let c = cut_held a.flows a.xid [] inbox rest m a.are h in
      inl (record {
        flows = c.front ++ c.back;
        xid = a.xid;
        are = c.rest_is;
        lead = (all_without (λ x. LeadsTo (side g) x) a.flows c.front c.back m c.are a.lead).0;
        done = λ none k i. absurd ((each_last (λ x. type_in x ≢ 1) messages (error ∷ []) none).0 is.error);
      })
  refuse_shape g on inbox rest messages error m h is (inr (inl d)) = absurd (nothing_held m rest (subst (λ x. Holding x m rest) d.empty h))
  refuse_shape g on inbox rest messages error m h is (inr (inr t)) =
      let c = cut_held t.old t.first (map Flow t.flows ++ BarrierRequest t.xid ∷ []) inbox rest m t.are h in
      inr (inr (record {
        old = c.front ++ c.back;
        first = t.first;
        flows = t.flows;
        xid = t.xid;
        are = c.rest_is;
        old_lead = (all_without (λ x. (b : Bool) × LeadsTo (side b) x) t.old c.front c.back m c.are t.old_lead).0;
        lead = t.lead;
        all = t.all;
      }))

  refuse_by : (g : Bool) (on : Key → Bool) (p : PeerState) (inbox rest : List Message) (messages : List (List ℕ)) (error : List ℕ) (m : FlowMod) (session : Session) → Holding inbox m rest → IsError error
      → ShapeBy session g on p inbox messages → ShapeBy session g on p rest (messages ++ error ∷ [])
  refuse_by g on p inbox rest messages error m Waiting h is s = absurd (nothing_held m rest (subst (λ x. Holding x m rest) s.0 h))
  refuse_by g on p inbox rest messages error m Open h is s = (s.0, refuse_shape g on inbox rest messages error m h is s.1)
  refuse_by g on p inbox rest messages error m (Failed c) h is s = tt

  error_no_reply : (error : List ℕ) → IsError error → type_in error ≢ 19
  error_no_reply error is e = let one : type_in error ≡ 1 = is.error in omega arith

  pub refuse_link : (g : Bool) (on : Key → Bool) (p : PeerState) (inbox rest : List Message) (outbox error : List ℕ) (m : FlowMod) → Link g on p inbox outbox → Holding inbox m rest → IsError error
      → Link g on p rest (outbox ++ error)
  refuse_link g on p inbox rest outbox error m l h is =
      let same = requests_held inbox rest m h in
      record {
        rest = λ none. absurd (held_asked g on p inbox rest outbox m l h none);
        alone = l.alone;
        leads = (leads_rest inbox rest m h l.leads).0;
        live = λ going.
            let live = l.live going in
            record {
              messages = live.messages ++ error ∷ [];
              stream = stream_push p.channel.unread outbox live.messages error live.stream is.whole;
              order = live.order ∙ ap (λ x. replies_in live.messages ++ x) (sym same) ∙ ap (λ x. x ++ requests_in rest) (sym (replies_push_other error live.messages (error_no_reply error is)));
              range = subst (AllByRecursion (λ x. x < 2 ^ 32)) (sym same) live.range;
              shape = λ some. refuse_by g on p inbox rest live.messages error m p.channel.session h is (live.shape some);
            };
      }

  -- ---- a barrier request is answered

  answer_shape : (g : Bool) (on : Key → Bool) (x : ℕ) (rest : List Message) (messages : List (List ℕ)) (reply : List ℕ) → type_in reply ≡ 19 → Shape g on (BarrierRequest x ∷ rest) messages
      → Shape g on rest (messages ++ reply ∷ [])
  answer_shape g on x rest messages reply is (inl a) = go a.flows a.are a.done
    where
      go : (flows : List FlowMod) → BarrierRequest x ∷ rest ≡ map Flow flows ++ BarrierRequest a.xid ∷ [] → (NoError messages → (k : Key) → IsIn k named → IsIn k (keys_in flows) ⊎ (on k ≡ g))
          → Shape g on rest (messages ++ reply ∷ [])
      go [] e done =
          let none : rest ≡ [] = cc in
          inr (inl (record { empty = none; done = λ clear k i. elim (done (clear_behind_reply messages reply is clear) k i) [ inl j ↦ absurd j | inr f ↦ f ] }))
      go (m ∷ flows) e done = absurd (let f : BarrierRequest x ∷ rest ≡ Flow m ∷ (map Flow flows ++ BarrierRequest a.xid ∷ []) = e in cc)
  answer_shape g on x rest messages reply is (inr (inl d)) = absurd (let f : BarrierRequest x ∷ rest ≡ [] = d.empty in cc)
  answer_shape g on x rest messages reply is (inr (inr t)) = go t.old t.are
    where
      go : (old : List FlowMod) → BarrierRequest x ∷ rest ≡ map Flow old ++ BarrierRequest t.first ∷ (map Flow t.flows ++ BarrierRequest t.xid ∷ []) → Shape g on rest (messages ++ reply ∷ [])
      go [] e =
          let f : BarrierRequest x ∷ rest ≡ BarrierRequest t.first ∷ (map Flow t.flows ++ BarrierRequest t.xid ∷ []) = e in
          let behind : rest ≡ map Flow t.flows ++ BarrierRequest t.xid ∷ [] = cc in
          inl (record { flows = t.flows; xid = t.xid; are = behind; lead = t.lead; done = λ none k i. inl (t.all k i) })
      go (m ∷ old) e = absurd (let f : BarrierRequest x ∷ rest ≡ Flow m ∷ (map Flow old ++ BarrierRequest t.first ∷ (map Flow t.flows ++ BarrierRequest t.xid ∷ [])) = e in cc)

  answer_by : (g : Bool) (on : Key → Bool) (p : PeerState) (x : ℕ) (rest : List Message) (messages : List (List ℕ)) (reply : List ℕ) (session : Session) → type_in reply ≡ 19
      → ShapeBy session g on p (BarrierRequest x ∷ rest) messages → ShapeBy session g on p rest (messages ++ reply ∷ [])
  answer_by g on p x rest messages reply Waiting is s = absurd (let f : BarrierRequest x ∷ rest ≡ [] = s.0 in cc)
  answer_by g on p x rest messages reply Open is s = (s.0, answer_shape g on x rest messages reply is s.1)
  answer_by g on p x rest messages reply (Failed c) is s = tt

  pub answer_link : (g : Bool) (on : Key → Bool) (p : PeerState) (x : ℕ) (rest : List Message) (outbox : List ℕ) → Link g on p (BarrierRequest x ∷ rest) outbox
      → Link g on p rest (outbox ++ wire_text (BarrierReply x))
  answer_link g on p x rest outbox l = record {
    rest = λ none. absurd (let f : BarrierRequest x ∷ rest ≡ [] = (l.rest none).empty in cc);
    alone = l.alone;
    leads = l.leads.1;
    live = λ going.
        let live = l.live going in
        let reply = wire_text (BarrierReply x) in
        let ok : x < 2 ^ 32 = live.range.0 in
        record {
          messages = live.messages ++ reply ∷ [];
          stream = stream_push p.channel.unread outbox live.messages reply live.stream (reply_whole x ok);
          order = live.order ∙ sym (append_assoc (replies_in live.messages) (x ∷ []) (requests_in rest))
              ∙ ap (λ y. y ++ requests_in rest) (sym (replies_push_reply reply live.messages x (reply_type x ok) (reply_xid x ok)));
          range = live.range.1;
          shape = λ some. answer_by g on p x rest live.messages reply p.channel.session (reply_type x ok) (live.shape some);
        };
  }

  -- ---- another message is sent

  say_shape : (g : Bool) (on : Key → Bool) (inbox : List Message) (messages : List (List ℕ)) (m : List ℕ) → Shape g on inbox messages → Shape g on inbox (messages ++ m ∷ [])
  say_shape g on inbox messages m (inl a) = inl (record { flows = a.flows; xid = a.xid; are = a.are; lead = a.lead; done = λ none. a.done (error_before messages m none) })
  say_shape g on inbox messages m (inr (inl d)) = inr (inl (record { empty = d.empty; done = λ clear. d.done (clear_before messages m clear) }))
  say_shape g on inbox messages m (inr (inr t)) = inr (inr t)

  say_by : (g : Bool) (on : Key → Bool) (p : PeerState) (inbox : List Message) (messages : List (List ℕ)) (m : List ℕ) (session : Session) → ShapeBy session g on p inbox messages
      → ShapeBy session g on p inbox (messages ++ m ∷ [])
  say_by g on p inbox messages m Waiting s = s
  say_by g on p inbox messages m Open s = (s.0, say_shape g on inbox messages m s.1)
  say_by g on p inbox messages m (Failed c) s = tt

  pub say_link : (g : Bool) (on : Key → Bool) (p : PeerState) (inbox : List Message) (outbox m : List ℕ) → Link g on p inbox outbox → MaySay m → Link g on p inbox (outbox ++ m)
  say_link g on p inbox outbox m l may = record {
    rest = l.rest;
    alone = l.alone;
    leads = l.leads;
    live = λ going.
        let live = l.live going in
        record {
          messages = live.messages ++ m ∷ [];
          stream = stream_push p.channel.unread outbox live.messages m live.stream may.whole;
          order = live.order ∙ ap (λ y. y ++ requests_in inbox) (sym (replies_push_other m live.messages may.other));
          range = live.range;
          shape = λ some. say_by g on p inbox live.messages m p.channel.session (live.shape some);
        };
  }
