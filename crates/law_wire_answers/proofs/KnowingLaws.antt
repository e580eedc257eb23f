-- What a driver keeps of a switch, and what was exchanged with it.
use Rattle.std.proofs.Common.{◌≡◌, ◌≢◌, ◌⊎◌, ℕ, zero, suc, ◌+◌, ◌<◌, Bool, true, false, not, ◌&&◌, ◌||◌, map, List, [], ◌∷◌, ◌++◌, length, set, get_or, get_or-set_same, get_or-set_other, refl, sym, ap, ◌∙◌, subst, inl, inr, append_assoc, append-nil, arith}
use Rattle.std.specs.Prelude.{filter, slice_get, Option, Some, None, is_none}
use Rattle.std.specs.List.{AllByRecursion, list_all}
use Rattle.std.proofs.lemmas.Bool.{cases_eq, cond_both}
use Rattle.std.proofs.lemmas.List.{length-map}
use Rattle.net_base.proofs.MemberLaws.{each_append}
use Rattle.net_base.specs.declared.ids.SwitchId.{SwitchId}
use Rattle.topology.specs.Networks.{Network, switch_count}
use Rattle.update_model.specs.Changes.{switch_of, round_after}
use Rattle.update_model.specs.declared.Change.{Change}
use Rattle.openflow10.specs.Messages.{wire_text}
use Rattle.openflow10.specs.declared.Message.TheVariants.{BarrierRequest}
use Rattle.round_messages.specs.Requests.{is_changed, switch_numbered}
use Rattle.switch_session.specs.Fronts.{front_of}
use Rattle.switch_session.specs.Channels.{is_failed}
use Rattle.switch_session.specs.Laws.{AreCut}
use Rattle.switch_session.specs.declared.Cause.{Cause}
use Rattle.switch_session.specs.declared.Session.{Session}
use Rattle.switch_session.specs.declared.Session.TheVariants.{Waiting, Open, Failed}
use Rattle.switch_session.specs.declared.fronts.Front.TheVariants.{Short}
use Rattle.turned_rounds.specs.Batches.{change_messages, batch_of}
use Rattle.two_way_driver.specs.PeerStates.{PeerState}
use Rattle.two_way_driver.specs.Peers.{first_peer, settled_peer}
use Rattle.two_way_driver.specs.Drivers.{DriverState, log_if, change_notes, undo_notes, is_dead_made, is_dead_unmade, running_round, settled_in, all_answered, settled_if_answered, asked_round}
use Rattle.two_way_driver.specs.Sending.{texts_for}
use Rattle.two_way_driver.specs.declared.Stage.{Stage}
use Rattle.two_way_driver.specs.declared.Stage.TheVariants.{Settled, Onward, Undone}
use Rattle.two_way_driver.specs.declared.DriverEvent.{DriverEvent}
use Rattle.two_way_driver.specs.declared.DriverEvent.TheVariants as logged
use Rattle.two_way_driver.specs.declared.DriverOutput.{DriverOutput}
use Rattle.two_way_driver.specs.declared.DriverOutput.TheVariants.{Log}
use Rattle.law_wire_answers.specs.Exchanges.{is_between_rounds, SwitchTalk}
use Rattle.law_wire_answers.specs.Answering.{AsksBehind}
use Rattle.law_wire_answers.specs.Failing.{barrier_xids, is_barrier_reply}
use Rattle.law_wire_answers.proofs.TrafficLaws.{IsNote, Grows}
use Rattle.law_wire_answers.proofs.RequestLaws.{xids-append}

pub none_some : {A : Type 0} (o : Option A) (x : A) → o ≡ None → o ≡ Some x → ⊥
none_some o x e f = let g : None ≡ Some x = sym e ∙ f in cc

pub asks_more : (changes : List Change) (s : SwitchId) (xid : ℕ) (sent more : List (List ℕ)) → AsksBehind changes s xid sent → AsksBehind changes s xid (sent ++ more)
asks_more changes s xid sent more a =
    let ms = texts_for s (change_messages a.first changes) in
    record {
      before = a.before;
      first = a.first;
      behind = a.behind ++ more;
      sent_are =
          ap (λ (l : List (List ℕ)). l ++ more) a.sent_are ∙ append_assoc a.before (ms ++ wire_text (BarrierRequest xid) ∷ a.behind) more
          ∙ ap (λ (l : List (List ℕ)). a.before ++ l) (append_assoc ms (wire_text (BarrierRequest xid) ∷ a.behind) more);
    }

-- the barrier requests that aren't answered
abbrev pub out_list : Option ℕ → Option ℕ → List ℕ
out_list None behind = []
out_list (Some x) None = x ∷ []
out_list (Some x) (Some y) = x ∷ y ∷ []

abbrev pub IsGreeted : Session → List (List ℕ) → Type 0
IsGreeted Waiting messages = messages ≡ []
IsGreeted Open messages = messages ≡ [] → ⊥
IsGreeted (Failed c) messages = Unit {0}

-- the failures that were said are that of the session
abbrev pub FailedAs : Session → List Cause → Type 0
FailedAs Waiting failures = failures ≡ []
FailedAs Open failures = failures ≡ []
FailedAs (Failed c) failures = failures ≡ c ∷ []

-- a session that hasn't failed, with a switch that isn't dead
abbrev pub IsLive : PeerState → Type 0
IsLive p = (is_failed p.channel.session ≡ false) × (p.is_dead ≡ false)

-- the bytes that came are whole messages, and what is unread; and as many barrier requests were answered as replies came
pub record IsHeard (came : List ℕ) (sent : List (List ℕ)) (x : Session) (unread : List ℕ) (o behind : Option ℕ) : Type 0 where
  pub messages : List (List ℕ)
  pub cut : AreCut came messages unread
  pub short : front_of unread ≡ Short
  pub answered : List ℕ
  pub requests : barrier_xids sent ≡ answered ++ out_list o behind
  pub replies : length (filter is_barrier_reply messages) ≡ length answered
  pub greeted : IsGreeted x messages

-- messages are sent that ask for no answer
pub heard_more : (came : List ℕ) (sent more : List (List ℕ)) (x : Session) (unread : List ℕ) (o behind : Option ℕ) → barrier_xids more ≡ [] → IsHeard came sent x unread o behind → IsHeard came (sent ++ more) x unread o behind
heard_more came sent more x unread o behind none h = record {
  messages = h.messages;
  cut = h.cut;
  short = h.short;
  answered = h.answered;
  requests = xids-append sent more ∙ ap (λ (l : List ℕ). barrier_xids sent ++ l) none ∙ append-nil (barrier_xids sent) ∙ h.requests;
  replies = h.replies;
  greeted = h.greeted;
}

-- the events of changes
module _ (P : DriverOutput → Type 0) (wanted : Change → Bool) where
  one_note : (e : DriverEvent) (b : Bool) → (b ≡ true → P (Log e)) → AllByRecursion P (log_if b e)
  one_note e true may = (may refl, tt)
  one_note e false may = tt

  pub all_changes : (changes : List Change) (i : ℕ) → ((j : ℕ) (c : Change) → slice_get changes j ≡ Some c → wanted c ≡ true → P (Log (logged.Change (i + j)))) → AllByRecursion P (change_notes wanted i changes)
  all_changes [] i may = tt
  all_changes (c ∷ changes) i may =
      each_append P (log_if (wanted c) (logged.Change i)) (change_notes wanted (suc i) changes)
      (one_note (logged.Change i) (wanted c) (λ e. subst (λ n. P (Log (logged.Change n))) (let z : i + 0 ≡ i = omega arith in z) (may 0 c refl e)))
      (all_changes changes (suc i) (λ j d at here. subst (λ n. P (Log (logged.Change n))) (let z : i + suc j ≡ suc i + j = omega arith in z) (may (suc j) d at here)))

  pub all_undos : (changes : List Change) (i : ℕ) → ((j : ℕ) (c : Change) → slice_get changes j ≡ Some c → wanted c ≡ true → P (Log (logged.Undo (i + j)))) → AllByRecursion P (undo_notes wanted i changes)
  all_undos [] i may = tt
  all_undos (c ∷ changes) i may =
      each_append P (undo_notes wanted (suc i) changes) (log_if (wanted c) (logged.Undo i))
      (all_undos changes (suc i) (λ j d at here. subst (λ n. P (Log (logged.Undo n))) (let z : i + suc j ≡ suc i + j = omega arith in z) (may (suc j) d at here)))
      (one_note (logged.Undo i) (wanted c) (λ e. subst (λ n. P (Log (logged.Undo n))) (let z : i + 0 ≡ i = omega arith in z) (may 0 c refl e)))

module _ (net : Network) (rounds inverses : List (List Change)) where
  abbrev pub asks_now : Stage → List Change
  asks_now stage = asked_round rounds inverses stage

  -- a request of a round, behind which stands that of its turning
  pub record IsTurned (stage : Stage) (s : SwitchId) (of_round of_way : List (List ℕ)) (x y : ℕ) (asked : Option ℕ) : Type 0 where
    pub k : ℕ
    pub undone : stage ≡ Undone k
    pub first : AsksBehind (round_after k rounds) s x of_round
    pub waits : asked ≡ Some y
    pub turned : AsksBehind (round_after k inverses) s y of_way

  -- the last request
  pub record IsLast (stage : Stage) (s : SwitchId) (of_way : List (List ℕ)) (x : ℕ) (asked : Option ℕ) : Type 0 where
    pub waits : asked ≡ Some x
    pub is : AsksBehind (asks_now stage) s x of_way

  -- what is outstanding, what stands behind it, and what isn't answered, by what was sent
  abbrev pub AreOut : Stage → SwitchId → List (List ℕ) → List (List ℕ) → Option ℕ → Option ℕ → Option ℕ → Type 0
  AreOut stage s of_round of_way None None asked = Unit {0}
  AreOut stage s of_round of_way None (Some y) asked = ⊥
  AreOut stage s of_round of_way (Some x) None asked = IsLast stage s of_way x asked
  AreOut stage s of_round of_way (Some x) (Some y) asked = IsTurned stage s of_round of_way x y asked

  -- a session that hasn't failed
  pub record Goes (stage : Stage) (s : SwitchId) (t : SwitchTalk) (p : PeerState) : Type 0 where
    pub reads : IsHeard t.came t.sent p.channel.session p.channel.unread p.channel.outstanding p.behind
    pub out : AreOut stage s t.of_round t.of_way p.channel.outstanding p.behind p.asked
    pub waiting : p.channel.session ≡ Waiting → p.channel.outstanding ≡ None

  -- the messages of the running round to a switch end with the barrier request that it has to answer
  abbrev pub EndsWith : Stage → ℕ → SwitchId → ℕ → Type 0
  EndsWith stage first s y = texts_for s (batch_of net first (asks_now stage)) ≡ texts_for s (change_messages first (asks_now stage)) ++ wire_text (BarrierRequest y) ∷ []

  pub record Knows (Done : List Change → Type 0) (stage : Stage) (first : ℕ) (s : SwitchId) (t : SwitchTalk) (p : PeerState) : Type 0 where
    pub goes : IsLive p → Goes stage s t p
    pub asked : (y : ℕ) → p.asked ≡ Some y → EndsWith stage first s y
    pub unasked : is_changed (asks_now stage) s ≡ false → p.asked ≡ None
    pub answered : is_changed (asks_now stage) s ≡ true → p.asked ≡ None → Done (asks_now stage)
    pub same : (k : ℕ) → stage ≡ Onward k → t.of_round ≡ t.of_way
    pub range : (y : ℕ) → p.asked ≡ Some y → y < 4294967296
    pub told : p.is_dead ≡ false → FailedAs p.channel.session t.failures
    pub dead : t.dead ≡ p.is_dead

  -- ---- more is exchanged

  pub out_more : (stage : Stage) (s : SwitchId) (of_round of_way more : List (List ℕ)) (o behind asked : Option ℕ) → AreOut stage s of_round of_way o behind asked
      → AreOut stage s (of_round ++ more) (of_way ++ more) o behind asked
  out_more stage s of_round of_way more None None asked h = tt
  out_more stage s of_round of_way more None (Some y) asked h = h
  out_more stage s of_round of_way more (Some x) None asked h = record { waits = h.waits; is = asks_more (asks_now stage) s x of_way more h.is }
  out_more stage s of_round of_way more (Some x) (Some y) asked h = record {
    k = h.k;
    undone = h.undone;
    first = asks_more (round_after h.k rounds) s x of_round more h.first;
    waits = h.waits;
    turned = asks_more (round_after h.k inverses) s y of_way more h.turned;
  }

  out_grows : (stage : Stage) (s : SwitchId) (t u : SwitchTalk) → Grows t u → (o behind asked : Option ℕ) → AreOut stage s t.of_round t.of_way o behind asked → AreOut stage s u.of_round u.of_way o behind asked
  out_grows stage s t u g o behind asked h =
      subst (λ (l : List (List ℕ)). AreOut stage s l u.of_way o behind asked) (sym g.of_round)
      (subst (λ (l : List (List ℕ)). AreOut stage s (t.of_round ++ g.more) l o behind asked) (sym g.of_way) (out_more stage s t.of_round t.of_way g.more o behind asked h))

  heard_grows : (t u : SwitchTalk) → Grows t u → (x : Session) (unread : List ℕ) (o behind : Option ℕ) → IsHeard t.came t.sent x unread o behind → IsHeard u.came u.sent x unread o behind
  heard_grows t u g x unread o behind h =
      subst (λ (l : List ℕ). IsHeard l u.sent x unread o behind) (sym g.came)
      (subst (λ (l : List (List ℕ)). IsHeard t.came l x unread o behind) (sym g.sent) (heard_more t.came t.sent g.more x unread o behind g.no_request h))

  pub same_grows : (t u : SwitchTalk) → Grows t u → t.of_round ≡ t.of_way → u.of_round ≡ u.of_way
  same_grows t u g e = g.of_round ∙ ap (λ (l : List (List ℕ)). l ++ g.more) e ∙ sym g.of_way

  pub knows_more : (D E : List Change → Type 0) → ((changes : List Change) → D changes → E changes) → (stage : Stage) (first : ℕ) (s : SwitchId) (t u : SwitchTalk) (p : PeerState) → Grows t u
      → Knows D stage first s t p → Knows E stage first s u p
  knows_more D E up stage first s t u p g h = record {
    goes = λ going. (
        let now = h.goes going in
        record {
          reads = heard_grows t u g p.channel.session p.channel.unread p.channel.outstanding p.behind now.reads;
          out = out_grows stage s t u g p.channel.outstanding p.behind p.asked now.out;
          waiting = now.waiting;
        });
    asked = h.asked;
    unasked = h.unasked;
    answered = λ on none. up (asks_now stage) (h.answered on none);
    same = λ k at. same_grows t u g (h.same k at);
    range = h.range;
    told = λ alive. subst (FailedAs p.channel.session) (sym g.failures) (h.told alive);
    dead = g.dead ∙ h.dead;
  }

  -- ---- all switches

  abbrev pub AllKnow : (SwitchId → List Change → Type 0) → Stage → ℕ → (SwitchId → SwitchTalk) → List PeerState → Type 0
  AllKnow D stage first T peers = (s : SwitchId) → s.0 < switch_count net → Knows (D s) stage first s (T s) (get_or peers s.0 first_peer)

  pub record Known (T : SwitchId → SwitchTalk) (D : SwitchId → List Change → Type 0) (d : DriverState) : Type 0 where
    pub count : length d.peers ≡ switch_count net
    pub all : AllKnow D d.stage d.first T d.peers
    pub running : is_between_rounds d.stage ≡ false → all_answered d.peers ≡ false
    pub next : d.next < 4294967296

  pub all_more : (D E : SwitchId → List Change → Type 0) → ((s : SwitchId) (changes : List Change) → D s changes → E s changes) → (stage : Stage) (first : ℕ) (T U : SwitchId → SwitchTalk) (peers : List PeerState)
      → ((s : SwitchId) → Grows (T s) (U s)) → AllKnow D stage first T peers → AllKnow E stage first U peers
  all_more D E up stage first T U peers g h s less = knows_more (D s) (E s) (up s) stage first s (T s) (U s) (get_or peers s.0 first_peer) (g s) (h s less)

  pub known_same : (D : SwitchId → List Change → Type 0) (T U : SwitchId → SwitchTalk) (d : DriverState) → ((s : SwitchId) → T s ≡ U s) → Known T D d → Known U D d
  known_same D T U d same h = record {
    count = h.count;
    all = λ s less. subst (λ (t : SwitchTalk). Knows (D s) d.stage d.first s t (get_or d.peers s.0 first_peer)) (same s) (h.all s less);
    running = h.running;
    next = h.next;
  }

  pub known_up : (D E : SwitchId → List Change → Type 0) → ((s : SwitchId) (changes : List Change) → D s changes → E s changes) → (T : SwitchId → SwitchTalk) (d : DriverState) → Known T D d → Known T E d
  known_up D E up T d h = record {
    count = h.count;
    all = λ s less. (
        let now = h.all s less in
        record { goes = now.goes; asked = now.asked; unasked = now.unasked; answered = λ on none. up s (asks_now d.stage) (now.answered on none); same = now.same; range = now.range; told = now.told; dead = now.dead });
    running = h.running;
    next = h.next;
  }

  -- one switch has something else
  pub all_set : (D E : SwitchId → List Change → Type 0) → ((s : SwitchId) (changes : List Change) → D s changes → E s changes) → (stage : Stage) (first : ℕ) (T U : SwitchId → SwitchTalk) (peers : List PeerState)
      (t : SwitchId) (q : PeerState) → t.0 < length peers → ((s : SwitchId) → s.0 ≢ t.0 → Grows (T s) (U s)) → Knows (E t) stage first t (U t) q → AllKnow D stage first T peers → AllKnow E stage first U (set peers t.0 q)
  all_set D E up stage first T U peers t q within g here h s less =
      elim (cases_eq s.0 t.0) [
        | inl same ↦ (
            let is : s ≡ t = ap switch_numbered same in
            subst (λ (r : SwitchId). Knows (E r) stage first r (U r) (get_or (set peers t.0 q) r.0 first_peer)) (sym is)
            (subst (λ (p : PeerState). Knows (E t) stage first t (U t) p) (sym (get_or-set_same peers t.0 q first_peer within)) here))
        | inr differs ↦ subst (λ (p : PeerState). Knows (E s) stage first s (U s) p) (sym (get_or-set_other peers t.0 s.0 q first_peer differs))
            (knows_more (D s) (E s) (up s) stage first s (T s) (U s) (get_or peers s.0 first_peer) (g s differs) (h s less))
      ]

  -- ---- a round is settled

  rest_of : (o : Option ℕ) (gone b : Bool) → ((is_none o || gone) && b) ≡ true → b ≡ true
  rest_of None gone b e = e
  rest_of (Some x) true b e = e
  rest_of (Some x) false b e = absurd (let f : false ≡ true = e in cc)

  none_of : (o : Option ℕ) (gone b : Bool) → ((is_none o || gone) && b) ≡ true → gone ≡ false → o ≡ None
  none_of None gone b e f = refl
  none_of (Some x) true b e f = absurd (let g : true ≡ false = f in cc)
  none_of (Some x) false b e f = absurd (let g : false ≡ true = e in cc)

  -- of all that aren't dead nothing is asked
  pub all_at : (peers : List PeerState) (i : ℕ) → all_answered peers ≡ true → (get_or peers i first_peer).is_dead ≡ false → (get_or peers i first_peer).asked ≡ None
  all_at [] i all alive = refl
  all_at (p ∷ peers) zero all alive = none_of p.asked p.is_dead (list_all (λ (q : PeerState). is_none q.asked || q.is_dead) peers) all alive
  all_at (p ∷ peers) (suc i) all alive = all_at peers i (rest_of p.asked p.is_dead (list_all (λ (q : PeerState). is_none q.asked || q.is_dead) peers) all) alive

  settled_at : (peers : List PeerState) (i : ℕ) → get_or (map settled_peer peers) i first_peer ≡ settled_peer (get_or peers i first_peer)
  settled_at [] i = refl
  settled_at (p ∷ peers) zero = refl
  settled_at (p ∷ peers) (suc i) = settled_at peers i

  -- one past the end isn't dead
  dead_within : (peers : List PeerState) (i : ℕ) → (get_or peers i first_peer).is_dead ≡ true → i < length peers
  dead_within [] i e = absurd (let f : false ≡ true = e in cc)
  dead_within (p ∷ peers) zero e = omega arith
  dead_within (p ∷ peers) (suc i) e = let h = dead_within peers i e in omega arith

  none_out : (stage next : Stage) (s : SwitchId) (of_round of_way : List (List ℕ)) (o behind asked : Option ℕ) → asked ≡ None → AreOut stage s of_round of_way o behind asked
      → AreOut next s of_round of_way o behind asked
  none_out stage next s of_round of_way None None asked none h = tt
  none_out stage next s of_round of_way None (Some y) asked none h = h
  none_out stage next s of_round of_way (Some x) None asked none h = absurd (none_some asked x none h.waits)
  none_out stage next s of_round of_way (Some x) (Some y) asked none h = absurd (none_some asked y none h.waits)

  none_changed : (s : SwitchId) → is_changed [] s ≡ true → ⊥
  none_changed s e = let f : false ≡ true = e in cc

  knows_alive : (D : List Change → Type 0) (stage : Stage) (k first : ℕ) (s : SwitchId) (t : SwitchTalk) (p : PeerState) → p.asked ≡ None → Knows D stage first s t p → Knows D (Settled k) first s t p
  knows_alive D stage k first s t p none h = record {
    goes = λ live. (let now = h.goes live in record { reads = now.reads; out = none_out stage (Settled k) s t.of_round t.of_way p.channel.outstanding p.behind p.asked none now.out; waiting = now.waiting });
    asked = λ y at. absurd (none_some p.asked y none at);
    unasked = λ off. none;
    answered = λ on at. absurd (none_changed s on);
    same = λ j at. absurd (let f : Settled k ≡ Onward j = at in cc);
    range = h.range;
    told = h.told;
    dead = h.dead;
  }

  -- of a dead switch nothing is asked any more
  knows_gone : (D : List Change → Type 0) (stage : Stage) (k first : ℕ) (s : SwitchId) (t : SwitchTalk) (p : PeerState) → p.is_dead ≡ true → Knows D stage first s t p → Knows D (Settled k) first s t (record p { asked = None })
  knows_gone D stage k first s t p gone h = record {
    goes = λ live. absurd (let f : true ≡ false = sym gone ∙ live.1 in cc);
    asked = λ y at. absurd (none_some None y refl at);
    unasked = λ off. refl;
    answered = λ on at. absurd (none_changed s on);
    same = λ j at. absurd (let f : Settled k ≡ Onward j = at in cc);
    range = λ y at. absurd (none_some None y refl at);
    told = h.told;
    dead = h.dead;
  }

  knows_settled : (D : List Change → Type 0) (stage : Stage) (k first : ℕ) (s : SwitchId) (t : SwitchTalk) (p : PeerState) → (p.is_dead ≡ false → p.asked ≡ None) → Knows D stage first s t p → Knows D (Settled k) first s t (settled_peer p)
  knows_settled D stage k first s t p none h =
      cond_both p.is_dead (record p { asked = None }) p (Knows D (Settled k) first s t) (λ gone. knows_gone D stage k first s t p gone h) (λ alive. knows_alive D stage k first s t p (none alive) h)

  -- a driver that may have a round to settle
  pub record NearlyKnown (T : SwitchId → SwitchTalk) (D : SwitchId → List Change → Type 0) (d : DriverState) : Type 0 where
    pub count : length d.peers ≡ switch_count net
    pub all : AllKnow D d.stage d.first T d.peers
    pub next : d.next < 4294967296

  module _ (D : SwitchId → List Change → Type 0) (T : List DriverOutput → SwitchId → SwitchTalk) (grows : (words more : List DriverOutput) → AllByRecursion IsNote more → (s : SwitchId) → Grows (T words s) (T (words ++ more) s))
      (P : DriverOutput → Type 0) where
    -- each switch with a change that isn't dead answered
    abbrev pub AllDone : List Change → Type 0
    AllDone changes = (s : SwitchId) → s.0 < switch_count net → is_changed changes s ≡ true → ((words : List DriverOutput) → (T words s).dead ≡ false) → D s changes

    -- the words may be said, once all have answered
    pub record MaySettle (stage : Stage) : Type 0 where
      pub onward : (k : ℕ) → stage ≡ Onward k → AllDone (round_after k rounds) → P (Log logged.Settle)
      pub undone : (k : ℕ) → stage ≡ Undone k → AllDone (round_after k inverses) → P (Log logged.SettleBack)
      pub gone_change : (k : ℕ) → stage ≡ Onward k → (i : ℕ) (c : Change) → slice_get (round_after k rounds) i ≡ Some c → (words : List DriverOutput) → (T words (switch_of c)).dead ≡ true → P (Log (logged.Change i))
      pub gone_undo : (k : ℕ) → stage ≡ Undone k → (i : ℕ) (c : Change) → slice_get (round_after k rounds) i ≡ Some c → (words : List DriverOutput) → (T words (switch_of c)).dead ≡ true → P (Log (logged.Undo i))

    pub record Settles (d e : DriverState) : Type 0 where
      pub known : Known (T e.said) D e
      pub says : AllByRecursion P d.said → AllByRecursion P e.said
      pub stage : (e.stage ≡ d.stage) ⊎ (is_between_rounds e.stage ≡ true)

    -- behind events, of which the last settles the round
    settled_known : (k : ℕ) (notes : List DriverOutput) (w : DriverOutput) (d : DriverState) → AllByRecursion IsNote notes → IsNote w → all_answered d.peers ≡ true → NearlyKnown (T d.said) D d
        → Known (T ((d.said ++ notes) ++ w ∷ [])) D (record d { stage = Settled k; peers = map settled_peer d.peers; said = (d.said ++ notes) ++ w ∷ [] })
    settled_known k notes w d are is all h = record {
      count = length-map d.peers settled_peer ∙ h.count;
      all = λ s less.
          subst (λ (q : PeerState). Knows (D s) (Settled k) d.first s (T ((d.said ++ notes) ++ w ∷ []) s) q) (sym (settled_at d.peers s.0))
          (knows_settled (D s) d.stage k d.first s (T ((d.said ++ notes) ++ w ∷ []) s) (get_or d.peers s.0 first_peer) (all_at d.peers s.0 all)
          (knows_more (D s) (D s) (λ changes x. x) d.stage d.first s (T (d.said ++ notes) s) (T ((d.said ++ notes) ++ w ∷ []) s) (get_or d.peers s.0 first_peer) (grows (d.said ++ notes) (w ∷ []) (is, tt) s)
          (knows_more (D s) (D s) (λ changes x. x) d.stage d.first s (T d.said s) (T (d.said ++ notes) s) (get_or d.peers s.0 first_peer) (grows d.said notes are s) (h.all s less))));
      running = λ e. absurd (let f : true ≡ false = e in cc);
      next = h.next;
    }

    -- a switch of a change that is dead in the driver
    gone_of : (d : DriverState) (c : Change) (b : Bool) → NearlyKnown (T d.said) D d → ((get_or d.peers (switch_of c).0 first_peer).is_dead && b) ≡ true → (T d.said (switch_of c)).dead ≡ true
    gone_of d c b h e =
        let count = h.count in
        let gone : (get_or d.peers (switch_of c).0 first_peer).is_dead ≡ true = first_true (get_or d.peers (switch_of c).0 first_peer).is_dead b e in
        let within = dead_within d.peers (switch_of c).0 gone in
        (h.all (switch_of c) (omega arith)).dead ∙ gone
      where
        first_true : (a b : Bool) → (a && b) ≡ true → a ≡ true
        first_true true b e = refl
        first_true false b e = absurd (let f : false ≡ true = e in cc)

    all_done : (d : DriverState) → all_answered d.peers ≡ true → (h : NearlyKnown (T d.said) D d) → AllDone (asks_now d.stage)
    all_done d all h s less on alive = (h.all s less).answered on (all_at d.peers s.0 all (sym (h.all s less).dead ∙ alive d.said))

    push_all : (xs ys : List DriverOutput) (w : DriverOutput) → AllByRecursion P xs → AllByRecursion P ys → P w → AllByRecursion P ((xs ++ ys) ++ w ∷ [])
    push_all xs ys w p q r = each_append P (xs ++ ys) (w ∷ []) (each_append P xs ys p q) (r, tt)

    settle_at : (stage : Stage) (d : DriverState) → all_answered d.peers ≡ true → MaySettle stage → NearlyKnown (T d.said) D (record d { stage = stage })
        → Settles (record d { stage = stage }) (settled_in (running_round rounds stage) stage (record d { stage = stage }))
    unfolding settled_in
    settle_at (Settled k) d all may h = record { known = record { count = h.count; all = h.all; running = λ e. absurd (let f : true ≡ false = e in cc); next = h.next }; says = λ x. x; stage = inl refl }
    settle_at (Onward k) d all may h =
        let round = round_after k rounds in
        let wanted = is_dead_unmade d.peers d.in_force in
        record {
          known = settled_known (suc k) (change_notes wanted 0 round) (Log logged.Settle) (record d { stage = Onward k }) (all_changes IsNote wanted round 0 (λ i c at here. tt)) tt all h;
          says = λ x. push_all d.said (change_notes wanted 0 round) (Log logged.Settle) x
              (all_changes P wanted round 0 (λ i c at here. subst (λ n. P (Log (logged.Change n))) (let z : i ≡ 0 + i = omega arith in z)
              (may.gone_change k refl i c at d.said (gone_of (record d { stage = Onward k }) c (not (get_or d.in_force (switch_of c).0 false)) h here))))
              (may.onward k refl (all_done (record d { stage = Onward k }) all h));
          stage = inr refl;
        }
    settle_at (Undone k) d all may h =
        let round = round_after k rounds in
        let wanted = is_dead_made d.peers d.in_force in
        record {
          known = settled_known k (undo_notes wanted 0 round) (Log logged.SettleBack) (record d { stage = Undone k }) (all_undos IsNote wanted round 0 (λ i c at here. tt)) tt all h;
          says = λ x. push_all d.said (undo_notes wanted 0 round) (Log logged.SettleBack) x
              (all_undos P wanted round 0 (λ i c at here. subst (λ n. P (Log (logged.Undo n))) (let z : i ≡ 0 + i = omega arith in z)
              (may.gone_undo k refl i c at d.said (gone_of (record d { stage = Undone k }) c (get_or d.in_force (switch_of c).0 false) h here))))
              (may.undone k refl (all_done (record d { stage = Undone k }) all h));
          stage = inr refl;
        }

    pub settles : (d : DriverState) → MaySettle d.stage → NearlyKnown (T d.said) D d → Settles d (settled_if_answered (running_round rounds d.stage) d)
    unfolding settled_if_answered
    settles d may h =
        cond_both (all_answered d.peers) (settled_in (running_round rounds d.stage) d.stage d) d (Settles d) (λ all. settle_at d.stage d all may h)
        (λ some. record { known = record { count = h.count; all = h.all; running = λ e. some; next = h.next }; says = λ x. x; stage = inl refl })
