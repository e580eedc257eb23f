-- What holds of every state on the wire: the entries of each table, its switch's boxes beside what the driver keeps, and the packets.
use Rattle.std.proofs.Common.{◌≡◌, ◌≢◌, ℕ, zero, suc, ◌+◌, ◌<◌, ◌≤◌, Bool, true, false, cond, eqb, List, [], ◌∷◌, length, map, set, get_or, get_or-set_same, get_or-set_other, length-set, refl, sym, ◌∙◌, subst, ap, inl, inr, arith}
use Rattle.std.specs.Prelude.{Option, Some, None, is_none, ◌||◌, is_some}
use Rattle.std.specs.List.{AllByRecursion}
use Rattle.std.proofs.lemmas.Bool.{cases_Bool, cases_eq, cases_lt, cond_both, cond-true, cond-false, eq-eqb, both_ways, or_left, or_right, and_from}
use Rattle.std.proofs.lemmas.List.{length-map}
use Rattle.net_base.specs.Members.{IsIn}
use Rattle.net_base.proofs.MemberLaws.{in_map, in_filter, each_from_in, each_map, each_at}
use Rattle.net_base.specs.declared.ids.SwitchId.{SwitchId}
use Rattle.topology.specs.Networks.{switch_count}
use Rattle.flow_rules.specs.Tables.{rules_at, IsTable}
use Rattle.flow_rules.specs.declared.rules.Key.{Key}
use Rattle.flow_rules.specs.declared.rules.Rule.{Rule}
use Rattle.update_model.specs.Changes.{switch_of, changes_at, round_after}
use Rattle.update_model.specs.Mixtures.{Rollout, AreGoodRounds}
use Rattle.update_model.specs.Ranges.{IsPlanChange}
use Rattle.update_model.specs.declared.Change.{Change}
use Rattle.update_model.specs.declared.Event.TheVariants as event
use Rattle.update_model.specs.declared.Packet.{Packet}
use Rattle.update_model.proofs.ChangeLaws.{key_named}
use Rattle.openflow10.specs.declared.Message.{Message}
use Rattle.round_messages.specs.Requests.{is_changed}
use Rattle.switch_session.specs.Channels.{first_channel}
use Rattle.turned_rounds.specs.Batches.{xid_behind}
use Rattle.law_two_way_runs.specs.States.{TwoWayState, Onward as onward, SettleBack}
use Rattle.law_two_way_runs.proofs.Turning.{Sound, IsSound, TablesAre, sound_after}
use Rattle.round_inverses.specs.Rounds.{inverse_rounds}
use Rattle.two_way_driver.specs.PeerStates.{PeerState}
use Rattle.two_way_driver.specs.Peers.{first_peer, settled_peer}
use Rattle.two_way_driver.specs.Drivers.{DriverState, peer_at, all_answered, running_round, asked_round}
use Rattle.two_way_driver.specs.Calls.{AreTurnable, IsStageWithin}
use Rattle.two_way_driver.specs.Laws.{phase_of}
use Rattle.two_way_driver.specs.declared.Stage.{Stage}
use Rattle.two_way_driver.specs.declared.Stage.TheVariants.{Settled, Onward, Undone}
use Rattle.two_way_driver.specs.declared.DriverOutput.{DriverOutput}
use Rattle.two_way_driver.proofs.PeerLaws.{each_round, settled_at}
use Rattle.law_wire.proofs.Entries.{HoldsBy}
use Rattle.law_wire.proofs.Batch.{IsXid, barrier_xid}
use Rattle.law_wire.proofs.Link.{Link}
use Rattle.law_wire.proofs.Asks.{idle_of, link_idle}
use Rattle.law_wire.proofs.Sides.{sides, named_at, way_of, flag_by, held_made, switch_is}

-- a dead switch: nothing is on the way to it, and nothing of it counts
pub record Gone (p : PeerState) (inbox : List Message) : Type 0 where
  pub empty : inbox ≡ []
  pub channel : p.channel ≡ first_channel
  pub behind : p.behind ≡ None

-- what stands around a driver
pub record Around : Type 0 where
  pub tables : List (List Rule)
  pub inbox : SwitchId → List Message
  pub outbox : SwitchId → List ℕ
  pub settles : ℕ
  pub packets : List Packet

module _ (u : Rollout) (good : AreGoodRounds u) (old : AllByRecursion IsTable u.old) (turnable : AreTurnable u.net u.rounds (inverse_rounds u.old u.rounds)) (sized : length u.old ≡ switch_count u.net) where
  abbrev pub inverses : List (List Change)
  inverses = inverse_rounds u.old u.rounds

  -- a switch is asked for what the round asks of it, with this xid
  pub record IsAsked (stage : Stage) (first : ℕ) (s : SwitchId) (x : ℕ) : Type 0 where
    pub changed : is_changed (asked_round u.rounds (inverse_rounds u.old u.rounds) stage) s ≡ true
    pub xid : x ≡ barrier_xid (xid_behind first (length (asked_round u.rounds (inverse_rounds u.old u.rounds) stage))) (asked_round u.rounds (inverse_rounds u.old u.rounds) stage) 0 s.0

  abbrev pub LinkAt : Stage → (SwitchId → Key → Bool) → SwitchId → PeerState → List Message → List ℕ → Type 0
  LinkAt stage on s p inbox outbox = Link (sides u stage s) (named_at u stage s) (way_of stage) (on s) p inbox outbox

  -- a switch that is dead, or one that isn't
  pub record Beside (stage : Stage) (on : SwitchId → Key → Bool) (s : SwitchId) (p : PeerState) (inbox : List Message) (outbox : List ℕ) : Type 0 where
    pub alive : p.is_dead ≡ false → Link (sides u stage s) (named_at u stage s) (way_of stage) (on s) p inbox outbox
    pub gone : p.is_dead ≡ true → Gone p inbox

  -- a round goes forward
  abbrev pub IsOnward : Stage → Type 0
  IsOnward (Settled k) = ⊥
  IsOnward (Onward k) = Unit {0}
  IsOnward (Undone k) = ⊥

  -- what was logged of a switch: all, where nothing is asked of it; in a round that goes forward nothing, where something is
  pub record LogsAt (stage : Stage) (s : SwitchId) (p : PeerState) (flag : Bool) : Type 0 where
    pub done : p.asked ≡ None → is_changed (running_round u.rounds stage) s ≡ true → flag ≡ way_of stage
    pub firm : IsOnward stage → is_some p.asked ≡ true → flag ≡ false

  -- where a switch isn't dead, its table is seen as it is
  pub record Keeps (d : DriverState) (w : Around) : Type 0 where
    pub on : SwitchId → Key → Bool
    pub seen : List (List Rule)
    pub like : (s : SwitchId) → (peer_at d s).is_dead ≡ false → rules_at seen s ≡ rules_at w.tables s
    pub holds : (s : SwitchId) → HoldsBy (sides u d.stage s) (on s) (rules_at seen s)
    pub count : length seen ≡ length u.old
    pub counted : length w.tables ≡ length u.old
    pub packets : AllByRecursion (IsSound u (phase_of d.stage) w.settles) w.packets
    pub links : (s : SwitchId) → s.0 < switch_count u.net → Beside d.stage on s (peer_at d s) (w.inbox s) (w.outbox s)
    pub logs : (s : SwitchId) → s.0 < switch_count u.net → LogsAt d.stage s (peer_at d s) (get_or d.in_force s.0 false)
    pub peers : length d.peers ≡ switch_count u.net
    pub flags : length d.in_force ≡ switch_count u.net
    pub first : IsXid d.first
    pub next : IsXid d.next
    pub within : IsStageWithin u.rounds d.stage
    pub asks : (s : SwitchId) → s.0 < switch_count u.net → (x : ℕ) → (peer_at d s).asked ≡ Some x → IsAsked d.stage d.first s x

  -- a round that runs waits for an answer of a switch that isn't dead
  abbrev pub IsSettledStage : Stage → Type 0
  IsSettledStage (Settled k) = Unit {0}
  IsSettledStage (Onward k) = ⊥
  IsSettledStage (Undone k) = ⊥

  abbrev pub NoneAsked : DriverState → Type 0
  NoneAsked d = (s : SwitchId) → s.0 < switch_count u.net → (peer_at d s).is_dead ≡ false → (peer_at d s).asked ≡ None

  abbrev pub Waits : DriverState → Type 0
  Waits d = NoneAsked d → IsSettledStage d.stage

  -- ---- as a state of a run both ways

  abbrev pub flags_of : Stage → (SwitchId → Key → Bool) → List Bool
  flags_of (Settled k) on = []
  flags_of (Onward k) on = map (flag_by on) (round_after k u.rounds)
  flags_of (Undone k) on = map (flag_by on) (round_after k u.rounds)

  abbrev pub as_two_way : Stage → (SwitchId → Key → Bool) → List (List Rule) → Around → TwoWayState
  as_two_way stage on seen w = record { phase = phase_of stage; tables = seen; in_force = flags_of stage on; settles = w.settles; packets = w.packets }

  tables_are : (stage : Stage) (on : SwitchId → Key → Bool) (seen : List (List Rule)) → IsStageWithin u.rounds stage → ((s : SwitchId) → HoldsBy (sides u stage s) (on s) (rules_at seen s))
      → TablesAre u (phase_of stage) seen (flags_of stage on)
  tables_are (Settled k) on seen within holds = (within, λ s. holds s)
  tables_are (Onward k) on seen within holds = (within, length-map (round_after k u.rounds) (flag_by on), λ s. held_made u good k within on s (rules_at seen s) (holds s))
  tables_are (Undone k) on seen within holds = (within, length-map (round_after k u.rounds) (flag_by on), λ s. held_made u good k within on s (rules_at seen s) (holds s))

  pub sound_of : (d : DriverState) (w : Around) (h : Keeps d w) → Sound u (as_two_way d.stage h.on h.seen w)
  sound_of d w h = record { count = h.count; tables = tables_are d.stage h.on h.seen h.within h.holds; packets = h.packets }

  -- ---- one switch

  pub beside_alive : (stage : Stage) (on : SwitchId → Key → Bool) (s : SwitchId) (p : PeerState) (inbox : List Message) (outbox : List ℕ) → p.is_dead ≡ false → LinkAt stage on s p inbox outbox → Beside stage on s p inbox outbox
  beside_alive stage on s p inbox outbox alive link = record { alive = λ _. link; gone = λ dead. absurd (both_ways p.is_dead alive dead) }

  pub beside_gone : (stage : Stage) (on : SwitchId → Key → Bool) (s : SwitchId) (p : PeerState) (inbox : List Message) (outbox : List ℕ) → p.is_dead ≡ true → Gone p inbox → Beside stage on s p inbox outbox
  beside_gone stage on s p inbox outbox dead gone = record { alive = λ alive. absurd (both_ways p.is_dead alive dead); gone = λ _. gone }

  pub keeps_peer : (d : DriverState) (w : Around) (s : SwitchId) (q : PeerState) (flags : List Bool) (said : List DriverOutput) (inbox : SwitchId → List Message) (outbox : SwitchId → List ℕ)
      → s.0 < switch_count u.net → (h : Keeps d w) → ((t : SwitchId) → t.0 ≢ s.0 → inbox t ≡ w.inbox t) → ((t : SwitchId) → t.0 ≢ s.0 → outbox t ≡ w.outbox t)
      → (q.is_dead ≡ false → (peer_at d s).is_dead ≡ false) → Beside d.stage h.on s q (inbox s) (outbox s) → ((x : ℕ) → q.asked ≡ Some x → IsAsked d.stage d.first s x)
      → length flags ≡ switch_count u.net → ((t : SwitchId) → t.0 ≢ s.0 → get_or flags t.0 false ≡ get_or d.in_force t.0 false) → LogsAt d.stage s q (get_or flags s.0 false)
      → Keeps (record d { peers = set d.peers s.0 q; in_force = flags; said = said }) (record w { inbox = inbox; outbox = outbox })
  keeps_peer d w s q flags said inbox outbox less h inboxes outboxes lives link asked count others logs = record {
    on = h.on;
    seen = h.seen;
    like = λ t alive. elim (cases_eq t.0 s.0) [
      | inl same ↦ (
          let here : t ≡ s = switch_is t s same in
          let now : get_or (set d.peers s.0 q) t.0 first_peer ≡ q = ap (λ (n : ℕ). get_or (set d.peers s.0 q) n first_peer) same ∙ get_or-set_same d.peers s.0 q first_peer short in
          subst (λ (x : SwitchId). rules_at h.seen x ≡ rules_at w.tables x) (sym here) (h.like s (lives (sym (ap (λ (r : PeerState). r.is_dead) now) ∙ alive))))
      | inr differs ↦ h.like t (sym (ap (λ (r : PeerState). r.is_dead) (get_or-set_other d.peers s.0 t.0 q first_peer differs)) ∙ alive)
    ];
    holds = h.holds;
    count = h.count;
    counted = h.counted;
    packets = h.packets;
    links = λ t within. elim (cases_eq t.0 s.0) [
      | inl same ↦ subst (λ (x : SwitchId). Beside d.stage h.on x (get_or (set d.peers s.0 q) x.0 first_peer) (inbox x) (outbox x)) (sym (switch_is t s same))
          (subst (λ r. Beside d.stage h.on s r (inbox s) (outbox s)) (sym (get_or-set_same d.peers s.0 q first_peer short)) link)
      | inr differs ↦ subst (λ r. Beside d.stage h.on t r (inbox t) (outbox t)) (sym (get_or-set_other d.peers s.0 t.0 q first_peer differs))
          (subst (λ l. Beside d.stage h.on t (peer_at d t) l (outbox t)) (sym (inboxes t differs))
          (subst (λ l. Beside d.stage h.on t (peer_at d t) (w.inbox t) l) (sym (outboxes t differs)) (h.links t within)))
    ];
    logs = λ t within. elim (cases_eq t.0 s.0) [
      | inl same ↦ subst (λ (x : SwitchId). LogsAt d.stage x (get_or (set d.peers s.0 q) x.0 first_peer) (get_or flags x.0 false)) (sym (switch_is t s same))
          (subst (λ r. LogsAt d.stage s r (get_or flags s.0 false)) (sym (get_or-set_same d.peers s.0 q first_peer short)) logs)
      | inr differs ↦ subst (λ r. LogsAt d.stage t r (get_or flags t.0 false)) (sym (get_or-set_other d.peers s.0 t.0 q first_peer differs))
          (subst (LogsAt d.stage t (peer_at d t)) (sym (others t differs)) (h.logs t within))
    ];
    peers = length-set d.peers s.0 q ∙ h.peers;
    flags = count;
    first = h.first;
    next = h.next;
    within = h.within;
    asks = λ t within x is. elim (cases_eq t.0 s.0) [
      | inl same ↦ (
          let here : t ≡ s = switch_is t s same in
          let now : get_or (set d.peers s.0 q) t.0 first_peer ≡ q = ap (λ (n : ℕ). get_or (set d.peers s.0 q) n first_peer) same ∙ get_or-set_same d.peers s.0 q first_peer short in
          subst (λ (y : SwitchId). IsAsked d.stage d.first y x) (sym here) (asked x (sym (ap (λ (r : PeerState). r.asked) now) ∙ is)))
      | inr differs ↦ h.asks t within x (sym (ap (λ (r : PeerState). r.asked) (get_or-set_other d.peers s.0 t.0 q first_peer differs)) ∙ is)
    ];
  }
    where
      short : s.0 < length d.peers
      short = let count = h.peers in omega arith

  -- other words, with as many settled rounds
  pub keeps_said : (d : DriverState) (w : Around) (said : List DriverOutput) (inbox : SwitchId → List Message) → (h : Keeps d w) → ((t : SwitchId) → inbox t ≡ w.inbox t)
      → Keeps (record d { said = said }) (record w { inbox = inbox })
  keeps_said d w said inbox h same = record {
    on = h.on;
    seen = h.seen;
    like = h.like;
    holds = h.holds;
    count = h.count;
    counted = h.counted;
    packets = h.packets;
    links = λ t within. subst (λ l. Beside d.stage h.on t (peer_at d t) l (w.outbox t)) (sym (same t)) (h.links t within);
    logs = h.logs;
    peers = h.peers;
    flags = h.flags;
    first = h.first;
    next = h.next;
    within = h.within;
    asks = h.asks;
  }

  -- ---- a round is settled

  in_net : (k : ℕ) (c : Change) → IsIn c (round_after k u.rounds) → (switch_of c).0 < switch_count u.net
  in_net k c at = (each_at (IsPlanChange u.net) (round_after k u.rounds) c (each_round (IsPlanChange u.net) u.rounds k turnable.plan) at).switch

  answered_or_dead : (o : Option ℕ) (dead : Bool) → o ≡ None → (is_none o || dead) ≡ true
  answered_or_dead o dead e = or_left (is_none o) dead (ap is_none e)

  dead_or_answered : (o : Option ℕ) (dead : Bool) → dead ≡ true → (is_none o || dead) ≡ true
  dead_or_answered o dead e = or_right (is_none o) dead e

  pub none_all : (peers : List PeerState) → ((i : ℕ) → i < length peers → (get_or peers i first_peer).is_dead ≡ false → (get_or peers i first_peer).asked ≡ None) → all_answered peers ≡ true
  none_all [] none = refl
  none_all (p ∷ peers) none =
      let rest = none_all peers (λ i lt. none (suc i) (omega arith)) in
      let first : (is_none p.asked || p.is_dead) ≡ true = elim (cases_Bool p.is_dead) [
        | inl dead ↦ dead_or_answered p.asked p.is_dead dead
        | inr alive ↦ answered_or_dead p.asked p.is_dead (none 0 (omega arith) alive)
      ] in
      and_from (is_none p.asked || p.is_dead) (all_answered peers) first rest

  -- dead switches are seen to have the tables of a side
  abbrev settled_table : Stage → Bool → SwitchId → PeerState → List Rule → List Rule
  settled_table stage g s p rules = cond p.is_dead (sides u stage s g) rules

  abbrev as_settled : Stage → Bool → ℕ → List PeerState → List (List Rule) → List (List Rule)
  as_settled stage g n peers [] = []
  as_settled stage g n [] (rules ∷ tables) = rules ∷ tables
  as_settled stage g n (p ∷ peers) (rules ∷ tables) = settled_table stage g (record { 0 = n }) p rules ∷ as_settled stage g (suc n) peers tables

  length-settled_tables : (stage : Stage) (g : Bool) (n : ℕ) (peers : List PeerState) (tables : List (List Rule)) → length (as_settled stage g n peers tables) ≡ length tables
  length-settled_tables stage g n peers [] = refl
  length-settled_tables stage g n [] (rules ∷ tables) = refl
  length-settled_tables stage g n (p ∷ peers) (rules ∷ tables) = ap suc (length-settled_tables stage g (suc n) peers tables)

  settled_here : (stage : Stage) (g : Bool) (n : ℕ) (peers : List PeerState) (tables : List (List Rule)) (i : ℕ) → i < length tables
      → get_or (as_settled stage g n peers tables) i [] ≡ settled_table stage g (record { 0 = n + i }) (get_or peers i first_peer) (get_or tables i [])
  settled_here stage g n peers [] i less = absurd (omega arith)
  settled_here stage g n [] (rules ∷ tables) zero less = refl
  settled_here stage g n [] (rules ∷ tables) (suc i) less = refl
  settled_here stage g n (p ∷ peers) (rules ∷ tables) zero less = let same : n ≡ n + zero = omega arith in ap (λ (j : ℕ). settled_table stage g (record { 0 = j }) p rules) same
  settled_here stage g n (p ∷ peers) (rules ∷ tables) (suc i) less =
      let same : suc n + i ≡ n + suc i = omega arith in
      settled_here stage g (suc n) peers tables i (omega arith) ∙ ap (λ (j : ℕ). settled_table stage g (record { 0 = j }) (get_or peers i first_peer) (get_or tables i [])) same

  settled_past : (stage : Stage) (g : Bool) (n : ℕ) (peers : List PeerState) (tables : List (List Rule)) (i : ℕ) → length tables ≤ i → get_or (as_settled stage g n peers tables) i [] ≡ get_or tables i []
  settled_past stage g n peers [] i le = refl
  settled_past stage g n [] (rules ∷ tables) i le = refl
  settled_past stage g n (p ∷ peers) (rules ∷ tables) zero le = absurd (omega arith)
  settled_past stage g n (p ∷ peers) (rules ∷ tables) (suc i) le = settled_past stage g (suc n) peers tables i (omega arith)

  -- a round is over for a switch: a dead one counts as done
  pub record Over (stage : Stage) (g : Bool) (d : DriverState) (w : Around) : Type 0 where
    pub on : SwitchId → Key → Bool
    pub seen : List (List Rule)
    pub like : (s : SwitchId) → (peer_at d s).is_dead ≡ false → rules_at seen s ≡ rules_at w.tables s
    pub holds : (s : SwitchId) → HoldsBy (sides u stage s) (on s) (rules_at seen s)
    pub count : length seen ≡ length u.old
    pub done : (s : SwitchId) → s.0 < switch_count u.net → (key : Key) → IsIn key (named_at u stage s) → on s key ≡ g

  is_over : (d : DriverState) (w : Around) (h : Keeps d w) → NoneAsked d → Over d.stage (way_of d.stage) d w
  is_over d w h none =
      let g = way_of d.stage in
      let seen = as_settled d.stage g 0 d.peers h.seen in
      let on : SwitchId → Key → Bool = λ s key. cond (peer_at d s).is_dead g (h.on s key) in
      record {
        on = on;
        seen = seen;
        like = λ s alive. at_alive s alive ∙ h.like s alive;
        holds = λ s. elim (cases_Bool (peer_at d s).is_dead) [
          | inl dead ↦ at_dead s dead
          | inr alive ↦ subst (λ (c : Bool). HoldsBy (sides u d.stage s) (λ key. cond c g (h.on s key)) (rules_at seen s)) (sym alive)
              (subst (HoldsBy (sides u d.stage s) (h.on s)) (sym (at_alive s alive)) (h.holds s))
        ];
        count = length-settled_tables d.stage g 0 d.peers h.seen ∙ h.count;
        done = λ s within key i. elim (cases_Bool (peer_at d s).is_dead) [
          | inl dead ↦ cond-true (peer_at d s).is_dead g (h.on s key) dead
          | inr alive ↦ cond-false (peer_at d s).is_dead g (h.on s key) alive ∙ (((h.links s within).alive alive).rest (none s within alive)).done key i
        ];
      }
    where
      at_alive : (s : SwitchId) → (peer_at d s).is_dead ≡ false → rules_at (as_settled d.stage (way_of d.stage) 0 d.peers h.seen) s ≡ rules_at h.seen s
      at_alive s alive =
          elim (cases_lt s.0 (length h.seen)) [
            | inl less ↦ settled_here d.stage (way_of d.stage) 0 d.peers h.seen s.0 less ∙ cond-false (peer_at d s).is_dead (sides u d.stage (record { 0 = 0 + s.0 }) (way_of d.stage)) (rules_at h.seen s) alive
            | inr le ↦ settled_past d.stage (way_of d.stage) 0 d.peers h.seen s.0 le
          ]

      within_peers : (peers : List PeerState) (i : ℕ) → (get_or peers i first_peer).is_dead ≡ true → i < length peers
      within_peers [] i dead = absurd (let f : false ≡ true = dead in cc)
      within_peers (p ∷ peers) zero dead = omega arith
      within_peers (p ∷ peers) (suc i) dead = let rest = within_peers peers i dead in omega arith

      at_dead : (s : SwitchId) → (peer_at d s).is_dead ≡ true
          → HoldsBy (sides u d.stage s) (λ key. cond (peer_at d s).is_dead (way_of d.stage) (h.on s key)) (rules_at (as_settled d.stage (way_of d.stage) 0 d.peers h.seen) s)
      at_dead s dead =
          let Side : Bool → List Rule = sides u d.stage s in
          elim (cases_lt s.0 (length h.seen)) [
            | inl less ↦ (
                let place : 0 + s.0 ≡ s.0 = omega arith in
                let same : rules_at (as_settled d.stage (way_of d.stage) 0 d.peers h.seen) s ≡ sides u d.stage s (way_of d.stage) =
                settled_here d.stage (way_of d.stage) 0 d.peers h.seen s.0 less ∙ cond-true (peer_at d s).is_dead (sides u d.stage (record { 0 = 0 + s.0 }) (way_of d.stage)) (rules_at h.seen s) dead
                ∙ ap (λ (n : ℕ). sides u d.stage (record { 0 = n }) (way_of d.stage)) place in
                subst (λ (c : Bool). HoldsBy (sides u d.stage s) (λ key. cond c (way_of d.stage) (h.on s key)) (rules_at (as_settled d.stage (way_of d.stage) 0 d.peers h.seen) s)) (sym dead)
                (subst (HoldsBy (sides u d.stage s) (λ key. way_of d.stage)) (sym same) (λ r. ((λ i. i), (λ i. i)))))
            | inr le ↦ absurd (
                let count = h.count in
                let size = sized in
                let none = within_peers d.peers s.0 dead in
                let peers = h.peers in
                omega arith)
          ]

  flags_done : (on : SwitchId → Key → Bool) (k : ℕ) (b : Bool) → ((s : SwitchId) → s.0 < switch_count u.net → (key : Key) → IsIn key (map key_named (changes_at s (round_after k u.rounds))) → on s key ≡ b)
      → AllByRecursion (λ x. x ≡ b) (map (flag_by on) (round_after k u.rounds))
  flags_done on k b done =
      each_map (flag_by on) (λ x. x ≡ b) (round_after k u.rounds) (each_from_in (λ c. flag_by on c ≡ b) (round_after k u.rounds) (λ c at.
      done (switch_of c) (in_net k c at) (key_named c) (in_map key_named c (changes_at (switch_of c) (round_after k u.rounds))
      (in_filter (λ (e : Change). eqb (switch_of e).0 (switch_of c).0) c (round_after k u.rounds) at (eq-eqb (switch_of c).0 (switch_of c).0 refl)))))

  -- all switches that aren't dead are idle, so the links stand in the stage behind
  settled_dead : (p : PeerState) → (settled_peer p).is_dead ≡ p.is_dead
  settled_dead p = cond_both p.is_dead (record p { asked = None }) p (λ (q : PeerState). q.is_dead ≡ p.is_dead) (λ e. refl) (λ e. refl)

  settled_asks : (p : PeerState) → (p.is_dead ≡ false → p.asked ≡ None) → (settled_peer p).asked ≡ None
  settled_asks p none = cond_both p.is_dead (record p { asked = None }) p (λ (q : PeerState). q.asked ≡ None) (λ e. refl) (λ e. none e)

  settled_alive : (p : PeerState) → p.is_dead ≡ false → settled_peer p ≡ p
  settled_alive p alive = cond-false p.is_dead (record p { asked = None }) p alive

  settled_gone : (p : PeerState) (inbox : List Message) → Gone p inbox → Gone (settled_peer p) inbox
  settled_gone p inbox g = cond_both p.is_dead (record p { asked = None }) p (λ (q : PeerState). Gone q inbox) (λ e. record { empty = g.empty; channel = g.channel; behind = g.behind }) (λ e. g)

  links_settled : (j : ℕ) (on : SwitchId → Key → Bool) (d : DriverState) (w : Around) (h : Keeps d w) → NoneAsked d → (s : SwitchId) → s.0 < switch_count u.net
      → Beside (Settled j) on s (get_or (map settled_peer d.peers) s.0 first_peer) (w.inbox s) (w.outbox s)
  links_settled j on d w h none s within =
      subst (λ q. Beside (Settled j) on s q (w.inbox s) (w.outbox s)) (sym (settled_at d.peers s.0))
      (elim (cases_Bool (peer_at d s).is_dead) [
        | inl dead ↦ beside_gone (Settled j) on s (settled_peer (peer_at d s)) (w.inbox s) (w.outbox s) (settled_dead (peer_at d s) ∙ dead) (settled_gone (peer_at d s) (w.inbox s) ((h.links s within).gone dead))
        | inr alive ↦ (
            let asked = none s within alive in
            subst (λ q. Beside (Settled j) on s q (w.inbox s) (w.outbox s)) (sym (settled_alive (peer_at d s) alive))
            (beside_alive (Settled j) on s (peer_at d s) (w.inbox s) (w.outbox s) alive
            (link_idle (sides u (Settled j) s) (named_at u (Settled j) s) true (on s) (peer_at d s) (w.inbox s) (w.outbox s)
            (idle_of (sides u d.stage s) (named_at u d.stage s) (way_of d.stage) (h.on s) (peer_at d s) (w.inbox s) (w.outbox s) ((h.links s within).alive alive) asked) asked (λ key i. absurd i))))
      ])

  asks_settled : (d : DriverState) → NoneAsked d → (s : SwitchId) → s.0 < switch_count u.net → (get_or (map settled_peer d.peers) s.0 first_peer).asked ≡ None
  asks_settled d none s within = ap (λ (q : PeerState). q.asked) (settled_at d.peers s.0) ∙ settled_asks (peer_at d s) (none s within)

  like_settled : (stage : Stage) (d : DriverState) (w : Around) (o : Over stage (way_of stage) d w) (s : SwitchId) → (get_or (map settled_peer d.peers) s.0 first_peer).is_dead ≡ false → rules_at o.seen s ≡ rules_at w.tables s
  like_settled stage d w o s alive = o.like s (sym (settled_dead (peer_at d s)) ∙ sym (ap (λ (q : PeerState). q.is_dead) (settled_at d.peers s.0)) ∙ alive)

  pub settle_onward : (k : ℕ) (d : DriverState) (w : Around) (said : List DriverOutput) (inbox : SwitchId → List Message) → (h : Keeps (record d { stage = Onward k }) w) → NoneAsked d
      → ((t : SwitchId) → inbox t ≡ w.inbox t) → Keeps (record d { stage = Settled (suc k); peers = map settled_peer d.peers; said = said }) (record w { inbox = inbox; settles = suc w.settles })
  settle_onward k d w said inbox h none same =
      let e : DriverState = record d { stage = Onward k } in
      let o = is_over e w h none in
      let sound : Sound u (as_two_way (Onward k) o.on o.seen w) = record { count = o.count; tables = tables_are (Onward k) o.on o.seen h.within o.holds; packets = h.packets } in
      let on = flags_done o.on k true o.done in
      let next = sound_after u good (as_two_way (Onward k) o.on o.seen w) (onward event.Settle) sound (record { k = suc k; running = refl; all_in_force = on }) in
      record {
        on = o.on;
        seen = o.seen;
        like = like_settled (Onward k) e w o;
        holds = next.tables.1;
        count = o.count;
        counted = h.counted;
        packets = next.packets;
        links = λ t within. subst (λ l. Beside (Settled (suc k)) o.on t (get_or (map settled_peer d.peers) t.0 first_peer) l (w.outbox t)) (sym (same t)) (links_settled (suc k) o.on e w h none t within);
        logs = λ t within. record { done = λ asked changed. absurd (let f : false ≡ true = changed in cc); firm = λ onward some. absurd onward };
        peers = length-map d.peers settled_peer ∙ h.peers;
        flags = h.flags;
        first = h.first;
        next = h.next;
        within = next.tables.0;
        asks = λ t within x is. absurd (let f : Some x ≡ None = sym is ∙ asks_settled e none t within in cc);
      }

  pub settle_back : (k : ℕ) (d : DriverState) (w : Around) (said : List DriverOutput) (inbox : SwitchId → List Message) → (h : Keeps (record d { stage = Undone k }) w) → NoneAsked d
      → ((t : SwitchId) → inbox t ≡ w.inbox t) → Keeps (record d { stage = Settled k; peers = map settled_peer d.peers; said = said }) (record w { inbox = inbox; settles = suc w.settles })
  settle_back k d w said inbox h none same =
      let e : DriverState = record d { stage = Undone k } in
      let o = is_over e w h none in
      let sound : Sound u (as_two_way (Undone k) o.on o.seen w) = record { count = o.count; tables = tables_are (Undone k) o.on o.seen h.within o.holds; packets = h.packets } in
      let off = flags_done o.on k false o.done in
      let next = sound_after u good (as_two_way (Undone k) o.on o.seen w) SettleBack sound (record { k = k; running = refl; none_in_force = off }) in
      record {
        on = o.on;
        seen = o.seen;
        like = like_settled (Undone k) e w o;
        holds = next.tables.1;
        count = o.count;
        counted = h.counted;
        packets = next.packets;
        links = λ t within. subst (λ l. Beside (Settled k) o.on t (get_or (map settled_peer d.peers) t.0 first_peer) l (w.outbox t)) (sym (same t)) (links_settled k o.on e w h none t within);
        logs = λ t within. record { done = λ asked changed. absurd (let f : false ≡ true = changed in cc); firm = λ onward some. absurd onward };
        peers = length-map d.peers settled_peer ∙ h.peers;
        flags = h.flags;
        first = h.first;
        next = h.next;
        within = next.tables.0;
        asks = λ t within x is. absurd (let f : Some x ≡ None = sym is ∙ asks_settled e none t within in cc);
      }
