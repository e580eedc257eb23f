-- What follows of the states on the wire.
use Rattle.std.proofs.Common.{◌≡◌, ℕ, suc, ◌<◌, Bool, true, false, cond, ltb, List, [], ◌∷◌, ◌++◌, length, map, not, refl, sym, ◌∙◌, subst, ap, inl, inr, append-nil, length-append, arith, ◌≤◌, get_or}
use Rattle.std.specs.Prelude.{◌↔◌, Option, Some, None, is_some, ◌==◌}
use Rattle.std.specs.List.{AllByRecursion, concat}
use Rattle.std.proofs.lemmas.Bool.{cond-false, le-ltb, both_ways}
use Rattle.net_base.specs.Members.{IsIn, IsSameSet}
use Rattle.net_base.proofs.MemberLaws.{each_weaker, same_through}
use Rattle.net_base.specs.declared.ids.SwitchId.{SwitchId}
use Rattle.topology.specs.Networks.{switch_count, capacity_of}
use Rattle.flow_rules.specs.Tables.{IsTable, rules_at}
use Rattle.flow_rules.specs.declared.rules.Key.{Key}
use Rattle.flow_rules.specs.declared.rules.Rule.{Rule}
use Rattle.path_walk.specs.UserConfigs.{IsUserConfig}
use Rattle.update_model.specs.Changes.{changes_at, round_after, switch_of}
use Rattle.update_model.specs.Mixtures.{Rollout, AreGoodRounds, IsMixture, tables_before, need_of}
use Rattle.update_model.specs.declared.Packet.{Packet}
use Rattle.update_model.proofs.ChangeLaws.{key_named}
use Rattle.update_model.proofs.MadeLaws.{made_of, made_some, at_some}
use Rattle.certificates.specs.Certified.{IsCertified, is_two_phase}
use Rattle.certificates.specs.Consistent.{IsConsistentPacket}
use Rattle.certificates.specs.Updates.{Task, rollout}
use Rattle.certificates.specs.declared.Evidence.{Evidence}
use Rattle.certificates.proofs.Consistency.{packet_consistent}
use Rattle.switch_session.specs.Fronts.{front_of, by_header, is_wrong_version, is_wrong_length, version_in, type_in, length_in}
use Rattle.switch_session.specs.Channels.{is_failed}
use Rattle.switch_session.specs.Laws.{IsWhole}
use Rattle.switch_session.specs.declared.Cause.TheVariants as cause
use Rattle.switch_session.specs.declared.Session.{Session}
use Rattle.switch_session.specs.declared.Session.TheVariants.{Open}
use Rattle.switch_session.specs.declared.fronts.Front.TheVariants.{Short, Fault, Message as Whole}
use Rattle.switch_session.proofs.FrontLaws.{number_at-front}
use Rattle.law_two_way_runs.proofs.Turning.{IsSound}
use Rattle.round_inverses.specs.Rounds.{inverse_rounds}
use Rattle.two_way_driver.specs.PeerStates.{PeerState}
use Rattle.two_way_driver.specs.Drivers.{peer_at}
use Rattle.two_way_driver.specs.Calls.{AreTurnable, IsStageWithin}
use Rattle.two_way_driver.specs.Laws.{phase_of, Call, IsCall}
use Rattle.two_way_driver.specs.declared.Stage.{Stage}
use Rattle.two_way_driver.specs.declared.Stage.TheVariants.{Settled, Onward, Undone}
use Rattle.law_wire.specs.Network.{state_on_wire, driver_at, stage_at, IsUnderWayIn, is_gone, logged_state}
use Rattle.law_wire.specs.Laws.{IsWireConsistent, IsStageTable, goal_of, AreTablesOnWire, IsNeverStuck, changes_on, changes_off, pending_by}
use Rattle.law_wire.proofs.Entries.{HoldsBy, left_alone}
use Rattle.law_wire.proofs.Bytes.{Stream, replies_in}
use Rattle.law_wire.proofs.Link.{option_list, Link, ShapeBy}
use Rattle.law_wire.proofs.Sides.{sides, named_at, way_of, flag_by, held_made, applies_at, distinct_at, next_at, back_is}
use Rattle.law_wire.proofs.Keeps.{IsSettledStage, LinkAt, IsOnward}
use Rattle.law_wire.proofs.Runs.{on_wire}
use Rattle.law_wire.proofs.Room.{AllOnce, StageFits, has_room, once_on_wire}
use Rattle.law_wire.proofs.Pending.{not_at, flagged_at, filter_two, inverse_at_switch, from_before, from_behind, mixed_none, flip}
use Rattle.law_wire.proofs.Logged.{FlagsAt, FlagsIn, logged_at, flags_logged}
use Rattle.law_two_way_runs.specs.Inverse.{inverse_round}
use Rattle.std.proofs.lemmas.List.{length-map}

-- ---- a whole message isn't short

short_of : (a b c : Bool) (n : ℕ) → c ≡ false → cond a (Fault cause.Version) (cond b (Fault cause.Length) (cond c Short (Whole n))) ≡ Short → ⊥
short_of true b c n f e = absurd (let g : Fault cause.Version ≡ Short = e in cc)
short_of false true c n f e = absurd (let g : Fault cause.Length ≡ Short = e in cc)
short_of false false true n f e = absurd (let g : true ≡ false = f in cc)
short_of false false false n f e = absurd (let g : Whole n ≡ Short = e in cc)

whole_not_short : (m rest : List ℕ) → IsWhole m → front_of (m ++ rest) ≡ Short → ⊥
unfolding front_of
whole_not_short m rest whole short =
    let bytes = m ++ rest in
    let count = length-append m rest in
    let header = whole.header in
    let size = whole.size in
    let said : length_in bytes ≡ length_in m = number_at-front 2 2 m rest (omega arith) in
    let come : ltb (length bytes) 8 ≡ false = le-ltb (length bytes) 8 (omega arith) in
    let enough : ltb (length bytes) (length_in bytes) ≡ false = le-ltb (length bytes) (length_in bytes) (omega arith) in
    short_of (is_wrong_version (version_in bytes) (type_in bytes)) (is_wrong_length (type_in bytes) (length_in bytes)) (ltb (length bytes) (length_in bytes)) (length_in bytes) enough
    (sym (cond-false (ltb (length bytes) 8) Short (by_header (version_in bytes) (type_in bytes) (length_in bytes) (length bytes)) come) ∙ short)

no_messages : (unread : List ℕ) (messages : List (List ℕ)) → Stream unread [] messages → messages ≡ []
no_messages unread [] h = refl
no_messages unread (m ∷ messages) h =
    absurd (whole_not_short m (concat messages) h.whole.0 (ap front_of (sym (sym (append-nil unread) ∙ h.bytes)) ∙ h.short))

-- ---- tables of a configuration

each_table : (tables : List (List Rule)) → ((s : SwitchId) → IsTable (rules_at tables s)) → AllByRecursion IsTable tables
each_table [] all = tt
each_table (t ∷ tables) all = (all (record { 0 = 0 }), each_table tables (λ s. all (record { 0 = suc s.0 })))

module _ (u : Rollout) (good : AreGoodRounds u) (old : AllByRecursion IsTable u.old) (turnable : AreTurnable u.net u.rounds (inverse_rounds u.old u.rounds)) (sized : length u.old ≡ switch_count u.net) where
  -- ---- tables

  mixture_of : (k : ℕ) → k < length u.rounds → (on : SwitchId → Key → Bool) (s : SwitchId) (rules : List Rule)
      → HoldsBy (λ b. cond b (rules_at (tables_before u (suc k)) s) (rules_at (tables_before u k) s)) (on s) rules
      → IsMixture (rules_at (tables_before u k) s) (changes_at s (round_after k u.rounds)) rules
  mixture_of k less on s rules holds =
      let flags = map not (map (flag_by on) (round_after k u.rounds)) in
      record {
        made = changes_at s (made_of flags (round_after k u.rounds));
        some = at_some s (made_of flags (round_after k u.rounds)) (round_after k u.rounds) (made_some flags (round_after k u.rounds));
        same = held_made u good k less on s rules holds;
      }

  table_of : (stage : Stage) → IsStageWithin u.rounds stage → (on : SwitchId → Key → Bool) (s : SwitchId) (rules : List Rule) → HoldsBy (sides u stage s) (on s) rules → IsStageTable u stage s rules
  table_of (Settled k) within on s rules holds = holds
  table_of (Onward k) within on s rules holds = mixture_of k within on s rules holds
  table_of (Undone k) within on s rules holds = mixture_of k within on s rules holds

  -- a table all of whose entries that the round changes are on one side
  one_side : (k : ℕ) → k < length u.rounds → (on : Key → Bool) (s : SwitchId) (rules : List Rule) (b : Bool)
      → HoldsBy (λ c. cond c (rules_at (tables_before u (suc k)) s) (rules_at (tables_before u k) s)) on rules
      → ((key : Key) → IsIn key (map key_named (changes_at s (round_after k u.rounds))) → on key ≡ b)
      → (r : Rule) → IsIn r rules ↔ IsIn r (cond b (rules_at (tables_before u (suc k)) s) (rules_at (tables_before u k) s))
  one_side k less on s rules b holds done r = ((λ i. to (on r.key) refl ((holds r).0 i)), (λ i. (holds r).1 (from (on r.key) refl i)))
    where
      Side : Bool → List Rule
      Side c = cond c (rules_at (tables_before u (suc k)) s) (rules_at (tables_before u k) s)

      alone : ¬ IsIn r.key (map key_named (changes_at s (round_after k u.rounds))) → IsIn r (rules_at (tables_before u k) s) ↔ IsIn r (rules_at (tables_before u (suc k)) s)
      alone none =
          subst (λ t. IsIn r (rules_at (tables_before u k) s) ↔ IsIn r t) (sym (next_at u good k less s))
          (left_alone (rules_at (tables_before u k) s) (changes_at s (round_after k u.rounds)) (applies_at u good k less s) (distinct_at u good k less s) r none)

      differ : (c e : Bool) → c ≡ true → e ≡ false → on r.key ≡ c → b ≡ e → ¬ IsIn r.key (map key_named (changes_at s (round_after k u.rounds)))
      differ c e ct ef at is i = let f : true ≡ false = sym ct ∙ sym at ∙ done r.key i ∙ is ∙ ef in cc

      differ_back : on r.key ≡ false → b ≡ true → ¬ IsIn r.key (map key_named (changes_at s (round_after k u.rounds)))
      differ_back at is i = let f : true ≡ false = sym is ∙ sym (done r.key i) ∙ at in cc

      to : (c : Bool) → on r.key ≡ c → IsIn r (cond c (rules_at (tables_before u (suc k)) s) (rules_at (tables_before u k) s)) → IsIn r (cond b (rules_at (tables_before u (suc k)) s) (rules_at (tables_before u k) s))
      to c at i = go b refl c at i
        where
          go : (e : Bool) → b ≡ e → (c : Bool) → on r.key ≡ c → IsIn r (cond c (rules_at (tables_before u (suc k)) s) (rules_at (tables_before u k) s)) → IsIn r (cond e (rules_at (tables_before u (suc k)) s) (rules_at (tables_before u k) s))
          go true is true at i = i
          go false is false at i = i
          go true is false at i = (alone (differ_back at is)).0 i
          go false is true at i = (alone (differ true false refl refl at is)).1 i

      from : (c : Bool) → on r.key ≡ c → IsIn r (cond b (rules_at (tables_before u (suc k)) s) (rules_at (tables_before u k) s)) → IsIn r (cond c (rules_at (tables_before u (suc k)) s) (rules_at (tables_before u k) s))
      from c at i = go b refl c at i
        where
          go : (e : Bool) → b ≡ e → (c : Bool) → on r.key ≡ c → IsIn r (cond e (rules_at (tables_before u (suc k)) s) (rules_at (tables_before u k) s)) → IsIn r (cond c (rules_at (tables_before u (suc k)) s) (rules_at (tables_before u k) s))
          go true is true at i = i
          go false is false at i = i
          go true is false at i = (alone (differ_back at is)).1 i
          go false is true at i = (alone (differ true false refl refl at is)).0 i

  goal_reached : (stage : Stage) → IsStageWithin u.rounds stage → (on : Key → Bool) (s : SwitchId) (rules : List Rule) → HoldsBy (sides u stage s) on rules
      → ((key : Key) → IsIn key (named_at u stage s) → on key ≡ way_of stage) → IsSameSet rules (goal_of u stage s)
  goal_reached (Settled k) within on s rules holds done = holds
  goal_reached (Onward k) within on s rules holds done = one_side k within on s rules true holds done
  goal_reached (Undone k) within on s rules holds done = one_side k within on s rules false holds done

  -- ---- what is pending

  module _ (k : ℕ) (less : k < length u.rounds) (calls : List Call) (ok : AllByRecursion (IsCall u.net) calls) (flags : List Bool) (s : SwitchId) where
    off_at : (b : Bool) → FlagsAt u good turnable calls ok k flags s b → changes_at s (changes_off flags (round_after k u.rounds)) ≡ cond (not b) (changes_at s (round_after k u.rounds)) []
    off_at b f = flagged_at (map not flags) (round_after k u.rounds) s (not b) (length-map flags not ∙ f.count) (λ i c at here. not_at flags i b (f.are i c at here))

    on_at : (b : Bool) → FlagsAt u good turnable calls ok k flags s b → changes_at s (changes_on flags (round_after k u.rounds)) ≡ cond b (changes_at s (round_after k u.rounds)) []
    on_at b f = flagged_at flags (round_after k u.rounds) s b f.count f.are

    back_at : FlagsAt u good turnable calls ok k flags s true
        → changes_at s (inverse_round (tables_before u k) (changes_on flags (round_after k u.rounds)) ++ changes_off flags (round_after k u.rounds)) ≡ changes_at s (round_after k (inverse_rounds u.old u.rounds))
    back_at f =
        filter_two (λ c. (switch_of c).0 == s.0) (inverse_round (tables_before u k) (changes_on flags (round_after k u.rounds))) (changes_off flags (round_after k u.rounds))
        ∙ ap (λ l. changes_at s (inverse_round (tables_before u k) (changes_on flags (round_after k u.rounds))) ++ l) (off_at true f)
        ∙ append-nil (changes_at s (inverse_round (tables_before u k) (changes_on flags (round_after k u.rounds))))
        ∙ inverse_at_switch (tables_before u k) s (changes_on flags (round_after k u.rounds)) ∙ ap (inverse_round (tables_before u k)) (on_at true f)
        ∙ sym (inverse_at_switch (tables_before u k) s (round_after k u.rounds)) ∙ ap (changes_at s) (sym (back_is u good k less old))

    forth_at : FlagsAt u good turnable calls ok k flags s false
        → changes_at s (inverse_round (tables_before u k) (changes_on flags (round_after k u.rounds)) ++ changes_off flags (round_after k u.rounds)) ≡ changes_at s (round_after k u.rounds)
    forth_at f =
        filter_two (λ c. (switch_of c).0 == s.0) (inverse_round (tables_before u k) (changes_on flags (round_after k u.rounds))) (changes_off flags (round_after k u.rounds))
        ∙ ap (λ l. l ++ changes_at s (changes_off flags (round_after k u.rounds)))
        (inverse_at_switch (tables_before u k) s (changes_on flags (round_after k u.rounds)) ∙ ap (inverse_round (tables_before u k)) (on_at false f))
        ∙ off_at false f

    -- a table between those before the round and those behind it, beside a logged one
    logged_onward : (on : Key → Bool) (rules logged : List Rule) (b : Bool) → HoldsBy (λ c. cond c (rules_at (tables_before u (suc k)) s) (rules_at (tables_before u k) s)) on rules
        → IsSameSet logged (cond b (rules_at (tables_before u (suc k)) s) (rules_at (tables_before u k) s)) → FlagsAt u good turnable calls ok k flags s b
        → (b ≡ true → IsSameSet rules (rules_at (tables_before u (suc k)) s)) → IsMixture logged (changes_at s (changes_off flags (round_after k u.rounds))) rules
    logged_onward on rules logged true holds same f firm =
        mixed_none logged rules (changes_at s (changes_off flags (round_after k u.rounds))) (same_through rules (rules_at (tables_before u (suc k)) s) logged (firm refl) (flip logged (rules_at (tables_before u (suc k)) s) same))
    logged_onward on rules logged false holds same f firm =
        subst (λ cs. IsMixture logged cs rules) (sym (off_at false f)) (from_before u good old k less s on rules logged holds same)

    logged_undone : (on : Key → Bool) (rules logged : List Rule) (b : Bool) → HoldsBy (λ c. cond c (rules_at (tables_before u (suc k)) s) (rules_at (tables_before u k) s)) on rules
        → IsSameSet logged (cond b (rules_at (tables_before u (suc k)) s) (rules_at (tables_before u k) s)) → FlagsAt u good turnable calls ok k flags s b
        → IsMixture logged (changes_at s (inverse_round (tables_before u k) (changes_on flags (round_after k u.rounds)) ++ changes_off flags (round_after k u.rounds))) rules
    logged_undone on rules logged true holds same f = subst (λ cs. IsMixture logged cs rules) (sym (back_at f)) (from_behind u good old k less s on rules logged holds same)
    logged_undone on rules logged false holds same f = subst (λ cs. IsMixture logged cs rules) (sym (forth_at f)) (from_before u good old k less s on rules logged holds same)

  logged_by : (stage : Stage) → IsStageWithin u.rounds stage → (calls : List Call) (ok : AllByRecursion (IsCall u.net) calls) (flags : List Bool) (s : SwitchId) (on : Key → Bool) (rules logged : List Rule) (b : Bool)
      → HoldsBy (sides u stage s) on rules → IsSameSet logged (sides u stage s b) → FlagsIn u good turnable calls ok stage flags s b
      → (IsOnward u good old turnable sized stage → b ≡ true → IsSameSet rules (goal_of u stage s)) → IsMixture logged (changes_at s (pending_by u stage flags)) rules
  logged_by (Settled k) within calls ok flags s on rules logged b holds same f firm =
      mixed_none logged rules [] (same_through rules (rules_at (tables_before u k) s) logged holds (flip logged (rules_at (tables_before u k) s) same))
  logged_by (Onward k) within calls ok flags s on rules logged b holds same f firm = logged_onward k within calls ok flags s on rules logged b holds same f (firm tt)
  logged_by (Undone k) within calls ok flags s on rules logged b holds same f firm = logged_undone k within calls ok flags s on rules logged b holds same f

  pub tables_on_wire : (fits : (k : ℕ) (s : SwitchId) → k < length u.rounds → s.0 < switch_count u.net → need_of u k s ≤ capacity_of u.net s) → AllOnce u.old
      → ((s : SwitchId) → s.0 < switch_count u.net → length (rules_at u.old s) ≤ capacity_of u.net s) → AreTablesOnWire u
  tables_on_wire fits once_old old_fits events run =
      let st = state_on_wire u events in
      let h = on_wire u good old turnable sized events run in
      let mixed : (s : SwitchId) → s.0 < switch_count u.net → is_gone u st s ≡ false → IsStageTable u (stage_at u st.calls) s (rules_at st.tables s) = λ s less alive.
      subst (IsStageTable u (stage_at u st.calls) s) (h.keeps.like s alive) (table_of (stage_at u st.calls) h.keeps.within h.keeps.on s (rules_at h.keeps.seen s) (h.keeps.holds s)) in
      record {
        mixed = mixed;
        answered = λ s less alive none. subst (λ t. IsSameSet t (goal_of u (stage_at u st.calls) s)) (h.keeps.like s alive)
            (goal_reached (stage_at u st.calls) h.keeps.within (h.keeps.on s) s (rules_at h.keeps.seen s) (h.keeps.holds s) (((h.keeps.links s less).alive alive).rest none).done);
        logged = λ s less alive.
            let d = (driver_at u st.calls).state in
            let b = get_or d.in_force s.0 false in
            let link = (h.keeps.links s less).alive alive in
            subst (IsMixture (rules_at (logged_state u st.calls).tables s) (changes_at s (pending_by u (stage_at u st.calls) (logged_state u st.calls).in_force))) (h.keeps.like s alive)
            (logged_by (stage_at u st.calls) h.keeps.within st.calls h.calls (logged_state u st.calls).in_force s (h.keeps.on s) (rules_at h.keeps.seen s) (rules_at (logged_state u st.calls).tables s) b
            (h.keeps.holds s) (logged_at u good turnable st.calls h.calls s) (flags_logged u good turnable st.calls h.calls s)
            (λ onward flag.
            let none = asked_none (peer_at d s).asked (λ some. both_ways b ((h.keeps.logs s less).firm onward some) flag) in
            goal_reached (stage_at u st.calls) h.keeps.within (h.keeps.on s) s (rules_at h.keeps.seen s) (h.keeps.holds s) (link.rest none).done));
        fits = λ s less alive. has_room u good fits once_old old_fits (stage_at u st.calls) (within_stage (stage_at u st.calls) h.keeps.within) s less (rules_at st.tables s) (once_on_wire u once_old events run s) (mixed s less alive);
      }
    where
      asked_none : (o : Option ℕ) → (is_some o ≡ true → ⊥) → o ≡ None
      asked_none None never = refl
      asked_none (Some x) never = absurd (never refl)

      within_stage : (stage : Stage) → IsStageWithin u.rounds stage → StageFits u good fits once_old old_fits stage
      within_stage (Settled k) h = h
      within_stage (Onward k) h = h
      within_stage (Undone k) h = h

  -- ---- never stuck

  dealt_none : (g : Bool) (side : Bool → List Rule) (named : List Key) (on : Key → Bool) (p : PeerState) → p.channel.session ≡ Open → Link side named g on p [] [] → p.asked ≡ None
  dealt_none g side named on p open_now l = go p.asked refl
    where
      none_some : (o : Option ℕ) → o ≡ None → is_some o ≡ true → ⊥
      none_some None e s = let f : false ≡ true = s in cc
      none_some (Some x) e s = let f : Some x ≡ None = e in cc

      first_empty : (o : Option ℕ) (xs : List ℕ) → option_list o ++ xs ≡ [] → o ≡ None
      first_empty None xs e = refl
      first_empty (Some x) xs e = absurd (let f : x ∷ xs ≡ [] = e in cc)

      go : (o : Option ℕ) → p.asked ≡ o → p.asked ≡ None
      go None e = e
      go (Some x) e =
          let live = l.live (ap is_failed open_now) in
          let shape : ShapeBy side named Open g on p [] live.messages = subst (λ (s : Session). ShapeBy side named s g on p [] live.messages) open_now (live.shape (ap is_some e)) in
          let none = no_messages p.channel.unread live.messages live.stream in
          let waits : option_list p.channel.outstanding ++ option_list p.behind ≡ [] = live.order ∙ ap (λ ms. replies_in ms ++ []) none in
          absurd (none_some p.channel.outstanding (first_empty p.channel.outstanding (option_list p.behind) waits) shape.0)

  stage_settled : (stage : Stage) → IsSettledStage u good old turnable sized stage → ¬ IsUnderWayIn stage
  stage_settled (Settled k) settled under = under
  stage_settled (Onward k) settled under = absurd settled
  stage_settled (Undone k) settled under = absurd settled

  pub is_never_stuck : IsNeverStuck u
  is_never_stuck events run done =
      let st = state_on_wire u events in
      let h = on_wire u good old turnable sized events run in
      stage_settled (stage_at u st.calls) (h.waits (λ s less alive.
      let d = done s less alive in
      dealt_none (way_of (stage_at u st.calls)) (sides u (stage_at u st.calls) s) (named_at u (stage_at u st.calls) s) (h.keeps.on s) (peer_at (driver_at u st.calls).state s) d.session
      (subst (λ l. LinkAt u good old turnable sized (stage_at u st.calls) h.keeps.on s (peer_at (driver_at u st.calls).state s) l []) d.inbox
      (subst (LinkAt u good old turnable sized (stage_at u st.calls) h.keeps.on s (peer_at (driver_at u st.calls).state s) (st.inbox s)) d.outbox ((h.keeps.links s less).alive alive)))))

-- ---- of a certified plan

module _ (t : Task) (evidence : Evidence) (old_user : IsUserConfig t.update.net t.update.old) (new_user : IsUserConfig t.update.net t.update.new) (certified : IsCertified t evidence)
    (turnable : AreTurnable t.update.net t.rounds (inverse_rounds t.update.old t.rounds)) where
  tables_old : AllByRecursion IsTable t.update.old
  tables_old = each_table t.update.old old_user.distinct

  -- what holds of a packet whenever it was born
  born_anytime : (p : Packet) (k : ℕ) → IsConsistentPacket t.update (is_two_phase evidence) (record p { born = k }) → IsConsistentPacket t.update (is_two_phase evidence) p
  born_anytime p k c = record {
    good = c.good;
    version = λ two. elim (c.version two) [
      | inl f ↦ inl (record { path = f.path; is_path = f.is_path; begins = f.begins; whole = f.whole })
      | inr f ↦ inr (record { path = f.path; is_path = f.is_path; begins = f.begins; whole = f.whole })
    ];
    vlan = c.vlan;
  }

  pub certified_safe : IsWireConsistent t.update t.rounds (is_two_phase evidence)
  certified_safe events run =
      let st = state_on_wire (rollout t) events in
      let h = on_wire (rollout t) certified.good tables_old turnable old_user.count events run in
      each_weaker (IsSound (rollout t) (phase_of (stage_at (rollout t) st.calls)) _) (IsConsistentPacket t.update (is_two_phase evidence))
      (λ p sound.
      let (k, within, walked) = sound.walked in
      born_anytime p k (packet_consistent t old_user new_user evidence certified (record p { born = k }) walked (record { entry = sound.entry; dst = sound.dst; born = within })))
      st.packets h.keeps.packets

  pub certified_tables : AreTablesOnWire (rollout t)
  certified_tables = tables_on_wire (rollout t) certified.good tables_old turnable old_user.count certified.fits old_user.distinct old_user.fits

  pub certified_never_stuck : IsNeverStuck (rollout t)
  certified_never_stuck = is_never_stuck (rollout t) certified.good tables_old turnable old_user.count
