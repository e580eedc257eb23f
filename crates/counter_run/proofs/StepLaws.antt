-- A packet that is led along a walk: before each hop changes are made at its switch that give it the outcome.
use Rattle.std.proofs.Common.{◌≡◌, ℕ, suc, List, [], ◌∷◌, ◌++◌, map, length, refl, sym, ◌∙◌, subst, ap, inl, inr, append_assoc}
use Rattle.std.specs.Prelude.{◌==◌, slice_get, flat_map, Option, Some, None, true}
use Rattle.std.specs.List.{AllByRecursion}
use Rattle.std.proofs.lemmas.Bool.{eq-eqb}
use Rattle.std.proofs.lemmas.List.{append-nil}
use Rattle.net_base.specs.Members.{IsIn, IsDistinct}
use Rattle.net_base.specs.Places.{stop_of}
use Rattle.net_base.specs.Walks.{end_of}
use Rattle.net_base.proofs.ItemLaws.{in_from_get, distinct_first}
use Rattle.net_base.proofs.ListLaws.{in_from_filter_map}
use Rattle.net_base.proofs.MemberLaws.{in_append_left, in_append_right, in_filter, each_at, each_weaker, each_from_in, map-push}
use Rattle.net_base.specs.declared.ids.Place.{Place}
use Rattle.net_base.specs.declared.ids.Stop.{Stop}
use Rattle.net_base.specs.declared.ids.SwitchId.{SwitchId}
use Rattle.flow_rules.specs.Tables.{rules_at}
use Rattle.flow_rules.specs.declared.rules.Rule.{Rule}
use Rattle.path_walk.specs.Outcomes.{outcome}
use Rattle.path_walk.specs.Paths.{outcome_in}
use Rattle.path_walk.specs.declared.Ended.TheVariants.{UnderWay}
use Rattle.path_walk.specs.declared.Outcome.{Outcome}
use Rattle.path_walk.specs.declared.Outcome.TheVariants.{Go}
use Rattle.demands.specs.Good.{switches_of}
use Rattle.update_model.specs.Changes.{switch_of, AppliesTo, rules_after, changes_at, round_after, IsGoodRound}
use Rattle.update_model.specs.Mixtures.{Rollout, tables_before}
use Rattle.update_model.specs.Runs.{AreEnabled, state_after}
use Rattle.update_model.specs.States.{State, hopped_packet, with_packet, IsHopping}
use Rattle.update_model.specs.declared.Change.{Change}
use Rattle.update_model.specs.declared.Event.TheVariants as event
use Rattle.update_model.specs.declared.Packet.{Packet}
use Rattle.update_model.specs.declared.Phase.TheVariants.{Running}
use Rattle.update_model.proofs.MadeLaws.{apply_there}
use Rattle.outcome_changes.specs.Giving.{IsChangeAt, changes_numbered}
use Rattle.counter_run.specs.Showing.{HopStep, step_events}
use Rattle.counter_run.specs.Steps.{IsStep, AreSteps}
use Rattle.counter_run.proofs.WholeRounds.{state_append, enabled_append}
use Rattle.counter_run.proofs.RunLaws.{HoldsBefore, before_both}
use Rattle.counter_run.proofs.ChangeRuns.{distinct_rising, AreReady, AreMade, changes_enabled, changes_made, changes_before}

-- the switches of hops
abbrev pub switches_in : List HopStep → List SwitchId
switches_in steps = map (λ s. s.place.switch) steps

-- what stands in a list without repeats stands nowhere before
out_of_first : {A : Type 0} (xs ys : List A) (x : A) → IsDistinct (xs ++ x ∷ ys) → ¬ IsIn x xs
out_of_first [] ys x distinct i = i
out_of_first (y ∷ xs) ys x distinct (inl e) = distinct.0 (in_append_right y xs (x ∷ ys) (inl (sym e)))
out_of_first (y ∷ xs) ys x distinct (inr i) = out_of_first xs ys x distinct.1 i

-- a packet on its way
abbrev pub packet_under_way : ℕ → Place → ℕ → Place → List Stop → Packet
packet_under_way k entry dst place visits = record { entry = entry; dst = dst; at = place; born = k; visits = visits; ended = UnderWay }

-- a packet after the last hop of a walk
abbrev pub ended_packet : Option Outcome → Packet → Packet
ended_packet None p = p
ended_packet (Some found) p = hopped_packet p found

-- the hops are made one after the other, and then this is the packet
pub record AreHops (u : Rollout) (P : List Packet → Type 0) (st : State) (steps : List HopStep) (last : Packet) : Type 0 where
  pub enabled : AreEnabled u.net u.rounds st (flat_map step_events steps)
  pub packets : (state_after u.net u.rounds st (flat_map step_events steps)).packets ≡ last ∷ []
  pub before : HoldsBefore u.net u.rounds P st (flat_map step_events steps)

module _ (u : Rollout) (k : ℕ) (good : IsGoodRound (tables_before u k) (round_after k u.rounds)) (entry : Place) (dst : ℕ) where
  abbrev packet_at : Place → List Stop → Packet
  packet_at place visits = packet_under_way k entry dst place visits

  -- The packet is at the place, and hopped at these switches. At each other switch the table is the one before the round, and all
  -- changes are pending.
  pub record IsLed (st : State) (place : Place) (visits : List Stop) (used : List SwitchId) : Type 0 where
    pub running : st.phase ≡ Running (suc k)
    pub packets : st.packets ≡ packet_at place visits ∷ []
    pub switches : switches_of visits ≡ used ++ place.switch ∷ []
    pub count : length st.tables ≡ length (tables_before u k)
    pub untouched : (s : SwitchId) → ¬ IsIn s used → rules_at st.tables s ≡ rules_at (tables_before u k) s
    pub pending : (i : ℕ) (c : Change) → slice_get (round_after k u.rounds) i ≡ Some c → ¬ IsIn (switch_of c) used → slice_get st.pending i ≡ Some true

  -- the changes of a round with numbers at a switch apply to the table there
  numbered_apply : (sw : SwitchId) (numbers : List ℕ) → AllByRecursion (IsChangeAt (round_after k u.rounds) sw) numbers
      → AllByRecursion (AppliesTo (rules_at (tables_before u k) sw)) (changes_numbered (round_after k u.rounds) numbers)
  numbered_apply sw numbers there =
      let round = round_after k u.rounds in
      each_from_in (AppliesTo (rules_at (tables_before u k) sw)) (changes_numbered round numbers) (λ c m.
      let (i, n, is) = in_from_filter_map (slice_get round) c numbers m in
      let at = each_at (IsChangeAt round sw) numbers i there n in
      let f : Some at.change ≡ Some c = sym at.is ∙ is in
      let g : at.change ≡ c = cc in
      let here : switch_of c ≡ sw = ap switch_of (sym g) ∙ at.at in
      each_at (AppliesTo (rules_at (tables_before u k) sw)) (changes_at sw round) c (apply_there (tables_before u k) sw round good.applies)
      (in_filter (λ d. (switch_of d).0 == sw.0) c round (in_from_get round i c is) (eq-eqb (switch_of c).0 sw.0 (ap (λ (s : SwitchId). s.0) here))))

  module _ (P : List Packet → Type 0) (fine : (place : Place) (visits : List Stop) → IsDistinct (switches_of visits) → P (packet_at place visits ∷ [])) where
    module _ (st : State) (place : Place) (visits : List Stop) (used : List SwitchId) (led : IsLed st place visits used) (fresh : ¬ IsIn place.switch used)
        (wanted : Outcome) (s : HopStep) (step : IsStep u k dst place wanted s) where
      step_ready : AreReady u k good place.switch st s.changes
      step_ready = record {
        running = led.running;
        count = led.count;
        distinct = distinct_rising s.changes step.gives.rise;
        there = step.gives.there;
        pending = each_weaker (IsChangeAt (round_after k u.rounds) place.switch) (λ i. slice_get st.pending i ≡ Some true)
            (λ i at. led.pending i at.change at.is (subst (λ t. ¬ IsIn t used) (sym at.at) fresh)) s.changes step.gives.there;
        applies = subst (λ rules. AllByRecursion (AppliesTo rules) (changes_numbered (round_after k u.rounds) s.changes)) (sym (led.untouched place.switch fresh))
            (numbered_apply place.switch s.changes step.gives.there);
      }

      -- the state before the hop, and after it
      abbrev changed : State
      changed = state_after u.net u.rounds st (map event.Change s.changes)

      made : AreMade u k good place.switch s.changes st changed
      made = changes_made u k good place.switch s.changes st step_ready

      packets_then : changed.packets ≡ packet_at place visits ∷ []
      packets_then = made.packets ∙ led.packets

      outcome_then : outcome_in u.net changed.tables place dst ≡ wanted
      outcome_then =
          ap (λ (rules : List Rule). outcome u.net rules place dst)
          (made.here ∙ ap (rules_after (changes_numbered (round_after k u.rounds) s.changes)) (led.untouched place.switch fresh))
          ∙ step.gives.gives

      pub step_packets : (state_after u.net u.rounds st (step_events s)).packets ≡ hopped_packet (packet_at place visits) wanted ∷ []
      step_packets =
          ap (λ (x : State). x.packets) (state_append u.net u.rounds st (map event.Change s.changes) (event.Hop 0 ∷ []))
          ∙ ap (with_packet (λ p. hopped_packet p (outcome_in u.net changed.tables p.at p.dst)) 0) packets_then
          ∙ ap (λ (o : Outcome). hopped_packet (packet_at place visits) o ∷ []) outcome_then

      pub step_enabled : AreEnabled u.net u.rounds st (step_events s)
      step_enabled =
          let hopping : IsHopping changed.packets 0 = (packet_at place visits, ap (λ (ps : List Packet). slice_get ps 0) packets_then, refl) in
          enabled_append u.net u.rounds st (map event.Change s.changes) (event.Hop 0 ∷ []) (changes_enabled u k good place.switch s.changes st step_ready) (hopping, tt)

      pub step_before : IsDistinct (switches_of visits) → HoldsBefore u.net u.rounds P st (step_events s)
      step_before distinct =
          let here : P st.packets = subst P (sym led.packets) (fine place visits distinct) in
          let then : P changed.packets = subst P (sym packets_then) (fine place visits distinct) in
          before_both u.net u.rounds P st (map event.Change s.changes) (event.Hop 0 ∷ []) (changes_before u k good place.switch P s.changes st here) (then, tt)

      step_led : (next : Place) → wanted ≡ Go next → IsLed (state_after u.net u.rounds st (step_events s)) next (visits ++ stop_of next ∷ []) (used ++ place.switch ∷ [])
      step_led next goes =
          let used_now = used ++ place.switch ∷ [] in
          let not_before : (t : SwitchId) → ¬ IsIn t used_now → ¬ IsIn t used = λ t out m. out (in_append_left t used (place.switch ∷ []) m) in
          let not_here : (t : SwitchId) → ¬ IsIn t used_now → ¬ (t ≡ place.switch) = λ t out e. out (in_append_right t used (place.switch ∷ []) (inl e)) in
          subst (λ (x : State). IsLed x next (visits ++ stop_of next ∷ []) used_now) (sym (state_append u.net u.rounds st (map event.Change s.changes) (event.Hop 0 ∷ []))) (record {
            running = made.phase ∙ led.running;
            packets = sym (ap (λ (x : State). x.packets) (state_append u.net u.rounds st (map event.Change s.changes) (event.Hop 0 ∷ []))) ∙ step_packets
                ∙ ap (λ (o : Outcome). hopped_packet (packet_at place visits) o ∷ []) goes;
            switches = map-push (λ (t : Stop). t.switch) visits (stop_of next) ∙ ap (λ (l : List SwitchId). l ++ next.switch ∷ []) led.switches;
            count = made.count ∙ led.count;
            untouched = λ t out. made.elsewhere t (not_here t out) ∙ led.untouched t (not_before t out);
            pending = λ i c is out.
                made.pending i (λ m.
                let at = each_at (IsChangeAt (round_after k u.rounds) place.switch) s.changes i step.gives.there m in
                let f : Some at.change ≡ Some c = sym at.is ∙ is in
                let g : at.change ≡ c = cc in
                not_here (switch_of c) out (ap switch_of (sym g) ∙ at.at))
                ∙ led.pending i c is (not_before (switch_of c) out);
          })

    -- the first switches of a list without repeats
    fresh_here : (used : List SwitchId) (place : Place) (wanted : Outcome) (s : HopStep) (steps : List HopStep) → IsStep u k dst place wanted s → IsDistinct (used ++ switches_in (s ∷ steps))
        → IsDistinct (used ++ place.switch ∷ switches_in steps)
    fresh_here used place wanted s steps step distinct =
        subst (λ (p : Place). IsDistinct (used ++ p.switch ∷ switches_in steps)) step.place_is distinct

    distinct_now : (st : State) (place : Place) (visits : List Stop) (used more : List SwitchId) → IsLed st place visits used → IsDistinct (used ++ place.switch ∷ more) → IsDistinct (switches_of visits)
    distinct_now st place visits used more led distinct =
        subst IsDistinct (sym led.switches) (distinct_first (used ++ place.switch ∷ []) more (subst IsDistinct (sym (append_assoc used (place.switch ∷ []) more)) distinct))

    -- all hops along a walk
    pub hops_run : (place : Place) (rest : List Place) (end : Option Outcome) (steps : List HopStep) (visits : List Stop) (used : List SwitchId) (st : State)
        → IsLed st place visits used → AreSteps u k dst place rest end steps → IsDistinct (used ++ switches_in steps)
        → AreHops u P st steps (ended_packet end (packet_at (end_of place rest) (visits ++ map stop_of rest)))
    hops_run place [] None [] visits used st led steps distinct = record {
      enabled = tt;
      packets = led.packets ∙ ap (λ (v : List Stop). packet_at place v ∷ []) (sym (append-nil visits));
      before = tt;
    }
    hops_run place [] None (s ∷ more) visits used st led steps distinct = absurd steps
    hops_run place [] (Some found) [] visits used st led steps distinct = absurd steps
    hops_run place [] (Some found) (s ∷ []) visits used st led step distinct =
        let here = fresh_here used place found s [] step distinct in
        let fresh = out_of_first used [] place.switch here in
        record {
          enabled = subst (AreEnabled u.net u.rounds st) (sym (append-nil (step_events s))) (step_enabled st place visits used led fresh found s step);
          packets = ap (λ es. (state_after u.net u.rounds st es).packets) (append-nil (step_events s)) ∙ step_packets st place visits used led fresh found s step
              ∙ ap (λ (v : List Stop). hopped_packet (packet_at place v) found ∷ []) (sym (append-nil visits));
          before = subst (HoldsBefore u.net u.rounds P st) (sym (append-nil (step_events s)))
              (step_before st place visits used led fresh found s step (distinct_now st place visits used [] led here));
        }
    hops_run place [] (Some found) (s ∷ t ∷ more) visits used st led steps distinct = absurd steps
    hops_run place (next ∷ rest) end [] visits used st led steps distinct = absurd steps
    hops_run place (next ∷ rest) end (s ∷ more) visits used st led steps distinct =
        let here = fresh_here used place (Go next) s more steps.0 distinct in
        let fresh = out_of_first used (switches_in more) place.switch here in
        let then = state_after u.net u.rounds st (step_events s) in
        let led_on = step_led st place visits used led fresh (Go next) s steps.0 next refl in
        let on = hops_run next rest end more (visits ++ stop_of next ∷ []) (used ++ place.switch ∷ []) then led_on steps.1
        (subst IsDistinct (sym (append_assoc used (place.switch ∷ []) (switches_in more))) here) in
        record {
          enabled = enabled_append u.net u.rounds st (step_events s) (flat_map step_events more) (step_enabled st place visits used led fresh (Go next) s steps.0) on.enabled;
          packets = ap (λ (x : State). x.packets) (state_append u.net u.rounds st (step_events s) (flat_map step_events more)) ∙ on.packets
              ∙ ap (λ (v : List Stop). ended_packet end (packet_at (end_of next rest) v) ∷ []) (append_assoc visits (stop_of next ∷ []) (map stop_of rest));
          before = before_both u.net u.rounds P st (step_events s) (flat_map step_events more)
              (step_before st place visits used led fresh (Go next) s steps.0 (distinct_now st place visits used (switches_in more) led here)) on.before;
        }
