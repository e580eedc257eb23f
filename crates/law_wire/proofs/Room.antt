-- No key stands twice in a table on the wire, so each is within its switch's capacity.
use Rattle.std.proofs.Common.{◌≡◌, ℕ, zero, suc, ◌<◌, ◌≤◌, true, false, cond, List, [], ◌∷◌, ◌++◌, length, map, not, set, get_or, get_or-set_same, get_or-set_other, refl, sym, ◌∙◌, subst, ap, inl, inr, arith}
use Rattle.std.specs.Prelude.{Option, Some, None, slice_get}
use Rattle.std.proofs.lemmas.Bool.{cases_eq, cases_lt}
use Rattle.net_base.specs.Members.{IsIn, IsSameSet}
use Rattle.net_base.proofs.MemberLaws.{in_map, in_from_map, IsSubsequence_refl}
use Rattle.net_base.proofs.ListLaws.{no_longer}
use Rattle.net_base.specs.declared.ids.SwitchId.{SwitchId}
use Rattle.topology.specs.Networks.{switch_count, capacity_of}
use Rattle.flow_rules.specs.Patterns.{key_eq}
use Rattle.flow_rules.specs.Tables.{IsTable, keys_of, rules_at}
use Rattle.flow_rules.specs.declared.rules.Key.{Key}
use Rattle.flow_rules.specs.declared.rules.Rule.{Rule}
use Rattle.flow_rules.proofs.TableLaws.{table_replaced, table_push, table_filter}
use Rattle.update_model.specs.Changes.{changes_at, round_after}
use Rattle.update_model.specs.Mixtures.{Rollout, AreGoodRounds, MayHold, need_of, tables_before}
use Rattle.update_model.proofs.OneRoundLaws.{next_tables}
use Rattle.update_model.proofs.RoundLaws.{settled_start}
use Rattle.openflow10.specs.declared.Verb.{Verb}
use Rattle.openflow10.specs.declared.Verb.TheVariants.{Add, Modify, Remove}
use Rattle.openflow10.specs.declared.Message.{Message}
use Rattle.openflow10.specs.declared.Message.TheVariants.{Flow, BarrierRequest, BarrierReply}
use Rattle.law_two_way_runs.proofs.Inverses.{mixture_fits}
use Rattle.two_way_driver.specs.declared.Stage.{Stage}
use Rattle.two_way_driver.specs.declared.Stage.TheVariants.{Settled, Onward, Undone}
use Rattle.law_wire.specs.Carried.{has_rule, placed, carried_by}
use Rattle.law_wire.specs.Network.{WireState, WireEvent, Carry, Refuse, Answer, Say, Feed, Begin, Back, Reopen, Enter, Hop, Lose, Dead, Repair, first_wire, carried_out_at, IsWireEnabled, wire_after, AreWireEnabled, wire_behind, IsWireRun, state_on_wire}
use Rattle.law_wire.specs.Laws.{IsStageTable}
use Rattle.law_wire.proofs.Entries.{lacks_key}
use Rattle.std.proofs.lemmas.List.{length-map}

-- ---- tables

once_placed : (q : Rule) (rules : List Rule) → IsTable rules → IsTable (placed q rules)
once_placed q rules once =
    elim (has_rule q.key rules) as (λ b. has_rule q.key rules ≡ b → IsTable (cond b (map (λ y. cond (key_eq y.key q.key) q y) rules) (rules ++ q ∷ []))) [
      | true ↦ λ e. table_replaced q rules once
      | false ↦ λ e. table_push rules q once (lacks_key q rules e)
    ] refl

once_carried_by : (v : Verb) (key : Key) (rules : List Rule) → IsTable rules → IsTable (carried_by v key rules)
once_carried_by (Add action) key rules once = once_placed (record { key = key; action = action }) rules once
once_carried_by (Modify action) key rules once = once_placed (record { key = key; action = action }) rules once
once_carried_by Remove key rules once = table_filter (λ q. not (key_eq q.key key)) rules once

once_carried : (o : Option Message) (rules : List Rule) → IsTable rules → IsTable (carried_out_at o rules)
once_carried None rules once = once
once_carried (Some (Flow m)) rules once = once_carried_by m.verb m.key rules once
once_carried (Some (BarrierRequest x)) rules once = once
once_carried (Some (BarrierReply x)) rules once = once

-- ---- on the wire

abbrev pub AllOnce : List (List Rule) → Type 0
AllOnce tables = (s : SwitchId) → IsTable (rules_at tables s)

once_set : (tables : List (List Rule)) (s : SwitchId) (rules : List Rule) → AllOnce tables → IsTable rules → AllOnce (set tables s.0 rules)
once_set tables s rules all once t =
    elim (cases_eq t.0 s.0) [
      | inl same ↦ elim (cases_lt s.0 (length tables)) [
        | inl less ↦ subst IsTable (sym (ap (λ (n : ℕ). get_or (set tables s.0 rules) n []) same ∙ get_or-set_same tables s.0 rules [] less)) once
        | inr le ↦ subst IsTable (sym (past tables t.0 s.0 (omega arith))) (all t)
      ]
      | inr differs ↦ subst IsTable (sym (get_or-set_other tables s.0 t.0 rules [] differs)) (all t)
    ]
  where
    past : (tables : List (List Rule)) (n i : ℕ) → length tables ≤ i → get_or (set tables i rules) n [] ≡ get_or tables n []
    past [] n i le = refl
    past (x ∷ tables) n zero le = absurd (omega arith)
    past (x ∷ tables) zero (suc i) le = refl
    past (x ∷ tables) (suc n) (suc i) le = past tables n i (omega arith)

module _ (u : Rollout) where
  once_after : (st : WireState) (e : WireEvent) → AllOnce st.tables → IsWireEnabled u st e → AllOnce (wire_after u st e).tables
  once_after st (Carry s i) all may = once_set st.tables s (carried_out_at (slice_get (st.inbox s) i) (rules_at st.tables s)) all (once_carried (slice_get (st.inbox s) i) (rules_at st.tables s) (all s))
  once_after st (Refuse s i error) all may = all
  once_after st (Answer s) all may = all
  once_after st (Say s bytes) all may = all
  once_after st (Feed s bytes) all may = all
  once_after st Begin all may = all
  once_after st Back all may = all
  once_after st (Reopen s) all may = all
  once_after st (Enter place dst) all may = all
  once_after st (Hop i) all may = all
  once_after st (Lose i) all may = all
  once_after st (Dead s) all may = all
  once_after st (Repair s rules) all may = once_set st.tables s rules all may.2

  once_behind : (st : WireState) (events : List WireEvent) → AllOnce st.tables → AreWireEnabled u st events → AllOnce (wire_behind u st events).tables
  once_behind st [] all enabled = all
  once_behind st (e ∷ events) all enabled = once_behind (wire_after u st e) events (once_after st e all enabled.0) enabled.1

  pub once_on_wire : AllOnce u.old → (events : List WireEvent) → IsWireRun u events → AllOnce (state_on_wire u events).tables
  once_on_wire all events run = once_behind (first_wire u.old) events all run

  -- ---- room

  module _ (good : AreGoodRounds u) (fits : (k : ℕ) (s : SwitchId) → k < length u.rounds → s.0 < switch_count u.net → need_of u k s ≤ capacity_of u.net s)
      (once_old : AllOnce u.old) (old_fits : (s : SwitchId) → s.0 < switch_count u.net → length (rules_at u.old s) ≤ capacity_of u.net s) where
    same_length : (xs ys : List Rule) → IsTable xs → IsSameSet xs ys → length xs ≤ length ys
    same_length xs ys once same =
        let longer = no_longer (keys_of xs) (keys_of ys) once (λ key i. let (r, j, e) = in_from_map (λ (q : Rule). q.key) key xs i in subst (λ k. IsIn k (keys_of ys)) (sym e) (in_map (λ (q : Rule). q.key) r ys ((same r).0 j))) in
        let a = length-map xs (λ (q : Rule). q.key) in
        let b = length-map ys (λ (q : Rule). q.key) in
        omega arith

    held : (k : ℕ) → k < length u.rounds → (s : SwitchId) → s.0 < switch_count u.net → (rules : List Rule) → IsTable rules → MayHold u k s rules → length rules ≤ capacity_of u.net s
    held k less s within rules once holds = let most = mixture_fits u good k less s rules holds once in let room = fits k s less within in omega arith

    settled : (k : ℕ) → k ≤ length u.rounds → (s : SwitchId) → s.0 < switch_count u.net → (rules : List Rule) → IsTable rules → IsSameSet rules (rules_at (tables_before u k) s) → length rules ≤ capacity_of u.net s
    settled zero le s within rules once same =
        let most = same_length rules (rules_at u.old s) once (subst (λ t. IsSameSet rules (rules_at t s)) (settled_start u.rounds u.old) same) in
        let room = old_fits s within in
        omega arith
    settled (suc k) le s within rules once same =
        let less : k < length u.rounds = omega arith in
        held k less s within rules once (record {
          made = changes_at s (round_after k u.rounds);
          some = IsSubsequence_refl (changes_at s (round_after k u.rounds));
          same = subst (IsSameSet rules) (next_tables u k less (good k less) s) same;
        })

    abbrev pub StageFits : Stage → Type 0
    StageFits (Settled k) = k ≤ length u.rounds
    StageFits (Onward k) = k < length u.rounds
    StageFits (Undone k) = k < length u.rounds

    pub has_room : (stage : Stage) → StageFits stage → (s : SwitchId) → s.0 < switch_count u.net → (rules : List Rule) → IsTable rules → IsStageTable u stage s rules → length rules ≤ capacity_of u.net s
    has_room (Settled k) le s within rules once is = settled k le s within rules once is
    has_room (Onward k) less s within rules once is = held k less s within rules once is
    has_room (Undone k) less s within rules once is = held k less s within rules once is
