-- When a step may happen, by what a world keeps; and what is known of a change that is taken back.
use Rattle.std.proofs.Common.{◌≡◌, ◌↔◌, ◌⊎◌, ℕ, zero, suc, ◌-◌, ◌<◌, ◌≤◌, Bool, true, false, not, IsTrue, List, [], ◌∷◌, map, length, get_or, refl, sym, ap, ◌∙◌, subst, inl, inr, arith}
use Rattle.std.specs.Prelude.{slice_get, Option, Some, None, find, option_map, unwrap_or}
use Rattle.std.specs.List.{AllByRecursion}
use Rattle.net_base.proofs.ItemLaws.{past_end}
use Rattle.net_base.proofs.ListLaws.{found_is}
use Rattle.flow_rules.specs.Patterns.{key_eq}
use Rattle.flow_rules.specs.Tables.{action_of}
use Rattle.flow_rules.specs.declared.rules.Action.{Action}
use Rattle.flow_rules.specs.declared.rules.Rule.{Rule}
use Rattle.flow_rules.proofs.KeyLaws.{key_eq-true}
use Rattle.update_model.specs.Changes.{round_after}
use Rattle.update_model.specs.Mixtures.{Rollout, tables_before}
use Rattle.update_model.specs.States.{IsUnderWay, settled_count}
use Rattle.update_model.specs.Worlds.{IsPhaseOf, AppliesAt, running_round}
use Rattle.update_model.specs.declared.Change.{Change}
use Rattle.update_model.specs.declared.Phase.{Phase}
use Rattle.update_model.specs.declared.Phase.TheVariants.{Settled, Running}
use Rattle.law_two_way_runs.specs.Inverse.{rule_with}
use Rattle.law_two_way_runs.specs.States.{TwoWayState, MayChange, MayUndo, MayTurnBack}
use Rattle.two_way_replay.specs.Courses.{CourseState, GoesForward, MaySettleEither}
use Rattle.two_way_replay.specs.Entries.{action_named, earlier_actions}
use Rattle.two_way_replay.proofs.ActionLaws.{earlier_at, earlier_count}

-- where nothing runs
pub turns_settled : (x : CourseState) (k : ℕ) (b : Bool) → x.state.phase ≡ Settled k → 0 < k
    → IsTrue b ↔ AllByRecursion (λ p. IsUnderWay p → x.state.settles ≤ p.born) x.state.packets
    → IsTrue b ↔ (GoesForward x ⊎ MayTurnBack x.state)
turns_settled x zero b is some h = absurd (omega arith)
turns_settled x (suc k) b is some h = (
  λ e. inr (record { k = k; settled = is; none_older = h.0 e }),
  λ may. elim may [
    | inl f ↦ absurd (let e : Settled (suc k) ≡ Running f.k = sym is ∙ f.running in cc)
    | inr t ↦ h.1 t.none_older
  ],
)

-- where a round runs
settles_way : (st : TwoWayState) (rounds : List (List Change)) (way : Bool) (b : Bool) (k : ℕ) → st.phase ≡ Running k → IsPhaseOf rounds st.phase st.in_force
    → IsTrue b ↔ AllByRecursion (λ f. f ≡ not way) st.in_force → IsTrue b ↔ MaySettleEither way st
settles_way st rounds false b k is phase h = (λ e. record { k = k; running = is; all_in_force = h.0 e }, λ may. h.1 may.all_in_force)
settles_way st rounds true b zero is phase h = absurd (subst (λ p. IsPhaseOf rounds p st.in_force) is phase)
settles_way st rounds true b (suc k) is phase h = (λ e. record { k = k; running = is; none_in_force = h.0 e }, λ may. h.1 may.none_in_force)

pub settles_running : (x : CourseState) (rounds : List (List Change)) (b : Bool) (k : ℕ) → x.state.phase ≡ Running k → IsPhaseOf rounds x.state.phase x.state.in_force
    → IsTrue b ↔ AllByRecursion (λ f. f ≡ not x.is_undone) x.state.in_force → IsTrue b ↔ MaySettleEither x.is_undone x.state
settles_running x rounds b k is phase h = settles_way x.state rounds x.is_undone b k is phase h

-- an item stands at each place
item_at : {A : Type 0} (xs : List A) (i : ℕ) → i < length xs → (x : A) × (slice_get xs i ≡ Some x)
item_at [] i less = absurd (omega arith)
item_at (x ∷ xs) zero less = (x, refl)
item_at (x ∷ xs) (suc i) less = item_at xs i (omega arith)

pub undoes_running : (u : Rollout) (x : CourseState) (i : ℕ) (b : Bool) (k : ℕ) → x.is_undone ≡ true → x.state.phase ≡ Running k → IsPhaseOf u.rounds x.state.phase x.state.in_force
    → IsTrue b ↔ (slice_get x.state.in_force i ≡ Some true) → IsTrue b ↔ ((x.is_undone ≡ true) × MayUndo u x.state i)
undoes_running u x i b zero way is phase h = absurd (subst (λ p. IsPhaseOf u.rounds p x.state.in_force) is phase)
undoes_running u x i b (suc k) way is phase h =
    let within = subst (λ p. IsPhaseOf u.rounds p x.state.in_force) is phase in (
      λ e.
          let on = h.0 e in
          let less : i < length (round_after k u.rounds) = subst (λ n. i < n) within.1 (past_end x.state.in_force i true on) in
          let (c, at) = item_at (round_after k u.rounds) i less in
          (way, record { k = k; running = is; change = c; is = at; is_in_force = on }),
      λ may. h.1 may.1.is_in_force,
    )

applies_in : (u : Rollout) (st : TwoWayState) (i : ℕ) (phase : Phase) → st.phase ≡ phase → slice_get st.in_force i ≡ Some false → AppliesAt st.tables (running_round phase u.rounds) i → MayChange u st i
applies_in u st i (Settled k) is off at = absurd (let e : None ≡ Some at.0 = at.1 in cc)
applies_in u st i (Running zero) is off at = absurd (let e : None ≡ Some at.0 = at.1 in cc)
applies_in u st i (Running (suc k)) is off at = record { k = k; running = is; change = at.0; is = at.1; not_in_force = off; applies = at.2 }

pub changes_running : (u : Rollout) (x : CourseState) (i : ℕ) (b : Bool) → slice_get x.state.in_force i ≡ Some false
    → IsTrue b ↔ AppliesAt x.state.tables (running_round x.state.phase u.rounds) i → IsTrue b ↔ MayChange u x.state i
changes_running u x i b off h = (
  λ e. applies_in u x.state i x.state.phase refl off (h.0 e),
  λ may. h.1 (subst (λ p. AppliesAt x.state.tables (running_round p u.rounds) i) (sym may.running) (may.change, may.is, may.applies)),
)

-- ---- a change that is taken back

-- the entry of a key by its action
pub rule_before : (before : List Rule) (r : Rule) (action : Option Action) → action ≡ action_of r.key before
    → (let new : Rule = record { key = r.key; action = unwrap_or action r.action } in new ≡ rule_with before r.key r)
rule_before before r action is = by (find (λ q. key_eq q.key r.key) before) refl
  where
    by : (o : Option Rule) → find (λ q. key_eq q.key r.key) before ≡ o → (let new : Rule = record { key = r.key; action = unwrap_or action r.action } in new ≡ rule_with before r.key r)
    by None e =
        let none : action ≡ None = is ∙ ap (option_map (λ (q : Rule). q.action)) e in
        ap (λ a. let new : Rule = record { key = r.key; action = unwrap_or a r.action } in new) none ∙ sym (ap (λ o. unwrap_or o r) e)
    by (Some q) e =
        let some : action ≡ Some q.action = is ∙ ap (option_map (λ (q : Rule). q.action)) e in
        let same : q.key ≡ r.key = key_eq-true q.key r.key (found_is (λ (x : Rule). key_eq x.key r.key) q before e).1 in
        ap (λ a. let new : Rule = record { key = r.key; action = unwrap_or a r.action } in new) some
        ∙ ap (λ k. let new : Rule = record { key = k; action = q.action } in new) (sym same) ∙ sym (ap (λ o. unwrap_or o r) e)

item_of_map : {A B : Type 0} (f : A → B) (xs : List A) (i : ℕ) (y : B) (x : A) → slice_get (map f xs) i ≡ Some y → slice_get xs i ≡ Some x → y ≡ f x
item_of_map f [] i y x a b = absurd (let e : None ≡ Some x = b in cc)
item_of_map f (z ∷ xs) zero y x a b =
    let g : Some (f z) ≡ Some y = a in let h : Some z ≡ Some x = b in let same : z ≡ x = cc in let there : f z ≡ y = cc in sym there ∙ ap f same
item_of_map f (z ∷ xs) (suc i) y x a b = item_of_map f xs i y x a b

length_of_map : {A B : Type 0} (f : A → B) (xs : List A) → length (map f xs) ≡ length xs
length_of_map f [] = refl
length_of_map f (x ∷ xs) = ap suc (length_of_map f xs)

-- of the running round
module _ (u : Rollout) (phase : Phase) (flags : List Bool) (k i : ℕ) (actions : List (List (Option Action))) (is : phase ≡ Running k) (kept : IsPhaseOf u.rounds phase flags)
    (known : actions ≡ earlier_actions u.old u.rounds) where
  some_round : (n : ℕ) × (k ≡ suc n)
  some_round = cases k refl
    where
      cases : (m : ℕ) → k ≡ m → (n : ℕ) × (k ≡ suc n)
      cases zero e = absurd (subst (λ p. IsPhaseOf u.rounds p flags) (is ∙ ap Running e) kept)
      cases (suc n) e = (n, e)

  abbrev n : ℕ
  n = some_round.0

  within : n < length u.rounds
  within = (subst (λ p. IsPhaseOf u.rounds p flags) (is ∙ ap Running some_round.1) kept).0

  running : running_round phase u.rounds ≡ round_after n u.rounds
  running = ap (λ p. running_round p u.rounds) (is ∙ ap Running some_round.1)

  count : settled_count phase ≡ n
  count = ap settled_count (is ∙ ap Running some_round.1)

  there : get_or actions n [] ≡ map (action_named (tables_before u n)) (round_after n u.rounds)
  there = ap (λ l. get_or l n []) known ∙ earlier_at u.old u.rounds n within

  pub known_round : k - 1 < length actions
  known_round = let e = some_round.1 in let w = within in let l : length actions ≡ length u.rounds = ap length known ∙ earlier_count u.old u.rounds in omega arith

  place : k - 1 ≡ n
  place = let e = some_round.1 in omega arith

  pub known_change : i < length (running_round phase u.rounds) → i < length (get_or actions (k - 1) [])
  known_change less =
      let l : length (get_or actions (k - 1) []) ≡ length (running_round phase u.rounds) =
      ap (λ m. length (get_or actions m [])) place ∙ ap length there ∙ length_of_map (action_named (tables_before u n)) (round_after n u.rounds) ∙ ap length (sym running) in
      subst (λ m. i < m) (sym l) less

  pub known_action : (a : Option Action) → slice_get (get_or actions (k - 1) []) i ≡ Some a → (c : Change) → slice_get (running_round phase u.rounds) i ≡ Some c
      → a ≡ action_named (tables_before u (settled_count phase)) c
  known_action a at c in_round =
      item_of_map (action_named (tables_before u n)) (round_after n u.rounds) i a c
      (sym (ap (λ l. slice_get l i) (ap (λ m. get_or actions m []) place ∙ there)) ∙ at) (sym (ap (λ l. slice_get l i) running) ∙ in_round)
      ∙ ap (λ m. action_named (tables_before u m) c) (sym count)
