-- Changes of one switch that are made one after the other.
use Rattle.std.proofs.Common.{◌≡◌, ℕ, zero, suc, ◌+◌, ◌<◌, false, true, List, [], ◌∷◌, map, length, get_or, set, refl, sym, ◌∙◌, subst, ap, inl, inr, arith, length-set}
use Rattle.std.specs.Prelude.{◌==◌, slice_get, Option, Some, None}
use Rattle.std.specs.Option.{option_map_or}
use Rattle.std.specs.List.{AllByRecursion, cons_option}
use Rattle.std.specs.List.Sorted.{IsStrictlyIncreasing}
use Rattle.std.proofs.lemmas.Bool.{eq-eqb, ne_eqb, cond-true, cond-false}
use Rattle.net_base.specs.Members.{IsIn, IsDistinct}
use Rattle.net_base.proofs.ItemLaws.{in_from_get}
use Rattle.net_base.proofs.ListLaws.{in_from_filter_map}
use Rattle.net_base.proofs.MemberLaws.{in_map, in_from_map, each_at}
use Rattle.net_base.specs.declared.ids.SwitchId.{SwitchId}
use Rattle.flow_rules.specs.Tables.{rules_at}
use Rattle.flow_rules.specs.declared.rules.Rule.{Rule}
use Rattle.update_model.specs.Changes.{switch_of, AppliesTo, Applies, entry_named, rules_after_change, rules_after, tables_after_change, round_after, IsGoodRound}
use Rattle.update_model.specs.Mixtures.{Rollout, tables_before}
use Rattle.update_model.specs.Runs.{AreEnabled, state_after}
use Rattle.update_model.specs.States.{State, settled_count, MayChange, state_after_event}
use Rattle.update_model.specs.declared.Change.{Change}
use Rattle.update_model.specs.declared.Event.TheVariants as event
use Rattle.update_model.specs.declared.Packet.{Packet}
use Rattle.update_model.specs.declared.Phase.{Phase}
use Rattle.update_model.specs.declared.Phase.TheVariants.{Running}
use Rattle.update_model.proofs.ChangeLaws.{key_named, applies_all_kept, rules_at-after_change}
use Rattle.update_model.proofs.MadeLaws.{same_entry}
use Rattle.outcome_changes.specs.Giving.{IsChangeAt, changes_numbered}
use Rattle.counter_run.proofs.RunLaws.{HoldsBefore}

-- items whose images are all different are at one place where their images are the same
pub one_place : {A B : Type 0} (f : A → B) (xs : List A) (i j : ℕ) (x y : A) → IsDistinct (map f xs) → slice_get xs i ≡ Some x → slice_get xs j ≡ Some y → f x ≡ f y → i ≡ j
one_place f [] i j x y distinct at to same = absurd (let g : None ≡ Some x = at in cc)
one_place f (z ∷ xs) zero zero x y distinct at to same = refl
one_place f (z ∷ xs) zero (suc j) x y distinct at to same =
    let g : Some z ≡ Some x = at in let h : z ≡ x = cc in
    absurd (distinct.0 (subst (λ w. IsIn w (map f xs)) (sym (ap f h ∙ same)) (in_map f y xs (in_from_get xs j y to))))
one_place f (z ∷ xs) (suc i) zero x y distinct at to same =
    let g : Some z ≡ Some y = to in let h : z ≡ y = cc in
    absurd (distinct.0 (subst (λ w. IsIn w (map f xs)) (sym (ap f h ∙ sym same)) (in_map f x xs (in_from_get xs i x at))))
one_place f (z ∷ xs) (suc i) (suc j) x y distinct at to same = ap suc (one_place f xs i j x y distinct.1 at to same)

-- another item than the one that is set
pub get_other : {A : Type 0} (xs : List A) (i j : ℕ) (v : A) → ¬ (j ≡ i) → slice_get (set xs i v) j ≡ slice_get xs j
get_other [] i j v ne = refl
get_other (x ∷ xs) zero zero v ne = absurd (ne refl)
get_other (x ∷ xs) zero (suc j) v ne = refl
get_other (x ∷ xs) (suc i) zero v ne = refl
get_other (x ∷ xs) (suc i) (suc j) v ne = get_other xs i j v (λ e. ne (ap suc e))

-- numbers that rise are all different
rising_rest : (x : ℕ) (xs : List ℕ) → IsStrictlyIncreasing (x ∷ xs) → IsStrictlyIncreasing xs
rising_rest x xs rise j less =
    let e : suc j + 1 ≡ suc (j + 1) = omega arith in
    subst (λ n. get_or xs j 0 < get_or (x ∷ xs) n 0) e (rise (suc j) (omega arith))

rising_above : (x y : ℕ) (xs : List ℕ) → IsStrictlyIncreasing (x ∷ xs) → IsIn y xs → x < y
rising_above x y [] rise i = absurd i
rising_above x y (z ∷ xs) rise (inl e) = let h : x < z = rise 0 (omega arith) in omega arith
rising_above x y (z ∷ xs) rise (inr i) =
    let h : x < z = rise 0 (omega arith) in
    let g = rising_above z y xs (rising_rest x (z ∷ xs) rise) i in
    omega arith

pub distinct_rising : (xs : List ℕ) → IsStrictlyIncreasing xs → IsDistinct xs
distinct_rising [] rise = tt
distinct_rising (x ∷ xs) rise = (λ i. let h = rising_above x x xs rise i in absurd (omega arith), distinct_rising xs (rising_rest x xs rise))

module _ (u : Rollout) (k : ℕ) (good : IsGoodRound (tables_before u k) (round_after k u.rounds)) (sw : SwitchId) where
  -- the changes of the round with these numbers
  abbrev changes_of : List ℕ → List Change
  changes_of numbers = changes_numbered (round_after k u.rounds) numbers

  numbered_more : (i : ℕ) (numbers : List ℕ) (c : Change) → slice_get (round_after k u.rounds) i ≡ Some c → changes_of (i ∷ numbers) ≡ c ∷ changes_of numbers
  numbered_more i numbers c at = ap (λ o. cons_option o (changes_of numbers)) at

  -- a change names another key than those of other numbers at its switch
  fresh_key : (i : ℕ) (numbers : List ℕ) (at : IsChangeAt (round_after k u.rounds) sw i) → AllByRecursion (IsChangeAt (round_after k u.rounds) sw) numbers → ¬ IsIn i numbers
      → ¬ IsIn (key_named at.change) (map key_named (changes_of numbers))
  fresh_key i numbers at there out m =
      let (d, n, e) = in_from_map key_named (key_named at.change) (changes_of numbers) m in
      let (j, l, is) = in_from_filter_map (slice_get (round_after k u.rounds)) d numbers n in
      let other = each_at (IsChangeAt (round_after k u.rounds) sw) numbers j there l in
      let f : Some other.change ≡ Some d = sym other.is ∙ is in
      let g : other.change ≡ d = cc in
      let to : switch_of d ≡ sw = ap switch_of (sym g) ∙ other.at in
      let switches : (switch_of at.change).0 ≡ (switch_of d).0 = ap (λ (s : SwitchId). s.0) (at.at ∙ sym to) in
      let same : i ≡ j = one_place entry_named (round_after k u.rounds) i j at.change d good.distinct at.is is (same_entry at.change d switches e) in
      out (subst (λ x. IsIn x numbers) (sym same) l)

  -- the changes with these numbers are of the switch and pending, and apply to its rules
  pub record AreReady (st : State) (numbers : List ℕ) : Type 0 where
    pub running : st.phase ≡ Running (suc k)
    pub count : length st.tables ≡ length (tables_before u k)
    pub distinct : IsDistinct numbers
    pub there : AllByRecursion (IsChangeAt (round_after k u.rounds) sw) numbers
    pub pending : AllByRecursion (λ i. slice_get st.pending i ≡ Some true) numbers
    pub applies : AllByRecursion (AppliesTo (rules_at st.tables sw)) (changes_of numbers)

  -- what the changes with these numbers make of a state
  pub record AreMade (numbers : List ℕ) (st next : State) : Type 0 where
    pub phase : next.phase ≡ st.phase
    pub packets : next.packets ≡ st.packets
    pub count : length next.tables ≡ length st.tables
    pub here : rules_at next.tables sw ≡ rules_after (changes_of numbers) (rules_at st.tables sw)
    pub elsewhere : (s : SwitchId) → ¬ (s ≡ sw) → rules_at next.tables s ≡ rules_at st.tables s
    pub pending : (i : ℕ) → ¬ IsIn i numbers → slice_get next.pending i ≡ slice_get st.pending i

  it_applies : (st : State) (i : ℕ) (numbers : List ℕ) (ready : AreReady st (i ∷ numbers)) → Applies st.tables ready.there.0.change
  it_applies st i numbers ready =
      let at = ready.there.0 in
      let all : AllByRecursion (AppliesTo (rules_at st.tables sw)) (at.change ∷ changes_of numbers) =
      subst (AllByRecursion (AppliesTo (rules_at st.tables sw))) (numbered_more i numbers at.change at.is) ready.applies in
      let first = (each_at (Applies (tables_before u k)) (round_after k u.rounds) at.change good.applies (in_from_get (round_after k u.rounds) i at.change at.is)).0 in
      (subst (λ n. (switch_of at.change).0 < n) (sym ready.count) first, subst (λ t. AppliesTo (rules_at st.tables t) at.change) (sym at.at) all.0)

  -- the first of these changes may be made
  may_change : (st : State) (i : ℕ) (numbers : List ℕ) → AreReady st (i ∷ numbers) → MayChange u.rounds st i
  may_change st i numbers ready = record {
    k = k;
    running = ready.running;
    change = ready.there.0.change;
    is = ready.there.0.is;
    pending = ready.pending.0;
    applies = it_applies st i numbers ready;
  }

  -- what the first of them makes of the state
  module _ (st : State) (i : ℕ) (numbers : List ℕ) (ready : AreReady st (i ∷ numbers)) where
    abbrev after : State
    after = state_after_event u.net u.rounds st (event.Change i)

    within : (switch_of ready.there.0.change).0 < length st.tables
    within = (it_applies st i numbers ready).0

    tables_after_it : after.tables ≡ tables_after_change ready.there.0.change st.tables
    tables_after_it =
        ap (λ (phase : Phase). option_map_or (λ c. tables_after_change c st.tables) (slice_get (round_after (settled_count phase) u.rounds) i) st.tables) ready.running
        ∙ ap (λ (o : Option Change). option_map_or (λ c. tables_after_change c st.tables) o st.tables) ready.there.0.is

    here_after : rules_at after.tables sw ≡ rules_after_change ready.there.0.change (rules_at st.tables sw)
    here_after =
        ap (λ (t : List (List Rule)). rules_at t sw) tables_after_it
        ∙ rules_at-after_change ready.there.0.change st.tables sw within
        ∙ cond-true ((switch_of ready.there.0.change).0 == sw.0) _ _ (eq-eqb (switch_of ready.there.0.change).0 sw.0 (ap (λ (s : SwitchId). s.0) ready.there.0.at))

    elsewhere_after : (s : SwitchId) → ¬ (s ≡ sw) → rules_at after.tables s ≡ rules_at st.tables s
    elsewhere_after s ne =
        ap (λ (t : List (List Rule)). rules_at t s) tables_after_it
        ∙ rules_at-after_change ready.there.0.change st.tables s within
        ∙ cond-false ((switch_of ready.there.0.change).0 == s.0) _ _
        (ne_eqb (switch_of ready.there.0.change).0 s.0 (λ e. ne (sym (sym ready.there.0.at ∙ ap (λ (n : ℕ). let x : SwitchId = record { 0 = n } in x) e))))

    ready_after : AreReady after numbers
    ready_after =
        let at = ready.there.0 in
        let all : AllByRecursion (AppliesTo (rules_at st.tables sw)) (at.change ∷ changes_of numbers) =
        subst (AllByRecursion (AppliesTo (rules_at st.tables sw))) (numbered_more i numbers at.change at.is) ready.applies in
        let kept = applies_all_kept (rules_at st.tables sw) at.change (changes_of numbers) all.0 all.1 (fresh_key i numbers at ready.there.1 ready.distinct.0) in
        record {
          running = ready.running;
          count = ap length tables_after_it ∙ length-set st.tables (switch_of at.change).0 _ ∙ ready.count;
          distinct = ready.distinct.1;
          there = ready.there.1;
          pending = pending_still numbers ready.distinct.0 ready.pending.1;
          applies = subst (λ rules. AllByRecursion (AppliesTo rules) (changes_of numbers)) (sym here_after) kept;
        }
      where
        pending_still : (js : List ℕ) → ¬ IsIn i js → AllByRecursion (λ j. slice_get st.pending j ≡ Some true) js → AllByRecursion (λ j. slice_get after.pending j ≡ Some true) js
        pending_still [] out all = tt
        pending_still (j ∷ js) out all = (get_other st.pending i j false (λ e. out (inl (sym e))) ∙ all.0, pending_still js (λ m. out (inr m)) all.1)

  -- such changes are made one after the other
  pub changes_enabled : (numbers : List ℕ) (st : State) → AreReady st numbers → AreEnabled u.net u.rounds st (map event.Change numbers)
  changes_enabled [] st ready = tt
  changes_enabled (i ∷ numbers) st ready =
      (may_change st i numbers ready, changes_enabled numbers (state_after_event u.net u.rounds st (event.Change i)) (ready_after st i numbers ready))

  pub changes_made : (numbers : List ℕ) (st : State) → AreReady st numbers → AreMade numbers st (state_after u.net u.rounds st (map event.Change numbers))
  changes_made [] st ready = record { phase = refl; packets = refl; count = refl; here = refl; elsewhere = λ s ne. refl; pending = λ i out. refl }
  changes_made (i ∷ numbers) st ready =
      let next = state_after_event u.net u.rounds st (event.Change i) in
      let still = ready_after st i numbers ready in
      let rest = changes_made numbers next still in
      record {
        phase = rest.phase;
        packets = rest.packets;
        count = rest.count ∙ still.count ∙ sym ready.count;
        here = rest.here ∙ ap (rules_after (changes_of numbers)) (here_after st i numbers ready)
            ∙ sym (ap (λ (cs : List Change). rules_after cs (rules_at st.tables sw)) (numbered_more i numbers ready.there.0.change ready.there.0.is));
        elsewhere = λ s ne. rest.elsewhere s ne ∙ elsewhere_after st i numbers ready s ne;
        pending = λ j out. rest.pending j (λ m. out (inr m)) ∙ get_other st.pending i j false (λ e. out (inl e));
      }

  -- and before each of them the packets are as before the first
  pub changes_before : (P : List Packet → Type 0) (numbers : List ℕ) (st : State) → P st.packets → HoldsBefore u.net u.rounds P st (map event.Change numbers)
  changes_before P [] st h = tt
  changes_before P (i ∷ numbers) st h = (h, changes_before P numbers (state_after_event u.net u.rounds st (event.Change i)) h)
