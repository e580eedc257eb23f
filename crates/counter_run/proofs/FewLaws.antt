-- How many events a run along a breaking walk has.
use Rattle.std.proofs.Common.{◌≡◌, ℕ, zero, suc, ◌+◌, ◌<◌, ◌≤◌, ◌⊎◌, List, [], ◌∷◌, ◌++◌, map, length, take, refl, sym, ◌∙◌, subst, ap, inl, inr, arith, length-append}
use Rattle.std.specs.Prelude.{flat_map, sum_by, slice_get, Option, Some, None}
use Rattle.std.specs.List.{AllByRecursion}
use Rattle.std.proofs.lemmas.List.{length-map}
use Rattle.std.proofs.lemmas.List.Sums.{sum_by-cons}
use Rattle.net_base.specs.Members.{IsIn, IsDistinct}
use Rattle.net_base.proofs.ItemLaws.{past_end}
use Rattle.net_base.proofs.ListLaws.{no_longer, in_from_flat_map, distinct_flat_map, distinct_members, told_from_distinct}
use Rattle.net_base.proofs.MemberLaws.{each_at, each_from_in}
use Rattle.net_base.specs.declared.ids.Place.{Place}
use Rattle.net_base.specs.declared.ids.SwitchId.{SwitchId}
use Rattle.topology.specs.Networks.{IsNetwork, IsEntry, switch_count}
use Rattle.path_walk.proofs.StayLaws.{few_switches, entry_within}
use Rattle.path_walk.specs.declared.Outcome.{Outcome}
use Rattle.dest_classes.specs.declared.Class.{Class}
use Rattle.demands.specs.Duties.{DemandView, duties_of}
use Rattle.update_model.specs.Changes.{switch_of, round_after}
use Rattle.update_model.specs.Mixtures.{Rollout, IsMixedWalk}
use Rattle.update_model.specs.declared.Change.{Change}
use Rattle.update_model.specs.declared.Event.TheVariants as event
use Rattle.certificates.specs.Steps.{switches_along}
use Rattle.outcome_changes.specs.Giving.{IsChangeAt}
use Rattle.net_base.specs.Numbers.{numbers_from}
use Rattle.schedule_pilot.proofs.VisitLaws.{walk_within}
use Rattle.breaking_walks.specs.Breaking.{IsBreakingWalk}
use Rattle.counter_run.specs.Showing.{HopStep, step_events, whole_rounds, AreFewFor}
use Rattle.counter_run.specs.Steps.{AreSteps}
use Rattle.counter_run.proofs.ChangeRuns.{distinct_rising}
use Rattle.counter_run.proofs.StepLaws.{switches_in}
use Rattle.counter_run.proofs.ShownLaws.{along_stops, changes_there, distinct_hops}
use Rattle.counter_run.proofs.WholeRounds.{length-counted, length-first_rounds}

at_or_above : (a b : ℕ) → a ≤ b → (b ≡ a) ⊎ (suc a ≤ b)
at_or_above zero zero h = inl refl
at_or_above zero (suc b) h = inr (omega arith)
at_or_above (suc a) zero h = absurd (omega arith)
at_or_above (suc a) (suc b) h = elim (at_or_above a b (omega arith)) [ inl e ↦ inl (ap suc e) | inr g ↦ inr (omega arith) ]

in_counted : (n count i : ℕ) → n ≤ i → i < n + count → IsIn i (numbers_from n count)
in_counted n zero i least less = absurd (omega arith)
in_counted n (suc count) i least less = elim (at_or_above n i least) [ inl e ↦ inl e | inr h ↦ inr (in_counted (suc n) count i h (omega arith)) ]

-- the changes of the first rounds and of the next are no more than all
first_changes : (rounds : List (List Change)) (k : ℕ) → k < length rounds → sum_by length (take k rounds) + length (round_after k rounds) ≤ sum_by length rounds
first_changes [] k less = absurd (omega arith)
first_changes (round ∷ rounds) zero less = let c = sum_by-cons {X = List Change} length round rounds in omega (arith, c)
first_changes (round ∷ rounds) (suc k) less =
    let c = sum_by-cons {X = List Change} length round rounds in
    let d = sum_by-cons {X = List Change} length round (take k rounds) in
    let rest = first_changes rounds k (omega arith) in
    omega (arith, c, d, rest)

-- ---- the hops

-- the numbers of all changes before hops
abbrev numbers_in : List HopStep → List ℕ
numbers_in steps = flat_map (λ s. s.changes) steps

length_hops : (steps : List HopStep) → length (flat_map step_events steps) ≡ length (numbers_in steps) + length steps
length_hops [] = refl
length_hops (s ∷ steps) =
    let a = length-append (step_events s) (flat_map step_events steps) in
    let b = length-append (map event.Change s.changes) (event.Hop 0 ∷ []) in
    let c = length-map s.changes event.Change in
    let d = length-append s.changes (numbers_in steps) in
    let rest = length_hops steps in
    omega (arith, a, b, c, d, rest)

map_same : {A : Type 0} (xs : List A) → map (λ (x : A). x) xs ≡ xs
map_same [] = refl
map_same (x ∷ xs) = ap (λ l. x ∷ l) (map_same xs)

module _ (u : Rollout) (k dst : ℕ) where
  -- the numbers before each hop are all different
  numbers_apart : (place : Place) (rest : List Place) (end : Option Outcome) (steps : List HopStep) → AreSteps u k dst place rest end steps → AllByRecursion (λ s. IsDistinct s.changes) steps
  numbers_apart place [] None [] are = tt
  numbers_apart place [] None (s ∷ steps) are = absurd are
  numbers_apart place [] (Some found) [] are = absurd are
  numbers_apart place [] (Some found) (s ∷ []) are = (distinct_rising s.changes are.gives.rise, tt)
  numbers_apart place [] (Some found) (s ∷ t ∷ steps) are = absurd are
  numbers_apart place (next ∷ rest) end [] are = absurd are
  numbers_apart place (next ∷ rest) end (s ∷ steps) are = (distinct_rising s.changes are.0.gives.rise, numbers_apart next rest end steps are.1)

  -- each hop is at a switch of the walk
  switches_of_walk : (place : Place) (rest : List Place) (end : Option Outcome) (steps : List HopStep) → AreSteps u k dst place rest end steps
      → (s : SwitchId) → IsIn s (switches_in steps) → IsIn s (switches_along place rest)
  switches_of_walk place [] None [] are s i = absurd i
  switches_of_walk place [] None (t ∷ steps) are s i = absurd are
  switches_of_walk place [] (Some found) [] are s i = absurd are
  switches_of_walk place [] (Some found) (t ∷ []) are s (inl e) = inl (e ∙ ap (λ (p : Place). p.switch) are.place_is)
  switches_of_walk place [] (Some found) (t ∷ []) are s (inr i) = absurd i
  switches_of_walk place [] (Some found) (t ∷ w ∷ steps) are s i = absurd are
  switches_of_walk place (next ∷ rest) end [] are s i = absurd are
  switches_of_walk place (next ∷ rest) end (t ∷ steps) are s (inl e) = inl (e ∙ ap (λ (p : Place). p.switch) are.0.place_is)
  switches_of_walk place (next ∷ rest) end (t ∷ steps) are s (inr i) = inr (switches_of_walk next rest end steps are.1 s i)

  -- no change is made twice, so there are no more than the round has
  few_numbers : (place : Place) (rest : List Place) (end : Option Outcome) (steps : List HopStep) → AreSteps u k dst place rest end steps → IsDistinct (switches_in steps)
      → length (numbers_in steps) ≤ length (round_after k u.rounds)
  few_numbers place rest end steps are distinct =
      let round = round_after k u.rounds in
      let there = changes_there u k dst place rest end steps are in
      let apart = numbers_apart place rest end steps are in
      let at : (s : HopStep) (i : ℕ) → IsIn s steps → IsIn i s.changes → IsChangeAt round s.place.switch i = λ s i m n.
      each_at (IsChangeAt round s.place.switch) s.changes i (each_at (λ t. AllByRecursion (IsChangeAt round t.place.switch) t.changes) steps s there m) n in
      let told : (x y : HopStep) (a b : ℕ) → IsIn x steps → IsIn y steps → IsIn a x.changes → IsIn b y.changes → a ≡ b → x ≡ y = λ x y a b m n i j e.
      let one = at x a m i in
      let other = at y b n j in
      let f : Some one.change ≡ Some other.change = sym one.is ∙ ap (slice_get round) e ∙ other.is in
      let g : one.change ≡ other.change = cc in
      let same : x.place.switch ≡ y.place.switch = sym one.at ∙ ap switch_of g ∙ other.at in
      told_from_distinct (λ s. s.place.switch) steps distinct x y m n same in
      let once : IsDistinct (numbers_in steps) =
      distinct_members (λ (i : ℕ). i) (numbers_in steps)
      (distinct_flat_map (λ (i : ℕ). i) (λ s. s.changes) steps (distinct_members (λ s. s.place.switch) steps distinct)
      (λ s m. subst IsDistinct (sym (map_same s.changes)) (each_at (λ t. IsDistinct t.changes) steps s apart m)) told) in
      let most = no_longer (numbers_in steps) (numbers_from 0 (length round)) once (λ i m.
      let (s, n, j) = in_from_flat_map (λ t. t.changes) i steps m in
      let here = at s i n j in
      let less = past_end round i here.change here.is in
      in_counted 0 (length round) i (omega arith) (omega arith)) in
      let c = length-counted 0 (length round) in
      omega (arith, most, c)

  -- and no more hops than there are switches
  few_hops : IsNetwork u.net → (place : Place) (rest : List Place) (end : Option Outcome) (steps : List HopStep) → place.switch.0 < switch_count u.net → IsMixedWalk u k dst place rest
      → AreSteps u k dst place rest end steps → IsDistinct (switches_in steps) → length steps ≤ switch_count u.net
  few_hops valid place rest end steps inside walk are distinct =
      let within : AllByRecursion (λ s. s.0 < switch_count u.net) (switches_along place rest) =
      subst (AllByRecursion (λ (s : SwitchId). s.0 < switch_count u.net)) (along_stops (place ∷ rest)) (walk_within u valid k dst place rest inside walk) in
      let below : AllByRecursion (λ s. s.0 < switch_count u.net) (switches_in steps) =
      each_from_in (λ (s : SwitchId). s.0 < switch_count u.net) (switches_in steps)
      (λ s i. each_at (λ (t : SwitchId). t.0 < switch_count u.net) (switches_along place rest) s within (switches_of_walk place rest end steps are s i)) in
      let few = few_switches (switch_count u.net) (switches_in steps) distinct below in
      let c = length-map steps (λ (s : HopStep). s.place.switch) in
      omega (arith, few, c)

pub few_events : (u : Rollout) → IsNetwork u.net → (k : ℕ) → k < length u.rounds → (demands : List DemandView) (class : Class) → IsEntry u.net class.entry → (rest : List Place) (end : Option Outcome)
    → IsBreakingWalk u k class.first class.entry (duties_of demands class.entry class.first) rest end → (steps : List HopStep) → AreSteps u k class.first class.entry rest end steps
    → AreFewFor u.net u.rounds (whole_rounds (take k u.rounds) ++ event.Start ∷ event.Enter class.entry class.first ∷ flat_map step_events steps)
few_events u valid k less demands class is_entry rest end breaking steps are =
    let hops = flat_map step_events steps in
    let distinct = distinct_hops u k class.first class.entry rest end steps demands breaking are in
    let a = length-append (whole_rounds (take k u.rounds)) (event.Start ∷ event.Enter class.entry class.first ∷ hops) in
    let b = length-first_rounds u.rounds k (omega arith) in
    let first = first_changes u.rounds k less in
    let c = length_hops steps in
    let d = few_numbers u k class.first class.entry rest end steps are distinct in
    let e = few_hops u k class.first valid class.entry rest end steps (entry_within u.net valid class.entry is_entry) breaking.walk are distinct in
    omega (arith, a, b, first, c, d, e)
