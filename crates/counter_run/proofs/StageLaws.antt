-- What holds at each place of a walk of a stage's round, and how its hops are put one after the other.
use Rattle.std.proofs.Common.{◌≡◌, ℕ, zero, suc, ◌+◌, ◌<◌, List, [], ◌∷◌, ◌++◌, length, take, get_or, refl, sym, ◌∙◌, subst, ap, arith, append_assoc, add-one}
use Rattle.std.specs.Prelude.{flat_map, slice_get, Option, Some, None, IfSome, Result, Ok, Err, OnOk}
use Rattle.std.specs.List.{AllByRecursion}
use Rattle.std.proofs.Math.Seq.{take-suc}
use Rattle.std.proofs.lemmas.Grind.{flat_map-append}
use Rattle.std.proofs.lemmas.List.{append-nil}
use Rattle.net_base.specs.Walks.{IsWalk, end_of}
use Rattle.net_base.proofs.MemberLaws.{each_at}
use Rattle.net_base.proofs.WalkLaws.{end_of-push}
use Rattle.net_base.specs.declared.ids.Place.{Place}
use Rattle.net_base.specs.declared.ids.SwitchId.{SwitchId}
use Rattle.topology.specs.Networks.{IsNetwork, switch_count}
use Rattle.flow_rules.specs.Tables.{TableState, rules_of_all, rules_at}
use Rattle.flow_rules.specs.declared.rules.Rule.{Rule}
use Rattle.path_walk.specs.declared.Outcome.{Outcome}
use Rattle.path_walk.specs.declared.Outcome.TheVariants.{Discard, Leave, Go}
use Rattle.dest_classes.specs.declared.Class.{Class}
use Rattle.demands.specs.Duties.{PacketDuties}
use Rattle.breaking_walks.specs.Breaking.{BreaksBy}
use Rattle.update_model.specs.Changes.{changes_at, round_after}
use Rattle.update_model.specs.Mixtures.{Rollout, tables_before, MayBe, IsPossible, IsMixedWalk}
use Rattle.update_model.specs.declared.Change.{Change}
use Rattle.update_model.specs.declared.Event.{Event}
use Rattle.update_model.proofs.RoundLaws.{length-settled}
use Rattle.update_model.proofs.MadeLaws.{keys_distinct, apply_there}
use Rattle.round_mix.specs.Prepared.{AreGood, AreClear}
use Rattle.certificates.specs.Steps.{switches_along}
use Rattle.schedule_pilot.proofs.VisitLaws.{walk_within}
use Rattle.outcome_changes.specs.Giving.{GiveOutcome}
use Rattle.counter_run.specs.Showing.{HopStep, step_events, shown_rollout}
use Rattle.counter_run.specs.Steps.{IsStage, IsStep, AreSteps, GoOnAlong, GoOnBy}
use Rattle.counter_run.specs.declared.showing.ShownRound.{ShownRound}
use Rattle.counter_run.proofs.ShownLaws.{along_stops, end_in}

-- ---- the tables of a stage

pub length_all : (tables : List TableState) → length (rules_of_all tables) ≡ length tables
length_all [] = refl
length_all (t ∷ tables) = ap suc (length_all tables)

pub rules_of_one : (tables : List TableState) (i : ℕ) (t : TableState) → slice_get tables i ≡ Some t → get_or (rules_of_all tables) i [] ≡ t.rules
rules_of_one [] i t at = absurd (let f : None ≡ Some t = at in cc)
rules_of_one (x ∷ tables) zero t at = let f : Some x ≡ Some t = at in let g : x ≡ t = cc in ap (λ (y : TableState). y.rules) g
rules_of_one (x ∷ tables) (suc i) t at = rules_of_one tables i t at

module _ (stage : ShownRound) (is : IsStage stage) where
  -- the tables before the round, and the round
  abbrev tables : List (List Rule)
  tables = tables_before (shown_rollout stage) stage.round.number

  abbrev round : List Change
  round = round_after stage.round.number stage.round.rounds.now

  pub table_count : length stage.tables.now ≡ switch_count stage.round.net.now
  table_count =
      sym (length_all stage.tables.now) ∙ ap length is.before ∙ length-settled stage.round.rounds.now stage.round.number (rules_of_all stage.round.old.now) ∙ length_all stage.round.old.now ∙ is.tables

  pub rules_here : (s : SwitchId) (t : TableState) → slice_get stage.tables.now s.0 ≡ Some t → rules_at tables s ≡ t.rules
  rules_here s t at = ap (λ (all : List (List Rule)). get_or all s.0 []) (sym is.before) ∙ rules_of_one stage.tables.now s.0 t at

  module _ (s : SwitchId) (t : TableState) (at : slice_get stage.tables.now s.0 ≡ Some t) where
    pub good_here : AreGood t.rules (changes_at s round)
    good_here =
        let good = is.good stage.round.number is.within in
        subst (λ rules. AreGood rules (changes_at s round)) (rules_here s t at)
        (record { applies = apply_there tables s round good.applies; distinct = keys_distinct s round good.distinct })

    pub clear_here : AreClear t.rules (changes_at s round)
    clear_here = subst (λ rules. AreClear rules (changes_at s round)) (rules_here s t at) (is.clear stage.round.number is.within s)

  module _ (place : Place) (t : TableState) (at : slice_get stage.tables.now place.switch.0 ≡ Some t) (dst : ℕ) (wanted : Outcome) where
    pub may_be_here : IsPossible (shown_rollout stage) stage.round.number dst place wanted → MayBe stage.round.net.now t.rules (changes_at place.switch round) place dst wanted
    may_be_here may = subst (λ rules. MayBe stage.round.net.now rules (changes_at place.switch round) place dst wanted) (rules_here place.switch t at) may

    -- the events of changes that give the outcome, and of a hop after them
    pub hop_added : (numbers : List ℕ) (old new : List Event) → GiveOutcome stage.round.net.now t.rules round place dst wanted numbers
        → new ≡ old ++ step_events (record { place = place; changes = numbers }) → GoOnBy (shown_rollout stage) stage.round.number dst place wanted old new
    hop_added numbers old new gives added = record {
      step = record { place = place; changes = numbers };
      is_step = record { place_is = refl; gives = subst (λ rules. GiveOutcome stage.round.net.now rules round place dst wanted numbers) (sym (rules_here place.switch t at)) gives };
      added = added;
    }

-- ---- the places of a walk

module _ {A : Type 0} (step : A → A → Type 0) where
  pub walk_at : (start : A) (xs : List A) (i : ℕ) (d : A) → IsWalk step start xs → i < length xs → step (end_of start (take i xs)) (get_or xs i d)
  walk_at start [] i d walk less = absurd (omega arith)
  walk_at start (x ∷ xs) zero d walk less = walk.0
  walk_at start (x ∷ xs) (suc i) d walk less = walk_at x xs i d walk.1 (omega arith)

  pub walk_take : (start : A) (xs : List A) (i : ℕ) → IsWalk step start xs → IsWalk step start (take i xs)
  walk_take start xs zero walk = tt
  walk_take start [] (suc i) walk = tt
  walk_take start (x ∷ xs) (suc i) walk = (walk.0, walk_take x xs i walk.1)

-- where a walk is after one more place
take_more : {A : Type 0} (xs : List A) (i : ℕ) (d : A) → i < length xs → take (i + 1) xs ≡ take i xs ++ get_or xs i d ∷ []
take_more xs i d less = ap (λ n. take n xs) (add-one i) ∙ take-suc xs i d less

pub end_more : {A : Type 0} (start : A) (xs : List A) (i : ℕ) (d : A) → i < length xs → get_or xs i d ≡ end_of start (take (i + 1) xs)
end_more start xs i d less = sym (ap (end_of start) (take_more xs i d less) ∙ end_of-push start (take i xs) (get_or xs i d))

-- a walk ends inside the network
pub end_inside : (u : Rollout) → IsNetwork u.net → (k dst : ℕ) (start : Place) (rest : List Place) → start.switch.0 < switch_count u.net → IsMixedWalk u k dst start rest
    → (end_of start rest).switch.0 < switch_count u.net
end_inside u valid k dst start rest inside walk =
    each_at (λ (s : SwitchId). s.0 < switch_count u.net) (switches_along start rest) (end_of start rest).switch
    (subst (AllByRecursion (λ (s : SwitchId). s.0 < switch_count u.net)) (along_stops (start ∷ rest)) (walk_within u valid k dst start rest inside walk))
    (end_in start rest)

-- ---- hops one after the other

pub flat_map_push : {A B : Type 0} (f : A → List B) (xs : List A) (x : A) → flat_map f (xs ++ x ∷ []) ≡ flat_map f xs ++ f x
flat_map_push f xs x = flat_map-append f xs (x ∷ []) ∙ ap (λ ys. flat_map f xs ++ ys) (append-nil (f x))

module _ (u : Rollout) (k dst : ℕ) where
  steps_push : (place : Place) (rest : List Place) (steps : List HopStep) (next : Place) (s : HopStep) → AreSteps u k dst place rest None steps
      → IsStep u k dst (end_of place rest) (Go next) s → AreSteps u k dst place (rest ++ next ∷ []) None (steps ++ s ∷ [])
  steps_push place [] [] next s are step = (step, tt)
  steps_push place [] (t ∷ steps) next s are step = absurd are
  steps_push place (x ∷ rest) [] next s are step = absurd are
  steps_push place (x ∷ rest) (t ∷ steps) next s are step = (are.0, steps_push x rest steps next s are.1 step)

  steps_end : (place : Place) (rest : List Place) (steps : List HopStep) (found : Outcome) (s : HopStep) → AreSteps u k dst place rest None steps
      → IsStep u k dst (end_of place rest) found s → AreSteps u k dst place rest (Some found) (steps ++ s ∷ [])
  steps_end place [] [] found s are step = step
  steps_end place [] (t ∷ steps) found s are step = absurd are
  steps_end place (x ∷ rest) [] found s are step = absurd are
  steps_end place (x ∷ rest) (t ∷ steps) found s are step = (are.0, steps_end x rest steps found s are.1 step)

module _ (u : Rollout) (k : ℕ) (class : Class) (old : List Event) where
  pub along_none : GoOnAlong u k class [] None old old
  along_none = record { steps = []; are = tt; added = sym (append-nil old) }

  module _ (rest : List Place) (mid new : List Event) (along : GoOnAlong u k class rest None old mid) where
    added_then : (s : HopStep) → new ≡ mid ++ step_events s → new ≡ old ++ flat_map step_events (along.steps ++ s ∷ [])
    added_then s is =
        is ∙ ap (λ (l : List Event). l ++ step_events s) along.added ∙ append_assoc old (flat_map step_events along.steps) (step_events s)
        ∙ ap (λ l. old ++ l) (sym (flat_map_push step_events along.steps s))

    pub along_more : (next : Place) → GoOnBy u k class.first (end_of class.entry rest) (Go next) mid new → GoOnAlong u k class (rest ++ next ∷ []) None old new
    along_more next by = record {
      steps = along.steps ++ by.step ∷ [];
      are = steps_push u k class.first class.entry rest along.steps next by.step along.are by.is_step;
      added = added_then by.step by.added;
    }

    pub along_end : (found : Outcome) → GoOnBy u k class.first (end_of class.entry rest) found mid new → GoOnAlong u k class rest (Some found) old new
    along_end found by = record {
      steps = along.steps ++ by.step ∷ [];
      are = steps_end u k class.first class.entry rest along.steps found by.step along.are by.is_step;
      added = added_then by.step by.added;
    }

  -- one more hop along a walk
  pub along_next : (rest : List Place) (i : ℕ) (d place : Place) (mid new : List Event) → i < length rest → place ≡ end_of class.entry (take i rest) → GoOnAlong u k class (take i rest) None old mid
      → GoOnBy u k class.first place (Go (get_or rest i d)) mid new → GoOnAlong u k class (take (i + 1) rest) None old new
  along_next rest i d place mid new less is along by =
      subst (λ (xs : List Place). GoOnAlong u k class xs None old new) (sym (take_more rest i d less))
      (along_more (take i rest) mid new along (get_or rest i d) (subst (λ (p : Place). GoOnBy u k class.first p (Go (get_or rest i d)) mid new) is by))

-- a breaking walk ends by an outcome that is possible at its last place
pub end_possible : (u : Rollout) (k dst : ℕ) (entry : Place) (duties : PacketDuties) (rest : List Place) (end : Option Outcome) → BreaksBy u k dst entry duties rest end
    → IfSome end (λ found. IsPossible u k dst (end_of entry rest) found)
end_possible u k dst entry duties rest None breaks = tt
end_possible u k dst entry duties rest (Some (Leave port vlan)) breaks = breaks.1.0
end_possible u k dst entry duties rest (Some Discard) breaks = breaks.1.0
end_possible u k dst entry duties rest (Some (Go next)) breaks = absurd breaks

-- what follows from what an answer that is no refusal says
pub on_ok : {T E : Type 0} (r : Result T E) (P Q : Type 0) → (P → Q) → OnOk r P → OnOk r Q
on_ok (Ok x) P Q f h = f h
on_ok (Err e) P Q f h = tt
