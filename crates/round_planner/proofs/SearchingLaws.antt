-- A change that is tried, and what comes of it.
use Rattle.std.proofs.Common.{◌≡◌, ℕ, zero, suc, ◌+◌, ◌<◌, ◌≤◌, List, [], ◌∷◌, ◌++◌, length, take, drop, get_or, refl, sym, ◌∙◌, subst, ap, inl, inr, arith, length-append}
use Rattle.std.proofs.lemmas.List.{append-nil}
use Rattle.std.specs.Prelude.{Bool, Some, slice_get}
use Rattle.std.specs.List.{AllByRecursion}
use Rattle.net_base.specs.Members.{IsIn}
use Rattle.net_base.proofs.MemberLaws.{each_weaker, each_append}
use Rattle.net_base.specs.declared.ids.SwitchId.{SwitchId}
use Rattle.topology.specs.Networks.{IsNetwork, switch_count}
use Rattle.flow_rules.specs.Tables.{rules_at, rules_of_all}
use Rattle.flow_rules.specs.declared.rules.Rule.{Rule}
use Rattle.path_walk.specs.UserConfigs.{IsUserConfig}
use Rattle.dest_classes.specs.Classes.{class_count}
use Rattle.dest_classes.specs.declared.Class.{Class}
use Rattle.update_model.specs.Changes.{switch_of, rule_of, Applies, IsGoodRound, tables_after, tables_after_change, changes_at, round_after, with_change}
use Rattle.update_model.specs.Mixtures.{Rollout, tables_before}
use Rattle.update_model.specs.Remaining.{remaining_changes}
use Rattle.update_model.specs.declared.Change.{Change}
use Rattle.round_mix.specs.Prepared.{MixedState, IsPrepared}
use Rattle.round_mix.specs.declared.MarkedRule.{MarkedRule}
use Rattle.certificates.specs.Certified.{KeepsVlan}
use Rattle.certificates.specs.Ordered.{IsSafe}
use Rattle.certificates.specs.declared.OrderedEvidence.{OrderedEvidence}
use Rattle.check_reasons.specs.Loaded.{AreLoaded, IsLoaded}
use Rattle.mixed_walks.specs.Walks.{IsRoundOf}
use Rattle.mixed_walks.proofs.PlaceLaws.{tables_keep}
use Rattle.evidence_store.specs.State.{StoreState}
use Rattle.evidence_store.specs.Stored.{IsStored, no_evidence}
use Rattle.round_tables.specs.PreparedTables.{PreparedState}
use Rattle.round_tables.specs.Trials.{single, HasRoomAlone, IsBetweenTrials, IsTrying}
use Rattle.round_judge.specs.declared.judging.FoundEvidence.{FoundEvidence}
use Rattle.table_difference.specs.Targets.{Target}
use Rattle.round_judge.specs.Goals.{duties_in}
use Rattle.round_planner.specs.Search.{update_by, single_rounds, CanBeSafe, Qualifies, IsFirstQualifying}
use Rattle.round_judge.specs.Judged.{IsNextRound, AreSafeBelow, HasUnsafe, AreWithPicks}
use Rattle.round_planner.specs.Standing.{Stands}
use Rattle.round_judge.specs.declared.unsafe_class.UnsafeClass.{UnsafeClass}
use Rattle.net_base.specs.Switches.{has}
use Rattle.round_planner.specs.Failures.{IsUnsafeClass}
use Rattle.round_judge.specs.Goals.{HasAtoms}
use Rattle.round_planner.specs.Searching.{SearchState, IsAt, IsTryingAt}
use Rattle.round_planner.proofs.SameRound.{IsSameRound, same_back, same_alone, same_prefix, tables_at, held_same, on_walk_same, safe_same}
use Rattle.table_difference.proofs.LengthLaws.{few_remain}
use Rattle.std.proofs.lemmas.Bool.{cases_lt}
use Rattle.round_planner.proofs.EndLaws.{good}
use Rattle.round_planner.proofs.SearchLaws.{first_remains}
use Rattle.round_planner.proofs.StandingLaws.{begun, length_rounds, evidence_there, stands_none, stands_more}
use Rattle.round_planner.proofs.UserTables.{AreUserTables, IsUserChange, keeps_user, user_start, user_along, changes_along, remaining_user, remaining_applies, remaining_count}
use Rattle.dest_classes.proofs.MapLaws.{number_fits}
use Rattle.round_judge.specs.Visits.{HoldTables}

-- ---- prepared switches and rounds

loaded_as : (u v : Rollout) (k j : ℕ) → IsSameRound u k v j → (mixes : List MixedState) → AreLoaded u k mixes → AreLoaded v j mixes
loaded_as u v k j same mixes h = record { count = h.count ∙ ap switch_count same.net; each = each }
  where
    prepared_as : (s : SwitchId) (marks : List MarkedRule) → IsPrepared (rules_at (tables_before u k) s) (changes_at s (round_after k u.rounds)) marks
        → IsPrepared (rules_at (tables_before v j) s) (changes_at s (round_after j v.rounds)) marks
    prepared_as s marks p =
        subst (λ ts. IsPrepared (rules_at ts s) (changes_at s (round_after j v.rounds)) marks) same.tables
        (subst (λ cs. IsPrepared (rules_at (tables_before u k) s) (changes_at s cs) marks) same.round p)

    each : (s : SwitchId) (mixed : MixedState) → slice_get mixes s.0 ≡ Some mixed → IsLoaded v j s mixed
    each s mixed at = let l = h.each s mixed at in record { marks = l.marks; is = l.is; prepared = prepared_as s l.marks l.prepared; few = l.few }

round_keeps : (cs : List Change) → AllByRecursion (λ d. KeepsVlan (rule_of d).action) cs → (j : ℕ) → AllByRecursion (λ d. KeepsVlan (rule_of d).action) (round_after j (single_rounds cs))
round_keeps [] all j = tt
round_keeps (d ∷ cs) all zero = (all.0, tt)
round_keeps (d ∷ cs) all (suc j) = round_keeps cs all.1 j

-- ---- the round of a change that is tried

module _ (to : Target) (old : List (List Rule)) (old_user : IsUserConfig to.net old) (new_user : IsUserConfig to.net to.new) (changes : List Change) (c : Change) (e : OrderedEvidence)
    (stands : Stands to old changes e) (remains : IsIn c (remaining_changes (tables_after changes old) to.new)) where
  abbrev pub next : Rollout
  next = update_by to old (changes ++ c ∷ [])

  user : AreUserTables to old (tables_after changes old)
  user = user_along to old new_user old (user_start to old new_user old_user) changes stands.found

  change : IsUserChange to old c
  change = remaining_user to old new_user (tables_after changes old) user c remains

  pub applies_here : Applies (tables_after changes old) c
  applies_here = remaining_applies to old new_user (tables_after changes old) user c remains

  same : IsSameRound (single to.net (tables_after changes old) c) 0 next (length changes)
  same = same_alone to old changes c []

  -- all classes are safe: the change qualifies
  pub qualifies : HasRoomAlone to.net (tables_after changes old) c → (found : List FoundEvidence) → AreSafeBelow to next e (length changes) (class_count to.classes) found → Qualifies to (tables_after changes old) c
  qualifies room found safe = record {
    stands = room;
    safe = λ n class is. elim (safe.each n class (number_fits to.classes n class is) is) [
      | inl (kept, none) ↦ can class kept.numbers kept.sets kept.safe
      | inr (fails, has) ↦ can class has.new.evidence.numbering has.new.evidence.befores has.safe.safe
    ];
  }
    where
      can : (class : Class) (numbers : List ℕ) (sets : List (List ℕ)) → IsSafe next (length changes) class.first class.entry (duties_in to class) numbers sets → CanBeSafe to (tables_after changes old) c class
      can class numbers sets h = record {
        numbers = numbers;
        sets = sets;
        safe = safe_same next (length changes) (single to.net (tables_after changes old) c) 0 (same_back (single to.net (tables_after changes old) c) 0 next (length changes) same)
            class.first class.entry (duties_in to class) numbers sets h;
      }

  -- some class isn't: it fails by that
  pub fails_by : (f : UnsafeClass) → HasUnsafe to next (length changes) f → IsUnsafeClass to (tables_after changes old) c f
  fails_by f unsafe = record {
    is_class = unsafe.is_class;
    never = λ can. unsafe.unsafe_.never can.numbers can.sets
        (safe_same (single to.net (tables_after changes old) c) 0 next (length changes) same f.class.first f.class.entry (duties_in to f.class) can.numbers can.sets can.safe);
    visits = λ place on. unsafe.unsafe_.visits place (on_walk_same (single to.net (tables_after changes old) c) 0 next (length changes) same f.class.first f.class.entry place on);
  }

  -- the switches are prepared for it as the next round of the search
  pub round_of : (tables : List (List Rule)) → tables ≡ tables_after changes old → (mixes : List MixedState) → AreLoaded (single to.net tables c) 0 mixes → IsRoundOf to.net mixes next (length changes)
  round_of tables are mixes loaded = record {
    net_is = refl;
    loaded = loaded_as (single to.net (tables_after changes old) c) next 0 (length changes) same mixes (subst (λ ts. AreLoaded (single to.net ts c) 0 mixes) are loaded);
    keeps_old = tables_keep to.net old old_user;
    keeps = λ j le. round_keeps (changes ++ c ∷ [])
        (each_append (λ d. KeepsVlan (rule_of d).action) changes (c ∷ [])
        (each_weaker (IsUserChange to old) (λ d. KeepsVlan (rule_of d).action) keeps_change changes (changes_along to old new_user old (user_start to old new_user old_user) changes stands.found))
        (keeps_change c change, tt)) j;
  }
    where
      keeps_change : (d : Change) → IsUserChange to old d → KeepsVlan (rule_of d).action
      keeps_change d is = keeps_user to.net (switch_of d) (rule_of d).action is.rule.action

  -- it is the next round of the search
  pub next_round : IsNetwork to.net → HasRoomAlone to.net (tables_after changes old) c → IsNextRound to next e (length changes) (c ∷ [])
  next_round net room = record {
    within = (let count = length_rounds (changes ++ c ∷ []) in let sum = length-append changes (c ∷ []) in omega arith);
    round = round_is;
    good = good_up_to;
    clear = λ s mixed held. room.clear s mixed (held_same next (length changes) (single to.net (tables_after changes old) c) 0 back s mixed held);
    picks = stands.so_far.begun;
    certificates = (evidence_there to old changes c e stands).certificates;
  }
    where
      back : IsSameRound next (length changes) (single to.net (tables_after changes old) c) 0
      back = same_back (single to.net (tables_after changes old) c) 0 next (length changes) same

      round_is : round_after (length changes) next.rounds ≡ c ∷ []
      round_is = back.round

      good_here : IsGoodRound (tables_before next (length changes)) (round_after (length changes) next.rounds)
      good_here = subst (IsGoodRound (tables_before next (length changes))) (sym round_is)
          (record { applies = (subst (λ ts. Applies ts c) (sym (tables_at to old changes (c ∷ []))) applies_here, tt); distinct = (λ i. i, tt) })

      good_up_to : (j : ℕ) → j ≤ length changes → IsGoodRound (tables_before next j) (round_after j next.rounds)
      good_up_to j le = elim (cases_lt j (length changes)) [
        | inl less ↦
            let before = same_prefix to old changes (c ∷ []) j less in
            subst (λ ts. IsGoodRound ts (round_after j next.rounds)) before.tables
            (subst (IsGoodRound (tables_before (update_by to old changes) j)) before.round
            (good to old net old_user new_user changes stands.found j (let count = length_rounds changes in omega arith)))
        | inr last ↦ (let e : length changes ≡ j = omega arith in subst (λ i. IsGoodRound (tables_before next i) (round_after i next.rounds)) e good_here)
      ]

  -- where a search goes on with it
  pub taken : (more : OrderedEvidence) (found : List FoundEvidence) → IsStored e → AreSafeBelow to next e (length changes) (class_count to.classes) found
      → AreWithPicks e (suc (length changes)) found more → IsStored more → IsFirstQualifying to (tables_after changes old) (remaining_changes (tables_after changes old) to.new) c → Stands to old (changes ++ c ∷ []) more
  taken more found stored_old safe added stored first = stands_more to old changes c e more found stands first stored_old safe added stored

-- the rounds after one more
pub rounds_more : (changes : List Change) (c : Change) → single_rounds changes ++ (c ∷ []) ∷ [] ≡ single_rounds (changes ++ c ∷ [])
rounds_more [] c = refl
rounds_more (d ∷ changes) c = ap (λ rs. (d ∷ []) ∷ rs) (rounds_more changes c)

-- a change put into an empty last round
pub change_put : (c : Change) (rounds : List (List Change)) → with_change c (rounds ++ [] ∷ []) ≡ rounds ++ (c ∷ []) ∷ []
change_put c [] = refl
change_put c (round ∷ []) = refl
change_put c (round ∷ next ∷ rest) = ap (λ rs. round ∷ rs) (change_put c (next ∷ rest))

-- the tables after one more
pub tables_more : (changes : List Change) (c : Change) (tables : List (List Rule)) → tables_after (changes ++ c ∷ []) tables ≡ tables_after_change c (tables_after changes tables)
tables_more [] c tables = refl
tables_more (d ∷ changes) c tables = tables_more changes c (tables_after_change d tables)

-- those after the last round
pub tables_last : (to : Target) (old : List (List Rule)) (changes : List Change) (c : Change) → tables_before (update_by to old (changes ++ c ∷ [])) (suc (length changes)) ≡ tables_after (changes ++ c ∷ []) old
tables_last to old changes c =
    let all : changes ++ c ∷ [] ≡ (changes ++ c ∷ []) ++ [] = sym (append-nil (changes ++ c ∷ [])) in
    let count : suc (length changes) ≡ length (changes ++ c ∷ []) = (let sum = length-append changes (c ∷ []) in omega arith) in
    ap (λ n. tables_before (update_by to old (changes ++ c ∷ [])) n) count
    ∙ ap (λ cs. tables_before (update_by to old cs) (length (changes ++ c ∷ []))) all
    ∙ tables_at to old (changes ++ c ∷ []) []

-- so many rounds
pub round_number : (rounds : List (List Change)) (changes : List Change) (c : Change) → rounds ≡ single_rounds changes → length (with_change c (rounds ++ [] ∷ [])) ≡ suc (length changes)
round_number rounds changes c are =
    let put = change_put c rounds in
    let more = ap (λ rs. rs ++ (c ∷ []) ∷ []) are ∙ rounds_more changes c in
    ap length (put ∙ more) ∙ length_rounds (changes ++ c ∷ []) ∙ length-append changes (c ∷ []) ∙ (omega arith)

-- a search makes few changes
pub made_few : (to : Target) (old : List (List Rule)) → IsUserConfig to.net old → IsUserConfig to.net to.new → (changes : List Change) (e : OrderedEvidence) → Stands to old changes e → length changes ≤ 4096
made_few to old old_user new_user changes e stands =
    let all = remaining_count to old new_user old (user_start to old new_user old_user) changes stands.found in
    let few = few_remain old to.new in
    let first = old_user.few in
    let second = new_user.few in
    omega arith

-- the search has made the change that was tried
pub made_at : (to : Target) (old : List (List Rule)) → IsUserConfig to.net old → IsUserConfig to.net to.new → (changes : List Change) (c : Change) (s new : SearchState) (found : List FoundEvidence) (round : ℕ) (between : List (List Change))
    → IsTryingAt to old changes c s → AreSafeBelow to (update_by to old (changes ++ c ∷ [])) s.store.evidence (length changes) (class_count to.classes) found
    → IsFirstQualifying to (tables_after changes old) (remaining_changes (tables_after changes old) to.new) c
    → between ≡ s.rounds ++ [] ∷ [] → new.rounds ≡ with_change c between → round ≡ length new.rounds
    → rules_of_all new.trial.tables ≡ tables_after_change c (rules_of_all s.trial.tables) → IsBetweenTrials to.net new.trial
    → AreWithPicks s.store.evidence round found new.store.evidence → new.store.classes ≡ s.store.classes → IsStored s.store.evidence → IsStored new.store.evidence → new.came ≡ s.came → new.looked ≡ s.looked
    → IsAt to old (changes ++ c ∷ []) new
made_at to old old_user new_user changes c s new found round between at safe first added_round put counted tables settled added classes stored_old stored came looked =
    let rounds_are : new.rounds ≡ with_change c (s.rounds ++ [] ∷ []) = put ∙ ap (with_change c) added_round in
    let round_is : round ≡ suc (length changes) = counted ∙ ap length rounds_are ∙ round_number s.rounds changes c at.rounds in
    let remains = first_remains to (tables_after changes old) (remaining_changes (tables_after changes old) to.new) c first in
    record {
      rounds = rounds_are ∙ change_put c s.rounds ∙ ap (λ rs. rs ++ (c ∷ []) ∷ []) at.rounds ∙ rounds_more changes c;
      tables = tables ∙ ap (tables_after_change c) at.tables ∙ sym (tables_more changes c old);
      settled = settled;
      stands = stands_more to old changes c s.store.evidence new.store.evidence found at.stands first stored_old safe
          (subst (λ n. AreWithPicks s.store.evidence n found new.store.evidence) round_is added) stored;
      classes = classes ∙ at.classes;
      came = subst (HoldTables to (tables_after (changes ++ c ∷ []) old)) (sym came) at.came;
      looked = subst (HasAtoms to.classes) (sym looked) at.looked;
    }

-- what a found change needs of the store
pub picks_before : (to : Target) (old : List (List Rule)) (changes : List Change) (c : Change) (s : SearchState) (round : ℕ) (between after : List (List Change)) → IsTryingAt to old changes c s
    → between ≡ s.rounds ++ [] ∷ [] → after ≡ with_change c between → round ≡ length after → AllByRecursion (λ p. p.round < round) s.store.evidence.picks
picks_before to old changes c s round between after at added_round put counted =
    let round_is : round ≡ suc (length changes) = counted ∙ ap length (put ∙ ap (with_change c) added_round) ∙ round_number s.rounds changes c at.rounds in
    subst (λ n. AllByRecursion (λ p. p.round < n) s.store.evidence.picks) (sym round_is) (begun to old changes s.store.evidence at.stands)

-- ---- a change that is tried

module _ (to : Target) (old : List (List Rule)) (old_user : IsUserConfig to.net old) (new_user : IsUserConfig to.net to.new) (changes : List Change) (c : Change) (s : SearchState) (trial : PreparedState)
    (at : IsAt to old changes s) (remains : IsIn c (remaining_changes (tables_after changes old) to.new)) (rules : rules_of_all trial.tables ≡ rules_of_all s.trial.tables) (trying : IsTrying to.net c trial) where
  -- the switches are prepared for it
  pub tried_round : IsRoundOf to.net trial.mixes (update_by to old (changes ++ c ∷ [])) (length changes)
  tried_round = round_of to old old_user new_user changes c s.store.evidence at.stands remains (rules_of_all trial.tables) (rules ∙ at.tables) trial.mixes trying.loaded

  pub tried_at : (came : List ℕ) (looked : List Bool) → HoldTables to (tables_before (update_by to old (changes ++ c ∷ [])) (suc (length changes))) came → length looked ≡ length s.looked
      → IsTryingAt to old changes c (record { trial = trial; rounds = s.rounds; store = s.store; came = came; looked = looked })
  tried_at came looked held atoms = record {
    rounds = at.rounds;
    tables = rules ∙ at.tables;
    trying = trying;
    stands = at.stands;
    classes = at.classes;
    came = subst (λ (ts : List (List Rule)). HoldTables to ts came) (tables_last to old changes c) held;
    looked = λ some. atoms ∙ at.looked some;
  }

  -- where packets come to before it is known
  pub tried_came : HoldTables to (tables_before (update_by to old (changes ++ c ∷ [])) (length changes)) s.came
  tried_came = subst (λ (ts : List (List Rule)). HoldTables to ts s.came) (sym (tables_at to old changes (c ∷ []))) at.came

  -- and stays known if it fails
  pub failed_came : (came : List ℕ) → HoldTables to (tables_before (update_by to old (changes ++ c ∷ [])) (length changes)) came → HoldTables to (tables_after changes old) came
  failed_came came held = subst (λ (ts : List (List Rule)). HoldTables to ts came) (tables_at to old changes (c ∷ [])) held

  room_alone : HasRoomAlone to.net (tables_after changes old) c
  room_alone = subst (λ ts. HasRoomAlone to.net ts c) (rules ∙ at.tables) trying.stands

  -- it is the next round of the search
  pub tried_next : IsNetwork to.net → IsNextRound to (update_by to old (changes ++ c ∷ [])) s.store.evidence (length changes) (c ∷ [])
  tried_next net = next_round to old old_user new_user changes c s.store.evidence at.stands remains net room_alone

  pub tried_qualifies : (found : List FoundEvidence) → AreSafeBelow to (update_by to old (changes ++ c ∷ [])) s.store.evidence (length changes) (class_count to.classes) found → Qualifies to (tables_after changes old) c
  tried_qualifies found safe = qualifies to old old_user new_user changes c s.store.evidence at.stands remains room_alone found safe

  pub tried_fails : (f : UnsafeClass) → HasUnsafe to (update_by to old (changes ++ c ∷ [])) (length changes) f → IsUnsafeClass to (tables_after changes old) c f
  tried_fails f unsafe = fails_by to old old_user new_user changes c s.store.evidence at.stands remains f unsafe

-- the tables are those before again
pub given_up : (to : Target) (old : List (List Rule)) (changes : List Change) (s : SearchState) (trial : PreparedState) (came : List ℕ) (looked : List Bool) → IsAt to old changes s
    → rules_of_all trial.tables ≡ rules_of_all s.trial.tables → IsBetweenTrials to.net trial → HoldTables to (tables_after changes old) came → length looked ≡ length s.looked
    → IsAt to old changes (record { trial = trial; rounds = s.rounds; store = s.store; came = came; looked = looked })
given_up to old changes s trial came looked at rules settled held atoms = record {
  rounds = at.rounds;
  tables = rules ∙ at.tables;
  settled = settled;
  stands = at.stands;
  classes = at.classes;
  came = held;
  looked = λ some. atoms ∙ at.looked some;
}

-- ---- a change among those that remain

module _ {A : Type 0} where
  pub split_there : (xs : List A) (i : ℕ) (x : A) → i < length xs → x ≡ get_or xs i x → xs ≡ take i xs ++ x ∷ drop (suc i) xs
  split_there [] i x less is = absurd (let f : i < 0 = less in omega arith)
  split_there (y ∷ xs) zero x less is = ap (λ z. z ∷ xs) (sym is)
  split_there (y ∷ xs) (suc i) x less is = ap (λ zs. y ∷ zs) (split_there xs i x (omega arith) is)

  take_suc : (xs : List A) (i : ℕ) (x : A) → i < length xs → x ≡ get_or xs i x → take (suc i) xs ≡ take i xs ++ x ∷ []
  take_suc [] i x less is = absurd (let f : i < 0 = less in omega arith)
  take_suc (y ∷ xs) zero x less is = ap (λ z. z ∷ []) (sym is)
  take_suc (y ∷ xs) (suc i) x less is = ap (λ zs. y ∷ zs) (take_suc xs i x (omega arith) is)

  pub take_more : (xs : List A) (i : ℕ) (x : A) → i < length xs → x ≡ get_or xs i x → take (i + 1) xs ≡ take i xs ++ x ∷ []
  take_more xs i x less is = ap (λ n. take n xs) (let e : i + 1 ≡ suc i = omega arith in e) ∙ take_suc xs i x less is

-- ---- a search that begins

pub begins_at : (to : Target) (old : List (List Rule)) (s : SearchState) → s.rounds ≡ [] → rules_of_all s.trial.tables ≡ old → IsBetweenTrials to.net s.trial
    → (classes : ℕ) → classes ≡ class_count to.classes → s.store ≡ record { evidence = no_evidence; classes = classes } → HoldTables to old s.came → HasAtoms to.classes s.looked → IsAt to old [] s
begins_at to old s rounds tables settled classes count store came looked = record {
  rounds = rounds;
  tables = tables;
  settled = settled;
  stands = subst (λ (st : StoreState). Stands to old [] st.evidence) (sym store) (stands_none to old);
  classes = ap (λ (st : StoreState). st.classes) store ∙ count;
  came = came;
  looked = looked;
}
