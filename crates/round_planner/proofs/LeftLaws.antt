-- The changes that remain, each with why it failed.
use Rattle.std.proofs.Common.{◌≡◌, ℕ, zero, suc, ◌+◌, ◌<◌, true, List, [], ◌∷◌, ◌++◌, length, map, take, drop, set, get_or, refl, sym, ◌∙◌, subst, ap, inl, arith, length-set, get_or-set_same, length-take-le}
use Rattle.std.proofs.lemmas.List.{map-append}
use Rattle.std.specs.Prelude.{Some, None, IfSome, IsSomeAnd, is_some}
use Rattle.std.proofs.lemmas.Bool.{false≢true}
use Rattle.std.specs.List.{AllByRecursion}
use Rattle.net_base.specs.Members.{IsIn}
use Rattle.net_base.proofs.MemberLaws.{each_weaker, each_append, each_map, each_from_map, each_from_in, in_append_right}
use Rattle.flow_rules.specs.declared.rules.Rule.{Rule}
use Rattle.path_walk.specs.UserConfigs.{IsUserConfig}
use Rattle.update_model.specs.Changes.{switch_of, rule_of, tables_after, tables_after_change}
use Rattle.update_model.specs.Remaining.{remaining_changes}
use Rattle.update_model.specs.declared.Change.{Change}
use Rattle.certificates.specs.Certified.{KeepsVlan}
use Rattle.certificates.proofs.TreeTables.{unique_in_table}
use Rattle.mixed_walks.specs.Walks.{TablesKeepVlans}
use Rattle.mixed_walks.proofs.PlaceLaws.{tables_keep}
use Rattle.table_difference.proofs.WithoutLaws.{remaining_without}
use Rattle.round_planner.specs.declared.left.RemainingChange.{RemainingChange}
use Rattle.table_difference.specs.Targets.{Target}
use Rattle.round_planner.specs.Search.{Qualifies}
use Rattle.round_planner.specs.Failures.{IsFailure, IsTouched, HasStanding, IsOfUsers, AreOfUsers, AreLeft}
use Rattle.round_planner.specs.Searching.{SearchState, IsAt, IsLeftTried, IsMadeAt, NoneQualifies, IsPlaced, IsMoved}
use Rattle.update_model.proofs.HeldLaws.{each_tables_after}
use Rattle.round_planner.proofs.FailureLaws.{failure_stands, fails_then}
use Rattle.round_planner.proofs.SearchingLaws.{split_there, take_more, tables_more}
use Rattle.round_planner.proofs.UserTables.{AreUserTables, IsUserChange, keeps_user, user_start, user_along, changes_along, remaining_user}

abbrev pub change_of : RemainingChange → Change
change_of l = l.change

-- ---- lists with one member set

module _ {A : Type 0} where
  pub take_set : (xs : List A) (i : ℕ) (y : A) → take i (set xs i y) ≡ take i xs
  take_set [] zero y = refl
  take_set [] (suc i) y = refl
  take_set (x ∷ xs) zero y = refl
  take_set (x ∷ xs) (suc i) y = ap (λ zs. x ∷ zs) (take_set xs i y)

  pub map_set : {B : Type 0} (f : A → B) (xs : List A) (i : ℕ) (x y : A) → i < length xs → x ≡ get_or xs i x → f y ≡ f x → map f (set xs i y) ≡ map f xs
  map_set f [] i x y less is same = absurd (let e : i < 0 = less in omega arith)
  map_set f (z ∷ xs) zero x y less is same = ap (λ v. v ∷ map f xs) (same ∙ ap f is)
  map_set f (z ∷ xs) (suc i) x y less is same = ap (λ vs. f z ∷ vs) (map_set f xs i x y (omega arith) is same)

  pub drop_set : (xs : List A) (i : ℕ) (y : A) → drop (suc i) (set xs i y) ≡ drop (suc i) xs
  drop_set [] zero y = refl
  drop_set [] (suc i) y = refl
  drop_set (x ∷ xs) zero y = refl
  drop_set (x ∷ xs) (suc i) y = drop_set xs i y

  pub drop_next : (xs ys : List A) (i : ℕ) → drop i xs ≡ drop i ys → drop (suc i) xs ≡ drop (suc i) ys
  drop_next xs ys i same = sym (drop_one xs i) ∙ ap (drop 1) same ∙ drop_one ys i
    where
      drop_one : (zs : List A) (j : ℕ) → drop 1 (drop j zs) ≡ drop (suc j) zs
      drop_one [] zero = refl
      drop_one [] (suc j) = refl
      drop_one (z ∷ zs) zero = refl
      drop_one (z ∷ zs) (suc j) = drop_one zs j

  pub each_take : (P : A → Type 0) (xs : List A) (i : ℕ) → AllByRecursion P xs → AllByRecursion P (take i xs)
  each_take P [] zero all = tt
  each_take P [] (suc i) all = tt
  each_take P (x ∷ xs) zero all = tt
  each_take P (x ∷ xs) (suc i) all = (all.0, each_take P xs i all.1)

  pub each_drop : (P : A → Type 0) (xs : List A) (i : ℕ) → AllByRecursion P xs → AllByRecursion P (drop i xs)
  each_drop P [] zero all = tt
  each_drop P [] (suc i) all = tt
  each_drop P (x ∷ xs) zero all = all
  each_drop P (x ∷ xs) (suc i) all = each_drop P xs i all.1

  -- what holds of each member holds of each of those that are left
  pub each_remove : (P : A → Type 0) (xs : List A) (i : ℕ) → AllByRecursion P xs → AllByRecursion P (take i xs ++ drop (suc i) xs)
  each_remove P xs i all = each_append P (take i xs) (drop (suc i) xs) (each_take P xs i all) (each_drop P xs (suc i) all)

  -- the first of the members from a place on, where another list has the same from there on
  pub each_there : (P : A → Type 0) (xs ys : List A) (i : ℕ) (x : A) → i < length xs → x ≡ get_or xs i x → drop i xs ≡ drop i ys → AllByRecursion P ys → P x
  each_there P xs ys i x less is same all =
      (subst (AllByRecursion P) (sym same ∙ drop_there xs i x less is) (each_drop P ys i all)).0
    where
      drop_there : (zs : List A) (j : ℕ) (z : A) → j < length zs → z ≡ get_or zs j z → drop j zs ≡ z ∷ drop (suc j) zs
      drop_there [] j z less is = absurd (let e : j < 0 = less in omega arith)
      drop_there (y ∷ zs) zero z less is = ap (λ v. v ∷ zs) (sym is)
      drop_there (y ∷ zs) (suc j) z less is = drop_there zs j z (omega arith) is

-- ---- what stands of the changes that remain

module _ (to : Target) (tables : List (List Rule)) where
  -- one that has failed doesn't qualify
  pub failed_some : (one : RemainingChange) → is_some one.failure ≡ true → HasStanding to tables one → ¬ Qualifies to tables one.change
  failed_some one some stands =
      elim one.failure as (λ o. is_some o ≡ true → IfSome o (λ g. IsFailure to tables one.change g) → ¬ Qualifies to tables one.change) [
        | None ↦ λ e _. absurd (false≢true e)
        | Some f ↦ λ _ fails. fails_then to tables one.change f fails
      ] some stands

  -- a failure that a change doesn't touch stands after it
  pub stands_on : (one : RemainingChange) (d : Change) → IsOfUsers tables one → (switch_of d).0 < length tables → ¬ IsSomeAnd one.failure (λ f. IsTouched (switch_of one.change) d f)
      → HasStanding to tables one → HasStanding to (tables_after_change d tables) one
  stands_on one d users within untouched stands =
      elim one.failure as (λ o. ¬ IsSomeAnd o (λ f. IsTouched (switch_of one.change) d f) → IfSome o (λ f. IsFailure to tables one.change f)
      → IfSome o (λ f. IsFailure to (tables_after_change d tables) one.change f)) [
        | None ↦ λ _ _. tt
        | Some f ↦ λ off fails. failure_stands to tables one.change users.rules users.change d within f off fails
      ] untouched stands

-- ---- a change that is tried among those that remain

module _ (to : Target) (old : List (List Rule)) (changes : List Change) where
  abbrev tables : List (List Rule)
  tables = tables_after changes old

  abbrev Unfit : RemainingChange → Type 0
  Unfit one = ¬ Qualifies to tables one.change

  -- one of them remains
  pub left_in : (left : List RemainingChange) (i : ℕ) (x : RemainingChange) → AreLeft to tables left → i < length left → x ≡ get_or left i x → IsIn x.change (remaining_changes tables to.new)
  left_in left i x are less is =
      let parts = ap (map change_of) (split_there left i x less is) ∙ map-append change_of (take i left) (x ∷ drop (suc i) left) in
      subst (IsIn x.change) (sym parts ∙ are.changes) (in_append_right x.change (map change_of (take i left)) (x.change ∷ map change_of (drop (suc i) left)) (inl refl))

  module _ (left : List RemainingChange) (i : ℕ) (x y : RemainingChange) (less : i < length left) (is : x ≡ get_or left i x) (same : y.change ≡ x.change) where
    abbrev set_left : List RemainingChange
    set_left = set left i y

    within : i < length set_left
    within = let count = length-set left i y in omega arith

    there : y ≡ get_or set_left i y
    there = sym (get_or-set_same left i y y less)

    -- those before it don't qualify, and it does
    pub placed : AreLeft to tables left → AllByRecursion Unfit (take i left) → (s : SearchState) → IsLeftTried to old changes x s true → IsPlaced to old changes s set_left (Some i)
    placed are none s (q, go) = record {
      front = take i set_left;
      one = y;
      back = drop (suc i) set_left;
      are = split_there set_left i y within there;
      at_place = length-take-le i set_left (omega (arith, within));
      at = subst (λ (c : Change). IsAt to old (changes ++ c ∷ []) s) (sym same) (go (record {
        earlier = map change_of (take i left);
        later = map change_of (drop (suc i) left);
        are = sym are.changes ∙ ap (map change_of) (split_there left i x less is) ∙ map-append change_of (take i left) (x ∷ drop (suc i) left);
        none_earlier = each_map change_of (λ d. ¬ Qualifies to tables d) (take i left) none;
        qualifies = q;
      }));
    }

    -- nor does it
    pub unfit_more : AllByRecursion Unfit (take i left) → Unfit x → AllByRecursion Unfit (take (i + 1) set_left)
    unfit_more none fails =
        subst (AllByRecursion Unfit) (sym (take_more set_left i y within there))
        (each_append Unfit (take i set_left) (y ∷ []) (subst (AllByRecursion Unfit) (sym (take_set left i y)) none) (subst (λ (c : Change). ¬ Qualifies to tables c) (sym same) fails, tt))

  -- none of those that remain qualifies
  pub unfit_all : (left : List RemainingChange) → map change_of left ≡ remaining_changes tables to.new → AllByRecursion Unfit left → NoneQualifies to tables
  unfit_all left are none = subst (AllByRecursion (λ d. ¬ Qualifies to tables d)) are (each_map change_of (λ d. ¬ Qualifies to tables d) left none)

-- ---- after a change of the search

module _ (to : Target) (old : List (List Rule)) (old_user : IsUserConfig to.net old) (new_user : IsUserConfig to.net to.new) (changes : List Change) (s : SearchState) (at : IsAt to old changes s)
    (left : List RemainingChange) (are : AreLeft to (tables_after changes old) left) where
  user : AreUserTables to old (tables_after changes old)
  user = user_along to old new_user old (user_start to old new_user old_user) changes at.stands.found

  rules_keep : TablesKeepVlans (tables_after changes old)
  rules_keep = each_tables_after (λ r. KeepsVlan r.action) changes old (tables_keep to.net old old_user)
      (each_weaker (IsUserChange to old) (λ d. KeepsVlan (rule_of d).action) (λ d is. keeps_user to.net (switch_of d) (rule_of d).action is.rule.action) changes
      (changes_along to old new_user old (user_start to old new_user old_user) changes at.stands.found))

  each_left : AllByRecursion (λ (l : RemainingChange). IsUserChange to old l.change) left
  each_left = each_from_map change_of (IsUserChange to old) left
      (subst (AllByRecursion (IsUserChange to old)) (sym are.changes)
      (each_from_in (IsUserChange to old) (remaining_changes (tables_after changes old) to.new) (remaining_user to old new_user (tables_after changes old) user)))

  -- neither the tables nor the changes set or strip
  pub of_users : AreOfUsers (tables_after changes old) left
  of_users = each_weaker (λ (l : RemainingChange). IsUserChange to old l.change) (IsOfUsers (tables_after changes old))
      (λ l is. record {
        rules = rules_keep;
        change = keeps_user to.net (switch_of l.change) (rule_of l.change).action is.rule.action;
        within = subst (λ n. (switch_of l.change).0 < n) (sym user.count) is.within;
      }) left each_left

  -- after one of them the others remain
  pub moved_on : (new : List RemainingChange) (t : SearchState) (place : ℕ) (made : IsMadeAt to old changes t left place)
      → map change_of new ≡ map change_of (made.front ++ made.back) → AllByRecursion (HasStanding to (tables_after_change made.one.change (tables_after changes old))) new → IsMoved to old changes t new true
  moved_on new t place made others standing =
      let c = made.one.change in
      let tables = tables_after changes old in
      let all : remaining_changes tables to.new ≡ map change_of made.front ++ c ∷ map change_of made.back =
      sym are.changes ∙ ap (map change_of) made.are ∙ map-append change_of made.front (made.one ∷ made.back) in
      let after : remaining_changes (tables_after_change c tables) to.new ≡ map change_of made.front ++ map change_of made.back =
      remaining_without tables to.new user.unique (λ x. unique_in_table _ (new_user.distinct x)) (map change_of made.front) (map change_of made.back) c all in (
        c,
        made.at,
        subst (λ (ts : List (List Rule)). AreLeft to ts new) (sym (tables_more changes c old)) (record {
          changes = others ∙ map-append change_of made.front made.back ∙ sym after;
          standing = standing;
        }),
      )
