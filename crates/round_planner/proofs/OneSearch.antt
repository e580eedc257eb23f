-- The search of an update has one end, because the first change of a list that qualifies is the only first one.
use Rattle.std.proofs.Common.{◌≡◌, List, [], ◌∷◌, ◌++◌, refl, sym, ◌∙◌, subst, inl}
use Rattle.std.specs.List.{AllByRecursion}
use Rattle.net_base.specs.Members.{IsIn}
use Rattle.net_base.proofs.MemberLaws.{each_at, in_append_right}
use Rattle.flow_rules.specs.declared.rules.Rule.{Rule}
use Rattle.update_model.specs.Changes.{tables_after_change, tables_after}
use Rattle.update_model.specs.Remaining.{remaining_changes}
use Rattle.update_model.specs.declared.Change.{Change}
use Rattle.table_difference.specs.Targets.{Target}
use Rattle.round_planner.specs.Search.{Qualifies, IsFirstQualifying, AreFirstQualifying, EndsOrdered, EndsStuck}

module _ (to : Target) where
  -- where none of the changes before either qualifies, and both do, they are the same
  both_first : (tables : List (List Rule)) (earlier others later last : List Change) (c d : Change) → earlier ++ c ∷ later ≡ others ++ d ∷ last
      → AllByRecursion (λ x. ¬ Qualifies to tables x) earlier → AllByRecursion (λ x. ¬ Qualifies to tables x) others → Qualifies to tables c → Qualifies to tables d → c ≡ d
  both_first tables [] [] later last c d same none none_other first second = cc
  both_first tables [] (y ∷ others) later last c d same none none_other first second =
      let e : c ≡ y = cc in absurd (none_other.0 (subst (λ x. Qualifies to tables x) e first))
  both_first tables (x ∷ earlier) [] later last c d same none none_other first second =
      let e : d ≡ x = cc in absurd (none.0 (subst (λ x. Qualifies to tables x) e second))
  both_first tables (x ∷ earlier) (y ∷ others) later last c d same none none_other first second =
      let e : earlier ++ c ∷ later ≡ others ++ d ∷ last = cc in
      both_first tables earlier others later last c d e none.1 none_other.1 first second

  one_first : (tables : List (List Rule)) (changes : List Change) (c d : Change) → IsFirstQualifying to tables changes c → IsFirstQualifying to tables changes d → c ≡ d
  one_first tables changes c d first second =
      both_first tables first.earlier second.earlier first.later second.later c d (sym first.are ∙ second.are) first.none_earlier second.none_earlier first.qualifies second.qualifies

  -- no remaining change qualifies
  abbrev NoneGoesOn : List (List Rule) → Type 0
  NoneGoesOn tables = (c : Change) → ¬ IsFirstQualifying to tables (remaining_changes tables to.new) c

  one_list : (tables : List (List Rule)) (changes others : List Change) → AreFirstQualifying to tables changes → AreFirstQualifying to tables others
      → NoneGoesOn (tables_after changes tables) → NoneGoesOn (tables_after others tables) → changes ≡ others
  one_list tables [] [] found found_other ends ends_other = refl
  one_list tables [] (d ∷ others) found found_other ends ends_other = absurd (ends d found_other.0)
  one_list tables (c ∷ changes) [] found found_other ends ends_other = absurd (ends_other c found.0)
  one_list tables (c ∷ changes) (d ∷ others) found found_other ends ends_other =
      let same : d ≡ c = one_first tables (remaining_changes tables to.new) d c found_other.0 found.0 in
      let rest : changes ≡ others = one_list (tables_after_change c tables) changes others found.1
      (subst (λ x. AreFirstQualifying to (tables_after_change x tables) others) same found_other.1)
      ends (subst (λ x. NoneGoesOn (tables_after others (tables_after_change x tables))) same ends_other) in
      cc

  stands : (tables : List (List Rule)) (changes : List Change) (c : Change) → IsFirstQualifying to tables changes c → IsIn c changes
  stands tables changes c first = subst (λ cs. IsIn c cs) (sym first.are) (in_append_right c first.earlier (c ∷ first.later) (inl refl))

  ordered_ends : (old : List (List Rule)) (changes : List Change) → EndsOrdered to old changes → NoneGoesOn (tables_after changes old)
  ordered_ends old changes ends = λ c first.
      let in_none : IsIn c [] = subst (λ cs. IsIn c cs) ends.none_remains (stands (tables_after changes old) (remaining_changes (tables_after changes old) to.new) c first) in
      in_none

  stuck_ends : (old : List (List Rule)) (changes : List Change) → EndsStuck to old changes → NoneGoesOn (tables_after changes old)
  stuck_ends old changes ends = λ c first.
      each_at (λ d. ¬ Qualifies to (tables_after changes old) d) (remaining_changes (tables_after changes old) to.new) c ends.none_qualifies
      (stands (tables_after changes old) (remaining_changes (tables_after changes old) to.new) c first) first.qualifies

  pub one_ordered : (old : List (List Rule)) (changes others : List Change) → EndsOrdered to old changes → EndsOrdered to old others → changes ≡ others
  one_ordered old changes others ends other = one_list old changes others ends.found other.found (ordered_ends old changes ends) (ordered_ends old others other)

  pub one_stuck : (old : List (List Rule)) (changes others : List Change) → EndsStuck to old changes → EndsStuck to old others → changes ≡ others
  one_stuck old changes others ends other = one_list old changes others ends.found other.found (stuck_ends old changes ends) (stuck_ends old others other)

  pub apart : (old : List (List Rule)) (changes others : List Change) → EndsOrdered to old changes → ¬ EndsStuck to old others
  apart old changes others ends = λ other.
      let same : others ≡ changes = sym (one_list old changes others ends.found other.found (ordered_ends old changes ends) (stuck_ends old others other)) in
      other.some_remain (subst (λ cs. remaining_changes (tables_after cs old) to.new ≡ []) (sym same) ends.none_remains)
