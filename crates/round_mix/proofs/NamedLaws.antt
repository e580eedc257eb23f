-- Rules that were sure, marked by one change after the other.
use Rattle.std.proofs.Common.{◌≡◌, ℕ, zero, suc, ◌<◌, true, false, cond, List, [], ◌∷◌, ◌++◌, map, length, get_or, refl, sym, ◌∙◌, subst, ap, inl, inr, arith}
use Rattle.std.specs.Prelude.{slice_get, slice_set, Option, Some, None}
use Rattle.std.specs.Option.{option_map_or}
use Rattle.std.specs.List.{AllByRecursion}
use Rattle.std.proofs.lemmas.Bool.{cond-true, cond-false, and_parts}
use Rattle.net_base.specs.Members.{IsIn, IsDistinct}
use Rattle.net_base.proofs.MemberLaws.{in_map, in_from_map, each_append, map-push}
use Rattle.net_base.proofs.ItemLaws.{in_from_get, distinct_push}
use Rattle.flow_rules.specs.Patterns.{key_eq}
use Rattle.flow_rules.specs.Same.{action_eq}
use Rattle.flow_rules.specs.Tables.{keys_of}
use Rattle.flow_rules.proofs.KeyLaws.{key_eq-true, key_eq-refl, key_ne}
use Rattle.flow_rules.specs.declared.rules.Rule.{Rule}
use Rattle.update_model.specs.declared.Change.{Change}
use Rattle.update_model.specs.declared.Change.TheVariants.{Insert, Delete, Replace}
use Rattle.update_model.proofs.ChangeLaws.{key_named}
use Rattle.round_mix.specs.Marks.{mark_by, change_of, marked_rule, rules_of}
use Rattle.round_mix.specs.Named.{names, IsNamed, with_mark, IsMarkedBy, AreMarked}
use Rattle.round_mix.specs.declared.Mark.{Mark}
use Rattle.round_mix.specs.declared.Mark.TheVariants.{Sure, Possible, Replaced}
use Rattle.round_mix.specs.declared.MarkedRule.{MarkedRule}

-- a change behind others is found where none of those names the key
pub found_last : (before : List Change) (c : Change) (r : Rule) → change_of before r ≡ None → key_eq (key_named c) r.key ≡ true → change_of (before ++ c ∷ []) r ≡ Some c
found_last [] c r none named = cond-true (key_eq (key_named c) r.key) (Some c) None named
found_last (d ∷ ds) c r none named =
    elim (key_eq (key_named d) r.key) as (λ b. cond b (Some d) (change_of ds r) ≡ None → cond b (Some d) (change_of (ds ++ c ∷ []) r) ≡ Some c) [
      | true ↦ λ e. absurd (let f : Some d ≡ None = e in cc)
      | false ↦ λ e. found_last ds c r e named
    ] none

-- for a rule that it doesn't name nothing changes
pub found_before : (before : List Change) (c : Change) (r : Rule) → key_eq (key_named c) r.key ≡ false → change_of (before ++ c ∷ []) r ≡ change_of before r
found_before [] c r other = cond-false (key_eq (key_named c) r.key) (Some c) None other
found_before (d ∷ ds) c r other = ap (λ (o : Option Change). cond (key_eq (key_named d) r.key) (Some d) o) (found_before ds c r other)

-- where no change is found none names the key
none_named : (cs : List Change) (r : Rule) → change_of cs r ≡ None → IsIn r.key (map key_named cs) → ⊥
none_named [] r none i = i
none_named (d ∷ ds) r none (inl e) =
    let named : key_eq (key_named d) r.key ≡ true = subst (λ k. key_eq k r.key ≡ true) e (key_eq-refl r.key) in
    let f : Some d ≡ None = sym (cond-true (key_eq (key_named d) r.key) (Some d) (change_of ds r) named) ∙ none in
    cc
none_named (d ∷ ds) r none (inr i) =
    elim (key_eq (key_named d) r.key) as (λ b. cond b (Some d) (change_of ds r) ≡ None → ⊥) [
      | true ↦ λ e. (let f : Some d ≡ None = e in cc)
      | false ↦ λ e. none_named ds r e i
    ] none

-- a sure rule is one that no change names
unmarked : (o : Option Change) → option_map_or mark_by o Sure ≡ Sure → o ≡ None
unmarked None e = refl
unmarked (Some (Insert s r)) e = absurd (let f : Possible ≡ Sure = e in cc)
unmarked (Some (Delete s r)) e = absurd (let f : Possible ≡ Sure = e in cc)
unmarked (Some (Replace s r)) e = absurd (let f : Replaced r.action ≡ Sure = e in cc)

pub names_key : (c : Change) (r : Rule) → names c r ≡ true → key_named c ≡ r.key
names_key (Insert s q) r e = key_eq-true q.key r.key e
names_key (Delete s q) r e = key_eq-true q.key r.key (and_parts (key_eq q.key r.key) (action_eq q.action r.action) e).0
names_key (Replace s q) r e = key_eq-true q.key r.key e

unchanged : (before : List Change) (c : Change) (r : Rule) → ¬ (key_named c ≡ r.key) → marked_rule before r ≡ marked_rule (before ++ c ∷ []) r
unchanged before c r other = ap (λ (o : Option Change). with_mark r (option_map_or mark_by o Sure)) (sym (found_before before c r (key_ne (key_named c) r.key other)))

pub all_unchanged : (before : List Change) (c : Change) (rs : List Rule) → ¬ IsIn (key_named c) (keys_of rs) → map (marked_rule before) rs ≡ map (marked_rule (before ++ c ∷ [])) rs
all_unchanged before c [] other = refl
all_unchanged before c (r ∷ rs) other =
    ap (λ (m : MarkedRule). m ∷ map (marked_rule before) rs) (unchanged before c r (λ e. other (inl e)))
    ∙ ap (λ (ms : List MarkedRule). marked_rule (before ++ c ∷ []) r ∷ ms) (all_unchanged before c rs (λ i. other (inr i)))

-- where a sure rule stands among marked ones
module _ (before : List Change) (r : Rule) where
  sure_in : (rs : List Rule) (i : ℕ) → slice_get (map (marked_rule before) rs) i ≡ Some (with_mark r Sure) → IsIn r rs × (change_of before r ≡ None)
  sure_in rs i at =
      let (x, j, e) = in_from_map (marked_rule before) (with_mark r Sure) rs (in_from_get (map (marked_rule before) rs) i (with_mark r Sure) at) in
      let same : r ≡ x = ap (λ (m : MarkedRule). m.rule) e in (
        subst (λ y. IsIn y rs) (sym same) j,
        subst (λ y. change_of before y ≡ None) (sym same) (unmarked (change_of before x) (sym (ap (λ (m : MarkedRule). m.mark) e))),
      )

  -- where no key stands twice, the mark of the named rule is all that changes
  mark_put : (c : Change) (rs : List Rule) (i : ℕ) → IsDistinct (keys_of rs) → key_named c ≡ r.key
      → slice_get (map (marked_rule before) rs) i ≡ Some (with_mark r Sure)
      → slice_set (map (marked_rule before) rs) i (with_mark r (mark_by c)) ≡ map (marked_rule (before ++ c ∷ [])) rs
  mark_put c [] i distinct named at = absurd (let f : None ≡ Some (with_mark r Sure) = at in cc)
  mark_put c (q ∷ rs) zero distinct named at =
      let e : marked_rule before q ≡ with_mark r Sure = cc in
      let same : q ≡ r = ap (λ (m : MarkedRule). m.rule) e in
      let off : change_of before q ≡ None = unmarked (change_of before q) (ap (λ (m : MarkedRule). m.mark) e) in
      let key : key_named c ≡ q.key = named ∙ ap (λ (x : Rule). x.key) (sym same) in
      let here : key_eq (key_named c) q.key ≡ true = subst (λ k. key_eq k q.key ≡ true) (sym key) (key_eq-refl q.key) in
      ap (λ (x : Rule). with_mark x (mark_by c) ∷ map (marked_rule before) rs) (sym same)
      ∙ ap (λ (o : Option Change). with_mark q (option_map_or mark_by o Sure) ∷ map (marked_rule before) rs) (sym (found_last before c q off here))
      ∙ ap (λ (ms : List MarkedRule). marked_rule (before ++ c ∷ []) q ∷ ms) (all_unchanged before c rs (λ k. distinct.0 (subst (λ z. IsIn z (keys_of rs)) key k)))
  mark_put c (q ∷ rs) (suc i) distinct named at =
      let (there, _) = sure_in rs i at in
      let behind : IsIn (key_named c) (keys_of rs) = subst (λ k. IsIn k (keys_of rs)) (sym named) (in_map (λ (x : Rule). x.key) r rs there) in
      ap (λ (m : MarkedRule). m ∷ slice_set (map (marked_rule before) rs) i (with_mark r (mark_by c)))
      (unchanged before c q (λ e. distinct.0 (subst (λ k. IsIn k (keys_of rs)) e behind)))
      ∙ ap (λ (ms : List MarkedRule). marked_rule (before ++ c ∷ []) q ∷ ms) (mark_put c rs i distinct.1 named at)

-- a member by its position
pub mark_at : (ms : List MarkedRule) (i : ℕ) (m : MarkedRule) → i < length ms → m ≡ get_or ms i m → slice_get ms i ≡ Some m
mark_at [] i m within is = absurd (omega arith)
mark_at (n ∷ ms) zero m within is = ap Some (sym is)
mark_at (n ∷ ms) (suc i) m within is = mark_at ms i m (omega arith) is

-- sure rules are marked by no changes
pub none_marked : (ms : List MarkedRule) → AllByRecursion (λ m. m.mark ≡ Sure) ms → AreMarked (rules_of ms) [] ms
none_marked ms sure = record { marks_are = same ms sure; distinct = tt; named = tt }
  where
    same : (ms : List MarkedRule) → AllByRecursion (λ m. m.mark ≡ Sure) ms → ms ≡ map (marked_rule []) (rules_of ms)
    same [] sure = refl
    same (m ∷ ms) sure = ap (λ (a : Mark). with_mark m.rule a ∷ ms) sure.0 ∙ ap (λ (ns : List MarkedRule). with_mark m.rule Sure ∷ ns) (same ms sure.1)

-- one change more marks its rule
pub marked_push : (rs : List Rule) (before : List Change) (c : Change) (old new : List MarkedRule) → IsDistinct (keys_of rs)
    → AreMarked rs before old → IsMarkedBy c old new → AreMarked rs (before ++ c ∷ []) new
marked_push rs before c old new distinct state by =
    let at : slice_get (map (marked_rule before) rs) by.place ≡ Some (with_mark by.rule Sure) =
    subst (λ (ms : List MarkedRule). slice_get ms by.place ≡ Some (with_mark by.rule Sure)) state.marks_are by.at in
    let key = names_key c by.rule by.named in
    let (there, off) = sure_in before by.rule rs by.place at in
    record {
      marks_are = by.is ∙ ap (λ (ms : List MarkedRule). slice_set ms by.place (with_mark by.rule (mark_by c))) state.marks_are
          ∙ mark_put before by.rule c rs by.place distinct key at;
      distinct = subst IsDistinct (sym (map-push key_named before c))
          (distinct_push (map key_named before) (key_named c) state.distinct (λ i. none_named before by.rule off (subst (λ k. IsIn k (map key_named before)) key i)));
      named = each_append (IsNamed rs) before (c ∷ []) state.named ((by.rule, there, by.named), tt);
    }
