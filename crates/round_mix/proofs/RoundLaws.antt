-- Rounds that are good switch by switch.
use Rattle.std.proofs.Common.{Bool, true, false, cond, List, [], ◌∷◌, length, map, refl, sym, subst, ap}
use Rattle.std.specs.Prelude.{◌==◌}
use Rattle.std.specs.List.{AllByRecursion}
use Rattle.std.proofs.lemmas.Bool.{eq-eqb, cond-true}
use Rattle.net_base.specs.Members.{IsIn}
use Rattle.net_base.proofs.MemberLaws.{in_map, in_from_map, in_filter}
use Rattle.net_base.specs.declared.ids.SwitchId.{SwitchId}
use Rattle.flow_rules.specs.Tables.{rules_at}
use Rattle.flow_rules.specs.declared.rules.Rule.{Rule}
use Rattle.update_model.specs.Changes.{switch_of, EntryName, entry_named, changes_at, Applies, IsGoodRound}
use Rattle.update_model.specs.declared.Change.{Change}
use Rattle.update_model.proofs.ChangeLaws.{IsWithin, key_named}
use Rattle.update_model.proofs.MadeLaws.{apply_there, keys_distinct}
use Rattle.round_mix.specs.Prepared.{AreGood}

-- the changes at a switch without those of the first change
good_tail : (rules : List Rule) (b : Bool) (c : Change) (cs : List Change) → AreGood rules (cond b (c ∷ cs) cs) → AreGood rules cs
good_tail rules true c cs good = record { applies = good.applies.1; distinct = good.distinct.1 }
good_tail rules false c cs good = good

-- changes that are good at each switch are a good round
pub good_round : (tables : List (List Rule)) (round : List Change) → AllByRecursion (IsWithin (length tables)) round → ((s : SwitchId) → AreGood (rules_at tables s) (changes_at s round))
    → IsGoodRound tables round
good_round tables [] within good = record { applies = tt; distinct = tt }
good_round tables (c ∷ cs) within good =
    let s = switch_of c in
    let rest = good_round tables cs within.1 (λ o. good_tail (rules_at tables o) ((switch_of c).0 == o.0) c (changes_at o cs) (good o)) in
    let here : AreGood (rules_at tables s) (c ∷ changes_at s cs) =
    subst (AreGood (rules_at tables s)) (cond-true ((switch_of c).0 == s.0) (c ∷ changes_at s cs) (changes_at s cs) (eq-eqb s.0 s.0 refl)) (good s) in
    record {
      applies = ((within.0, here.applies.0), rest.applies);
      distinct = (
        λ i.
            let (d, j, e) = in_from_map entry_named (entry_named c) cs i in
            let there : IsIn d (changes_at s cs) = in_filter (λ x. (switch_of x).0 == s.0) d cs j (eq-eqb _ _ (sym (ap (λ (n : EntryName). n.switch.0) e))) in
            here.distinct.0 (subst (λ k. IsIn k (map key_named (changes_at s cs))) (sym (ap (λ (n : EntryName). n.key) e)) (in_map key_named d (changes_at s cs) there)),
        rest.distinct,
      );
    }

-- each change of a good round is at a switch of the tables
pub within_good : (tables : List (List Rule)) (round : List Change) → AllByRecursion (Applies tables) round → AllByRecursion (IsWithin (length tables)) round
within_good tables [] applies = tt
within_good tables (c ∷ round) applies = (applies.0.0, within_good tables round applies.1)

-- the changes of a good round at a switch are good
pub good_there : (tables : List (List Rule)) (round : List Change) (s : SwitchId) → IsGoodRound tables round → AreGood (rules_at tables s) (changes_at s round)
good_there tables round s good = record { applies = apply_there tables s round good.applies; distinct = keys_distinct s round good.distinct }
