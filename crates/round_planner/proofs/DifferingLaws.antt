-- Between tables with the same keys the changes that remain are the replaces of rules that differ.
use Rattle.std.proofs.Common.{◌≡◌, ◌≢◌, true, false, cond, List, ◌++◌, refl, sym, ◌∙◌, subst, ap}
use Rattle.std.specs.Prelude.{Option, Some, None}
use Rattle.std.proofs.lemmas.Bool.{both_ways, cond-false, false_from_ne_true}
use Rattle.net_base.specs.Members.{IsIn}
use Rattle.net_base.proofs.MemberLaws.{in_map, in_append_right}
use Rattle.net_base.specs.declared.ids.SwitchId.{SwitchId}
use Rattle.flow_rules.specs.Tables.{keys_of}
use Rattle.flow_rules.specs.declared.rules.Key.{Key}
use Rattle.flow_rules.specs.declared.rules.Rule.{Rule}
use Rattle.update_model.specs.Remaining.{rule_with, difference, changes_between, keys_in_order}
use Rattle.flow_rules.specs.Same.{action_eq}
use Rattle.update_model.specs.declared.Change.{Change}
use Rattle.update_model.specs.declared.Change.TheVariants.{Replace}
use Rattle.update_model.proofs.KeyOrderLaws.{in_order}
use Rattle.net_base.proofs.ListLaws.{in_filter_map, in_from_filter_map}
use Rattle.flow_rules.proofs.TableLaws.{action_eq-true, action_eq-refl}
use Rattle.update_model.proofs.RemainingLaws.{rule_is, rule_told, rule_there}
use Rattle.certificates.proofs.TreeTables.{Fits}

module _ (s : SwitchId) (now new : List Rule) (fits : Fits new now) (new_fits : Fits new new) where
  -- a rule and the new one that differs from it
  pub record Differing (d : Change) : Type 0 where
    pub rule : Rule
    pub next : Rule
    pub stands : IsIn rule now
    pub wanted : IsIn next new
    pub same_key : rule.key ≡ next.key
    pub differs : rule.action ≢ next.action
    pub is : d ≡ Replace s next

  pub differing : (d : Change) → IsIn d (changes_between s now new) → Differing d
  differing d i =
      let (k, j, e) = in_from_filter_map (λ x. difference s (rule_with x now) (rule_with x new)) d (keys_in_order (keys_of now ++ keys_of new)) i in
      by_rules k (rule_with k now) (rule_with k new) refl refl e
    where
      by_rules : (k : Key) (o p : Option Rule) → rule_with k now ≡ o → rule_with k new ≡ p → difference s o p ≡ Some d → Differing d
      by_rules k None None a b e = absurd (let f : None ≡ Some d = e in cc)
      by_rules k (Some r) None a b e =
          let (i, same) = rule_told now k r a in
          absurd (rule_there new k ((fits.keys k).0 (subst (λ x. IsIn x (keys_of now)) same (in_map (λ x. x.key) r now i))) b)
      by_rules k None (Some q) a b e =
          let (i, same) = rule_told new k q b in
          absurd (rule_there now k ((fits.keys k).1 (subst (λ x. IsIn x (keys_of new)) same (in_map (λ x. x.key) q new i))) a)
      by_rules k (Some r) (Some q) a b e =
          let (i, f) = rule_told now k r a in
          let (j, g) = rule_told new k q b in
          elim (action_eq r.action q.action) as (λ t. action_eq r.action q.action ≡ t → cond t None (Some (Replace s q)) ≡ Some d → Differing d) [
            | true ↦ λ _ h. absurd (let x : None ≡ Some d = h in cc)
            | false ↦ λ t h. (
                let x : Some (Replace s q) ≡ Some d = h in
                let y : Replace s q ≡ d = cc in
                record {
                  rule = r;
                  next = q;
                  stands = i;
                  wanted = j;
                  same_key = f ∙ sym g;
                  differs = λ same. both_ways (action_eq r.action q.action) t (subst (λ z. action_eq r.action z ≡ true) same (action_eq-refl r.action));
                  is = sym y;
                })
          ] refl e

  module _ (rule next : Rule) (stands : IsIn rule now) (wanted : IsIn next new) (same_key : rule.key ≡ next.key) (differs : rule.action ≢ next.action) where
    in_keys : IsIn next.key (keys_in_order (keys_of now ++ keys_of new))
    in_keys = in_order next.key (keys_of now ++ keys_of new) (in_append_right next.key (keys_of now) (keys_of new) (in_map (λ x. x.key) next new wanted))

    gives : difference s (rule_with next.key now) (rule_with next.key new) ≡ Some (Replace s next)
    gives =
        ap (λ o. difference s o (rule_with next.key new)) (rule_is now fits.unique next.key rule stands same_key)
        ∙ ap (difference s (Some rule)) (rule_is new new_fits.unique next.key next wanted refl)
        ∙ cond-false (action_eq rule.action next.action) None (Some (Replace s next)) (false_from_ne_true (action_eq rule.action next.action) (λ t. differs (action_eq-true rule.action next.action t)))

    pub differing_in : IsIn (Replace s next) (changes_between s now new)
    differing_in = in_filter_map (λ x. difference s (rule_with x now) (rule_with x new)) next.key (Replace s next) (keys_in_order (keys_of now ++ keys_of new)) in_keys gives
