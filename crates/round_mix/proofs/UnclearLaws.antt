-- Marked rules of which two clash, and what of the mixtures then.
use Rattle.std.proofs.Common.{◌≡◌, ℕ, ◌<◌, Bool, true, false, List, map, refl, sym, ◌∙◌, ap, subst}
use Rattle.std.specs.Prelude.{not, IsPermutation, IsTrue, MatchOption, Option, None, Some}
use Rattle.std.specs.Option.{is_some}
use Rattle.std.proofs.lemmas.Bool.{false≢true}
use Rattle.net_base.specs.Members.{IsIn, IsDistinct}
use Rattle.net_base.proofs.ItemLaws.{in_from_get}
use Rattle.net_base.proofs.MemberLaws.{in_from_map}
use Rattle.flow_rules.specs.Frees.{IsFree}
use Rattle.flow_rules.specs.Overlaps.{IsClash, IsClashAt, IsLeastClash}
use Rattle.flow_rules.specs.Tables.{IsTable, keys_of}
use Rattle.flow_rules.specs.declared.rules.Rule.{Rule}
use Rattle.update_model.specs.declared.Change.{Change}
use Rattle.round_mix.specs.Apart.{AreApart}
use Rattle.round_mix.specs.Faults.{AreUnclear}
use Rattle.round_mix.specs.Marks.{all_rules, marked_rule, rules_of}
use Rattle.round_mix.specs.Prepared.{AreGood, AreClear}
use Rattle.round_mix.specs.declared.MarkedRule.{MarkedRule}
use Rattle.round_mix.proofs.ApartLaws.{apart_from_free, apart_moved}
use Rattle.round_mix.proofs.ClearLaws.{one_place, rules_of-marked, keys_apart, clear_from_free, members_from_free}
use Rattle.round_mix.proofs.MarkLaws.{all_mixed}

-- rules that clash at two positions aren't apart
pub not_apart : (ms : List MarkedRule) (i j : ℕ) → i < j → IsClashAt (rules_of ms) i j → ¬ AreApart ms
not_apart ms i j less at = λ apart.
    let (m, in_m, is_m) = in_from_map (λ (x : MarkedRule). x.rule) at.one ms (in_from_get (rules_of ms) i at.one at.one_at) in
    let (n, in_n, is_n) = in_from_map (λ (x : MarkedRule). x.rule) at.other ms (in_from_get (rules_of ms) j at.other at.other_at) in
    let same : m ≡ n = apart.alone m n in_m in_n (subst (λ (x : Rule). IsClash x n.rule) is_m (subst (λ (x : Rule). IsClash at.one x) is_n at.clash)) in
    let one : at.other ≡ at.one = is_n ∙ ap (λ (x : MarkedRule). x.rule) (sym same) ∙ sym is_m in
    one_place (λ (r : Rule). r.key) (rules_of ms) i j at.one apart.distinct less at.one_at (at.other_at ∙ ap Some one)

-- a search among each two rules tells whether they are apart
pub apart_by_search : (ms : List MarkedRule) (found : Option (ℕ × ℕ)) (none : Bool) → MatchOption found ((i : ℕ) → IsFree (rules_of ms) i) (λ pair. IsLeastClash (rules_of ms) pair.0 pair.1)
    → is_some found ≡ not none → (IsTrue none → AreApart ms) × (AreApart ms → IsTrue none)
apart_by_search ms None true free e = (λ _. apart_from_free ms free, λ _. refl)
apart_by_search ms None false free e = absurd (false≢true e)
apart_by_search ms (Some pair) true least e = absurd (false≢true (sym e))
apart_by_search ms (Some pair) false least e = (λ h. absurd (false≢true h), λ apart. absurd (not_apart ms pair.0 pair.1 least.ordered least.clash apart))

-- the rules of a table and those that good changes insert are apart where all mixtures are clear, whatever their marks
pub apart_from_clear : (table : List Rule) (changes naming : List Change) → IsTable table → AreGood table changes → AreClear table changes
    → AreApart (map (marked_rule naming) (all_rules table changes))
apart_from_clear table changes naming is_table good clear =
    let rules = all_rules table changes in
    record {
      distinct = subst (λ (rs : List Rule). IsDistinct (keys_of rs)) (sym (rules_of-marked naming rules)) (keys_apart table changes is_table good);
      alone = λ m n in_m in_n clash.
          let (q, at_q, is_q) = in_from_map (marked_rule naming) m rules in_m in
          let (r, at_r, is_r) = in_from_map (marked_rule naming) n rules in_n in
          let one : m.rule ≡ q = ap (λ (x : MarkedRule). x.rule) is_q in
          let other : n.rule ≡ r = ap (λ (x : MarkedRule). x.rule) is_r in
          let same : m.rule ≡ n.rule = clear rules (all_mixed table changes) clash.header m.rule n.rule (subst (λ (x : Rule). IsIn x rules) (sym one) at_q)
          (subst (λ (x : Rule). IsIn x rules) (sym other) at_r) clash.first clash.second clash.priority in
          is_q ∙ ap (marked_rule naming) (sym one ∙ same ∙ other) ∙ sym is_r;
    }

-- so some mixture isn't clear where they aren't apart in some order
pub unclear_from_marks : (table : List Rule) (changes naming : List Change) (marks sorted : List MarkedRule) → IsTable table → AreGood table changes
    → marks ≡ map (marked_rule naming) (all_rules table changes) → IsPermutation marks sorted → ¬ AreApart sorted → ¬ AreClear table changes
unclear_from_marks table changes naming marks sorted is_table good same moved apart = λ clear.
    apart (apart_moved (map (marked_rule naming) (all_rules table changes)) sorted (subst (λ (ms : List MarkedRule). IsPermutation ms sorted) same moved)
    (apart_from_clear table changes naming is_table good clear))

-- where some mixture isn't clear, two positions clash
pub clash_from_unclear : (table : List Rule) (changes naming : List Change) (marks : List MarkedRule) → IsTable table → AreUnclear table changes
    → marks ≡ map (marked_rule naming) (all_rules table changes) → ((i : ℕ) → IsFree (rules_of marks) i) → ⊥
clash_from_unclear table changes naming marks is_table unclear same free =
    let rules = all_rules table changes in
    let there : rules_of marks ≡ rules_of (map (marked_rule changes) rules) = ap rules_of same ∙ rules_of-marked naming rules ∙ sym (rules_of-marked changes rules) in
    unclear.unclear (clear_from_free table changes is_table unclear.good (members_from_free (map (marked_rule changes) rules) (λ i.
    subst (λ (rs : List Rule). IsFree rs i) there (free i))))
