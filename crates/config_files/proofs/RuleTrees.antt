-- The objects of the rules, switch by switch.
use Rattle.std.proofs.Common.{◌≡◌, ℕ, zero, suc, ◌+◌, ◌<◌, ◌≤◌, List, [], ◌∷◌, ◌++◌, length, map, take, get_or, refl, sym, ap, ◌∙◌, append_assoc, append-nil, add-one, add-zero, arith}
use Rattle.std.specs.Prelude.{Some, slice_get}
use Rattle.std.proofs.lemmas.List.{take_all, length-map}
use Rattle.serde_json.specs.Data.{Data}
use Rattle.serde_json.specs.View.{view}
use Rattle.serde_json.specs.declared.value.Value.{Value}
use Rattle.topology.specs.Networks.{Network}
use Rattle.flow_rules.specs.Tables.{TableState, rules_of_all}
use Rattle.flow_rules.specs.declared.rules.Rule.{Rule}
use Rattle.config_files.specs.ConfigText.{rule_tree, rule_trees}
use Rattle.flow_rules.proofs.TableLaws.{rules_get}

-- the rules of one switch more
trees_more : (net : Network) (k s : ℕ) (tables : List (List Rule)) → s < length tables
    → rule_trees net k (take (suc s) tables) ≡ rule_trees net k (take s tables) ++ map (rule_tree net (record { 0 = k + s })) (get_or tables s [])
trees_more net k s [] lt = absurd (omega arith)
trees_more net k zero (t ∷ ts) lt = rw add-zero (append-nil (map (rule_tree net (record { 0 = k })) t))
trees_more net k (suc s) (t ∷ ts) lt =
    let place : suc k + s ≡ k + suc s = omega arith in
    ap (λ (ds : List Data). map (rule_tree net (record { 0 = k })) t ++ ds) (trees_more net (suc k) s ts (omega arith))
    ∙ ap (λ (n : ℕ). map (rule_tree net (record { 0 = k })) t ++ (rule_trees net (suc k) (take s ts) ++ map (rule_tree net (record { 0 = n })) (get_or ts s []))) place
    ∙ sym (append_assoc (map (rule_tree net (record { 0 = k })) t) (rule_trees net (suc k) (take s ts)) (map (rule_tree net (record { 0 = k + suc s })) (get_or ts s [])))

pub trees_added : (net : Network) (s : ℕ) (tables : List TableState) (t : TableState) (rules : List Rule) (old new : List Value) → slice_get tables s ≡ Some t → rules ≡ t.rules → s < length tables
    → map view new ≡ map view old ++ map (rule_tree net (record { 0 = s })) rules → map view old ≡ rule_trees net 0 (take s (rules_of_all tables)) → map view new ≡ rule_trees net 0 (take (s + 1) (rules_of_all tables))
trees_added net s tables t rules old new at is lt added so_far =
    let within : s < length (rules_of_all tables) = let h = length-map tables (λ (x : TableState). x.rules) in omega (arith, h) in
    let place : 0 + s ≡ s = omega arith in
    let table : get_or (rules_of_all tables) s [] ≡ rules = rules_get tables s t at ∙ sym is in
    added ∙ ap (λ (ds : List Data). ds ++ map (rule_tree net (record { 0 = s })) rules) so_far
    ∙ ap (λ (rs : List Rule). rule_trees net 0 (take s (rules_of_all tables)) ++ map (rule_tree net (record { 0 = s })) rs) (sym table)
    ∙ ap (λ (n : ℕ). rule_trees net 0 (take s (rules_of_all tables)) ++ map (rule_tree net (record { 0 = n })) (get_or (rules_of_all tables) s [])) (sym place)
    ∙ sym (trees_more net 0 s (rules_of_all tables) within) ∙ rw add-one refl

pub all_trees : (net : Network) (s : ℕ) (tables : List TableState) → length tables ≤ s → rule_trees net 0 (take s (rules_of_all tables)) ≡ rule_trees net 0 (rules_of_all tables)
all_trees net s tables past =
    let within : length (rules_of_all tables) ≤ s = let h = length-map tables (λ (x : TableState). x.rules) in omega (arith, h) in
    ap (rule_trees net 0) (take_all s (rules_of_all tables) within)
