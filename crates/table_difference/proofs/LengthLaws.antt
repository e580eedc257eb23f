-- No more changes remain than both configurations have rules.
use Rattle.std.proofs.Common.{◌≡◌, ℕ, suc, ◌+◌, ◌≤◌, true, false, cond, List, [], ◌∷◌, ◌++◌, length, Option, None, Some, arith, length-append}
use Rattle.std.specs.Prelude.{filter_map, sum_by}
use Rattle.std.specs.List.{cons_option}
use Rattle.std.specs.Ordering.{is_lt}
use Rattle.std.proofs.lemmas.List.{length-map}
use Rattle.std.proofs.lemmas.List.Sums.{sum_by-cons}
use Rattle.net_base.specs.declared.ids.SwitchId.{SwitchId}
use Rattle.flow_rules.specs.declared.rules.Key.{Key}
use Rattle.flow_rules.specs.declared.rules.Rule.{Rule}
use Rattle.flow_rules.specs.Order.{key_cmp}
use Rattle.flow_rules.specs.Patterns.{key_eq}
use Rattle.flow_rules.specs.Tables.{keys_of}
use Rattle.update_model.specs.Remaining.{rule_with, difference, changes_between, changes_from, with_key, keys_in_order, remaining_changes}

length_with_key : (k : Key) (ks : List Key) → length (with_key k ks) ≤ suc (length ks)
length_with_key k [] = omega arith
length_with_key k (q ∷ ks) =
    elim (is_lt (key_cmp k q)) as (λ b. length (cond b (k ∷ q ∷ ks) (cond (key_eq k q) (q ∷ ks) (q ∷ with_key k ks))) ≤ suc (suc (length ks))) [
      | true ↦ omega arith
      | false ↦ elim (key_eq k q) as (λ b. length (cond b (q ∷ ks) (q ∷ with_key k ks)) ≤ suc (suc (length ks))) [
        | true ↦ omega arith
        | false ↦ (let rest = length_with_key k ks in omega arith)
      ]
    ]

length_in_order : (ks : List Key) → length (keys_in_order ks) ≤ length ks
length_in_order [] = omega arith
length_in_order (k ∷ ks) = let first = length_with_key k (keys_in_order ks) in let rest = length_in_order ks in omega arith

length_filter_map : {A B : Type 0} (f : A → Option B) (xs : List A) → length (filter_map f xs) ≤ length xs
length_filter_map f [] = omega arith
length_filter_map {A} {B} f (x ∷ xs) =
    let rest = length_filter_map f xs in
    elim (f x) as (λ (o : Option B). length (cons_option o (filter_map f xs)) ≤ suc (length xs)) [ None ↦ omega arith | Some y ↦ omega arith ]

length_between : (s : SwitchId) (now new : List Rule) → length (changes_between s now new) ≤ length now + length new
length_between s now new =
    let kept = length_filter_map (λ k. difference s (rule_with k now) (rule_with k new)) (keys_in_order (keys_of now ++ keys_of new)) in
    let keys = length_in_order (keys_of now ++ keys_of new) in
    let both = length-append (keys_of now) (keys_of new) in
    let first = length-map now (λ (r : Rule). r.key) in
    let second = length-map new (λ (r : Rule). r.key) in
    omega arith

pub length_from : (n : ℕ) (nows news : List (List Rule)) → length (changes_from n nows news) ≤ sum_by length nows + sum_by length news
length_from n [] news = omega arith
length_from n (now ∷ nows) [] = omega arith
length_from n (now ∷ nows) (new ∷ news) =
    let here = length_between (record { 0 = n }) now new in
    let rest = length_from (suc n) nows news in
    let both : length (changes_from n (now ∷ nows) (new ∷ news)) ≡ length (changes_between (record { 0 = n }) now new) + length (changes_from (suc n) nows news) =
    length-append (changes_between (record { 0 = n }) now new) (changes_from (suc n) nows news) in
    let olds = sum_by-cons length now nows in
    let news_too = sum_by-cons length new news in
    omega arith

-- no more changes remain than both configurations have rules
pub few_remain : (old new : List (List Rule)) → length (remaining_changes old new) ≤ sum_by length old + sum_by length new
few_remain old new = length_from 0 old new
