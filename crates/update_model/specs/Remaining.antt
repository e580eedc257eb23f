-- The changes that lead from some tables to others.
use Rattle.std.specs.Prelude.{ℕ, suc, cond, List, [], ◌∷◌, ◌++◌, filter_map, find, Option, Some, None}
use Rattle.std.specs.Ordering.{is_lt}
use Rattle.net_base.specs.Members.{IsIn}
use Rattle.net_base.specs.declared.ids.SwitchId.{SwitchId}
use Rattle.flow_rules.specs.Order.{key_cmp}
use Rattle.flow_rules.specs.Same.{action_eq}
use Rattle.flow_rules.specs.Patterns.{key_eq}
use Rattle.flow_rules.specs.Tables.{keys_of}
use Rattle.flow_rules.specs.declared.rules.Key.{Key}
use Rattle.flow_rules.specs.declared.rules.Rule.{Rule}
use Rattle.update_model.specs.Changes.{tables_after_change}
use Rattle.update_model.specs.declared.Change.{Change}
use Rattle.update_model.specs.declared.Change.TheVariants.{Insert, Delete, Replace}

-- the key put into a list in key order, once
abbrev pub with_key : Key → List Key → List Key
with_key k [] = k ∷ []
with_key k (q ∷ ks) = cond (is_lt (key_cmp k q)) (k ∷ q ∷ ks) (cond (key_eq k q) (q ∷ ks) (q ∷ with_key k ks))

-- the keys of a list, in key order and each once
abbrev pub keys_in_order : List Key → List Key
keys_in_order [] = []
keys_in_order (k ∷ ks) = with_key k (keys_in_order ks)

-- the rule of a table with a key
abbrev pub rule_with : Key → List Rule → Option Rule
rule_with k rules = find (λ r. key_eq r.key k) rules

-- what leads from a rule, if there is one, to another under the same key
abbrev pub difference : SwitchId → Option Rule → Option Rule → Option Change
difference s None None = None
difference s (Some r) None = Some (Delete s r)
difference s None (Some r) = Some (Insert s r)
difference s (Some r) (Some q) = cond (action_eq r.action q.action) None (Some (Replace s q))

-- the changes of one switch from its rules to the new ones, in key order: delete what is only there, insert what is only new,
-- replace where the actions differ
abbrev pub changes_between : SwitchId → List Rule → List Rule → List Change
changes_between s now new = filter_map (λ k. difference s (rule_with k now) (rule_with k new)) (keys_in_order (keys_of now ++ keys_of new))

-- the same for all switches from a number on
abbrev pub changes_from : ℕ → List (List Rule) → List (List Rule) → List Change
changes_from n [] news = []
changes_from n (now ∷ nows) [] = []
changes_from n (now ∷ nows) (new ∷ news) = changes_between (record { 0 = n }) now new ++ changes_from (suc n) nows news

-- the changes that remain, by switch and then in key order
abbrev pub remaining_changes : List (List Rule) → List (List Rule) → List Change
remaining_changes now new = changes_from 0 now new

-- each change is one of those that remain when it is made
abbrev pub AreRemaining : List (List Rule) → List (List Rule) → List Change → Type 0
AreRemaining now new [] = Unit {0}
AreRemaining now new (c ∷ cs) = IsIn c (remaining_changes now new) × AreRemaining (tables_after_change c now) new cs
