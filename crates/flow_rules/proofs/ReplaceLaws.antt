-- Rules replaced by others in turn are replaced by the one of them that has their key.
use Rattle.std.proofs.Common.{◌≡◌, ◌⊎◌, ℕ, zero, suc, ◌<◌, ◌≤◌, true, false, cond, List, [], ◌∷◌, ◌++◌, length, map, get_or, set, take, drop, inl, inr, refl, sym, ◌∙◌, ap, subst, arith}
use Rattle.std.specs.Prelude.{Bool, Err, IsPermutation}
use Rattle.std.specs.List.{list_any}
use Rattle.std.specs.List.Sorted.{IsBinarySearchResult}
use Rattle.std.specs.declared.cmp.Ordering.TheVariants.{Equal}
use Rattle.std.proofs.lemmas.Bool.{or_parts}
use Rattle.std.proofs.lemmas.List.Sorted.{IsPermutation-map, list_any-IsPermutation}
use Rattle.net_base.specs.Members.{IsIn, IsDistinct}
use Rattle.net_base.proofs.ItemLaws.{in_at}
use Rattle.net_base.proofs.ListLaws.{in_from_any, told_from_distinct}
use Rattle.flow_rules.specs.Order.{key_cmp, AreByKey}
use Rattle.flow_rules.specs.Patterns.{key_eq}
use Rattle.flow_rules.specs.Replaced.{in_place_of, replaced_in_turn}
use Rattle.flow_rules.specs.Same.{rule_eq}
use Rattle.flow_rules.specs.Tables.{keys_of, IsTable}
use Rattle.flow_rules.specs.declared.rules.Rule.{Rule}
use Rattle.flow_rules.proofs.DeleteLaws.{key_tie, search_tells}
use Rattle.flow_rules.proofs.DistinctLaws.{flips, keys_moved}
use Rattle.flow_rules.proofs.KeyLaws.{key_eq-true, key_eq-false}
use Rattle.flow_rules.proofs.TableLaws.{keys_replaced, rule_found}

-- where all others with the key are the same, and there is one, it takes the place
told_in_place : (others : List Rule) (q r : Rule) → ((x : Rule) → IsIn x others → x.key ≡ r.key → x ≡ r) → q.key ≡ r.key → IsIn r others ⊎ (q ≡ r) → in_place_of others q ≡ r
told_in_place [] q r told same (inl i) = absurd i
told_in_place [] q r told same (inr e) = e
told_in_place (x ∷ others) q r told same at =
    elim (key_eq q.key x.key) as (λ b. key_eq q.key x.key ≡ b → in_place_of others (cond b x q) ≡ r) [
      | true ↦ λ e.
          let here : x ≡ r = told x (inl refl) (sym (key_eq-true q.key x.key e) ∙ same) in
          told_in_place others x r (λ y i. told y (inr i)) (ap (λ (y : Rule). y.key) here) (inr here)
      | false ↦ λ e. told_in_place others q r (λ y i. told y (inr i)) same (elim at [
        | inl i ↦ elim i [ inl is ↦ absurd (key_eq-false q.key x.key e (same ∙ ap (λ (y : Rule). y.key) is)) | inr j ↦ inl j ]
        | inr is ↦ inr is
      ])
    ] refl

-- the one with its key takes a rule's place
one_in_place : (others : List Rule) (q r : Rule) → IsTable others → IsIn r others → r.key ≡ q.key → in_place_of others q ≡ r
one_in_place others q r table i same =
    told_in_place others q r (λ x j e. told_from_distinct (λ (y : Rule). y.key) others table x r j i e) (sym same) (inl i)

-- where none has its key the rule stays
none_in_place : (others : List Rule) (q : Rule) → list_any (λ r. key_eq r.key q.key) others ≡ false → in_place_of others q ≡ q
none_in_place [] q none = refl
none_in_place (x ∷ others) q none =
    let (here, rest) = or_parts (key_eq x.key q.key) (list_any (λ r. key_eq r.key q.key) others) none in
    ap (λ (b : Bool). in_place_of others (cond b x q)) (flips q.key x.key ∙ here) ∙ none_in_place others q rest

-- what a search finds takes the place, and where it finds none the rule stays
pub found_in_place : (others : List Rule) (q : Rule) (i : ℕ) (d : Rule) → IsTable others → i < length others → key_cmp (get_or others i d).key q.key ≡ Equal
    → get_or others i d ≡ in_place_of others q
found_in_place others q i d table less e = sym (one_in_place others q (get_or others i d) table (in_at others i d less) (key_tie (get_or others i d).key q.key e))

pub missed_in_place : (others : List Rule) (q : Rule) (i : ℕ) → AreByKey others → i ≤ length others → IsBinarySearchResult (λ x. key_cmp x.key q.key) others (Err i)
    → q ≡ in_place_of others q
missed_in_place others q i sorted within missed = sym (none_in_place others q (sym (search_tells others q.key (Err i) sorted within missed)))

-- distinct keys stay so when the rules change places
pub table_moved : (others sorted : List Rule) → IsPermutation others sorted → IsTable others → IsTable sorted
table_moved others sorted moved table = keys_moved (keys_of others) (keys_of sorted) (IsPermutation-map (λ (r : Rule). r.key) others sorted moved) table

-- the order of the others doesn't matter
in_place_moved : (others sorted : List Rule) (q : Rule) → IsPermutation others sorted → IsTable others → in_place_of sorted q ≡ in_place_of others q
in_place_moved others sorted q moved table =
    elim (list_any (λ r. key_eq r.key q.key) others) as (λ b. list_any (λ r. key_eq r.key q.key) others ≡ b → in_place_of sorted q ≡ in_place_of others q) [
      | true ↦ λ e.
          let (x, i, same) = in_from_any (λ (r : Rule). key_eq r.key q.key) others e in
          let is = key_eq-true x.key q.key same in
          let j : IsIn x sorted = (rule_found x sorted).0 (sym (list_any-IsPermutation (λ (r : Rule). rule_eq r x) others sorted moved) ∙ (rule_found x others).1 i) in
          one_in_place sorted q x (table_moved others sorted moved table) j is ∙ sym (one_in_place others q x table i is)
      | false ↦ λ e.
          none_in_place sorted q (sym (list_any-IsPermutation (λ (r : Rule). key_eq r.key q.key) others sorted moved) ∙ e) ∙ sym (none_in_place others q e)
    ] refl

-- in turn the others make of each rule what they put in its place
in_turn_each : (others rules : List Rule) → replaced_in_turn others rules ≡ map (in_place_of others) rules
in_turn_each [] rules = stays rules
  where
    stays : (rs : List Rule) → rs ≡ map (in_place_of []) rs
    stays [] = refl
    stays (x ∷ rs) = ap (λ (l : List Rule). x ∷ l) (stays rs)
in_turn_each (r ∷ others) rules = in_turn_each others (map (λ q. cond (key_eq q.key r.key) r q) rules) ∙ both rules
  where
    both : (rs : List Rule) → map (in_place_of others) (map (λ q. cond (key_eq q.key r.key) r q) rs) ≡ map (in_place_of (r ∷ others)) rs
    both [] = refl
    both (x ∷ rs) = ap (λ (l : List Rule). in_place_of (r ∷ others) x ∷ l) (both rs)

-- so in whatever order they stand, each rule is replaced as by the others in turn
pub sorted_in_turn : (others sorted rules : List Rule) → IsPermutation others sorted → IsTable others → map (in_place_of sorted) rules ≡ replaced_in_turn others rules
sorted_in_turn others sorted rules moved table =
    ap (λ (f : Rule → Rule). map f rules) (λ i q. in_place_moved others sorted q moved table i) ∙ sym (in_turn_each others rules)

-- the rules of which the first i are taken through a function
abbrev pub mapped_to : (Rule → Rule) → ℕ → List Rule → List Rule
mapped_to f i xs = map f (take i xs) ++ drop i xs

map_more : (f : Rule → Rule) (xs : List Rule) (i : ℕ) (d : Rule) → i < length xs → set (mapped_to f i xs) i (f (get_or (mapped_to f i xs) i d)) ≡ mapped_to f (suc i) xs
map_more f [] i d less = absurd (omega arith)
map_more f (x ∷ xs) zero d less = refl
map_more f (x ∷ xs) (suc i) d less = ap (λ (l : List Rule). f x ∷ l) (map_more f xs i d (omega arith))

pub mapped_next : (f : Rule → Rule) (xs ys zs : List Rule) (i : ℕ) (d r : Rule) → i < length xs → ys ≡ mapped_to f i xs → r ≡ f (get_or ys i d) → zs ≡ set ys i r
    → zs ≡ mapped_to f (suc i) xs
mapped_next f xs ys zs i d r less is new e =
    e ∙ ap (λ (q : Rule). set ys i q) new ∙ ap (λ (l : List Rule). set l i (f (get_or l i d))) is ∙ map_more f xs i d less

-- all rules keep their keys
pub keys_in_turn : (others rules : List Rule) → keys_of (replaced_in_turn others rules) ≡ keys_of rules
keys_in_turn [] rules = refl
keys_in_turn (r ∷ others) rules = keys_in_turn others (map (λ q. cond (key_eq q.key r.key) r q) rules) ∙ keys_replaced r rules

pub table_in_turn : (others rules : List Rule) → IsTable rules → IsTable (replaced_in_turn others rules)
table_in_turn others rules table = subst IsDistinct (sym (keys_in_turn others rules)) table
