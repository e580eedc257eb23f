-- The available tags: they are distinct, of the range, and no declared VLAN has one.
use Rattle.std.proofs.Common.{◌≡◌, ◌⊎◌, ℕ, zero, suc, ◌+◌, ◌<◌, ◌≤◌, Bool, List, [], ◌∷◌, ◌++◌, map, length, take, refl, sym, ◌∙◌, subst, ap, inl, inr, arith}
use Rattle.std.specs.Prelude.{filter, not, Option, Some, None, ◌==◌, ◌-◌, IfSome}
use Rattle.std.specs.List.{list_any, AllByRecursion}
use Rattle.std.proofs.lemmas.Bool.{both_ways, not-true, eq-eqb, cond_both}
use Rattle.std.proofs.lemmas.List.Elements.{filter-append}
use Rattle.net_base.specs.Members.{IsIn, IsDistinct}
use Rattle.net_base.proofs.MemberLaws.{in_from_filter, each_from_in}
use Rattle.net_base.proofs.ListLaws.{any_in}
use Rattle.net_base.proofs.ItemLaws.{distinct_filter}
use Rattle.net_base.specs.declared.ids.Vlan.{Vlan}
use Rattle.net_base.specs.declared.ids.Vlan.TheVariants as vlan
use Rattle.topology.specs.Networks.{Network, IsNetwork, TagRange, IsVlanId, IsAvailableTag, vlan_eq}
use Rattle.net_base.specs.Numbers.{numbers_from}
use Rattle.net_base.proofs.NumberLaws.{numbers_above, numbers_below, numbers_distinct, numbers_more, numbers_length}
use Rattle.tag_allocator.specs.Tags.{ids_of, has_id, available_tags, Tagged, tags_paired, tags_of}

ids_distinct : (tags : Option TagRange) → IsDistinct (ids_of tags)
ids_distinct None = tt
ids_distinct (Some t) = numbers_distinct t.first _

pub tags_distinct : (net : Network) → IsDistinct (available_tags net)
tags_distinct net = distinct_filter _ (ids_of net.tags) (ids_distinct net.tags)

pub tag_undeclared : (net : Network) (id : ℕ) → IsIn id (available_tags net) → ¬ IsIn (vlan.Id id) net.vlans
tag_undeclared net id i declared =
    let passes = (in_from_filter (λ n. not (list_any (has_id n) net.vlans)) id (ids_of net.tags) i).1 in
    both_ways (list_any (has_id id) net.vlans) (not-true (list_any (has_id id) net.vlans) passes) (any_in (has_id id) (vlan.Id id) net.vlans declared (eq-eqb id id refl))

-- an id of a range lies in it
id_in_range : (tags : Option TagRange) (id : ℕ) → IsIn id (ids_of tags) → IfSome tags (λ t. (t.first ≤ id) × (id ≤ t.last)) × ¬ (tags ≡ None)
id_in_range None id i = absurd i
id_in_range (Some t) id i =
    let low = numbers_above t.first (suc t.last - t.first) id i in
    let high = numbers_below t.first (suc t.last - t.first) id i in
    ((omega arith, omega arith), λ e. cc)

-- each tag of the list is available
pub tag_available : (net : Network) (id : ℕ) → IsIn id (available_tags net) → IsAvailableTag net id
tag_available net id i =
    let range = id_in_range net.tags id (in_from_filter (λ n. not (list_any (has_id n) net.vlans)) id (ids_of net.tags) i).0 in
    record { in_range = range.0; some_range = range.1; undeclared = tag_undeclared net id i }

-- the first members of a list
in_take : {A : Type 0} (n : ℕ) (xs : List A) (x : A) → IsIn x (take n xs) → IsIn x xs
in_take zero xs x i = absurd i
in_take (suc n) [] x i = absurd i
in_take (suc n) (y ∷ xs) x (inl e) = inl e
in_take (suc n) (y ∷ xs) x (inr i) = inr (in_take n xs x i)

distinct_take : {A : Type 0} (n : ℕ) (xs : List A) → IsDistinct xs → IsDistinct (take n xs)
distinct_take zero xs distinct = tt
distinct_take (suc n) [] distinct = tt
distinct_take (suc n) (x ∷ xs) distinct = (λ i. distinct.0 (in_take n xs x i), distinct_take n xs distinct.1)

pub first_available : (net : Network) (n : ℕ) → AllByRecursion (IsAvailableTag net) (take n (available_tags net))
first_available net n = each_from_in (IsAvailableTag net) _ (λ id i. tag_available net id (in_take n (available_tags net) id i))

pub first_distinct : (net : Network) (n : ℕ) → IsDistinct (take n (available_tags net))
first_distinct net n = distinct_take n (available_tags net) (tags_distinct net)

-- the tags that are paired with VLANs are the first ones
pub paired_firsts : (vs : List Vlan) (ts : List ℕ) → take (length vs) ts ≡ map (λ (t : Tagged). t.tag) (tags_paired vs ts)
paired_firsts [] ts = refl
paired_firsts (v ∷ vs) [] = refl
paired_firsts (v ∷ vs) (t ∷ ts) = ap (λ ys. t ∷ ys) (paired_firsts vs ts)

length_filter : {A : Type 0} (p : A → Bool) (xs : List A) → length (filter p xs) ≤ length xs
length_filter p [] = omega arith
length_filter p (x ∷ xs) =
    let h = length_filter p xs in cond_both (p x) (x ∷ filter p xs) (filter p xs) (λ ys. length ys ≤ suc (length xs)) (λ _. omega arith) (λ _. omega arith)

-- there are no more than 4094 tags
ids_few : (tags : Option TagRange) → IfSome tags (λ t. IsVlanId t.first × IsVlanId t.last × (t.first ≤ t.last)) → length (ids_of tags) ≤ 4094
ids_few None h = omega arith
ids_few (Some t) h = let e = numbers_length t.first (suc t.last - t.first) in let (first, last, order) = h in omega arith

pub tags_few : (net : Network) → IsNetwork net → length (available_tags net) ≤ 4094
tags_few net is = let a = length_filter (λ n. not (list_any (has_id n) net.vlans)) (ids_of net.tags) in let b = ids_few net.tags is.tags in omega arith

-- the ids of a range that pass a test, as far as they have been looked at
pub one_more : (p : ℕ → Bool) (first id : ℕ) (items : List ℕ) → first ≤ id → items ≡ filter p (numbers_from first (id - first))
    → items ++ filter p (id ∷ []) ≡ filter p (numbers_from first (id + 1 - first))
one_more p first id items le e =
    let h : suc (id - first) ≡ id + 1 - first = omega arith in
    let more : numbers_from first (suc (id - first)) ≡ numbers_from first (id - first) ++ id ∷ [] = numbers_more first (id - first) id (omega arith) in
    let apart : filter p (numbers_from first (id - first) ++ id ∷ []) ≡ filter p (numbers_from first (id - first)) ++ filter p (id ∷ []) =
    filter-append p (numbers_from first (id - first)) (id ∷ [])
    in
    ap (λ (ys : List ℕ). ys ++ filter p (id ∷ [])) e ∙ sym apart ∙ sym (ap (filter p) more) ∙ ap (λ (k : ℕ). filter p (numbers_from first k)) h

-- what the first available tags are worth, one for each declared VLAN
pub firsts_worth : (net : Network) (tags : List ℕ) → tags ≡ take (length net.vlans) (available_tags net)
    → (tags ≡ map (λ (t : Tagged). t.tag) (tags_of net)) × AllByRecursion (IsAvailableTag net) tags × IsDistinct tags
firsts_worth net tags e = (
  e ∙ paired_firsts net.vlans (available_tags net),
  subst (λ (ts : List ℕ). AllByRecursion (IsAvailableTag net) ts) (sym e) (first_available net (length net.vlans)),
  subst (λ (ts : List ℕ). IsDistinct ts) (sym e) (first_distinct net (length net.vlans)),
)
