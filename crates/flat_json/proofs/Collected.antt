-- Items and members that are collected one after the other.
use Rattle.std.proofs.Common.{◌≡◌, ℕ, List, [], ◌∷◌, ◌++◌, length, Option, Some, None, refl, ap, arith}
use Rattle.json.specs.Token.{Token}
use Rattle.json.specs.Json.{parse_map}
use Rattle.serde_json.specs.Data.{Data, Items, no_items, item, Members, put}
use Rattle.serde_json.specs.View.{items_of}
use Rattle.flat_json.specs.Nodes.{with_members}

-- the items, with these before them
abbrev pub items_before : List Data → Items → Items
items_before [] rest = rest
items_before (d ∷ ds) rest = item d (items_before ds rest)

pub items_before-no_items : (ds : List Data) → items_before ds no_items ≡ items_of ds
items_before-no_items [] = refl
items_before-no_items (d ∷ ds) = ap (item d) (items_before-no_items ds)

items_push : (ds : List Data) (d : Data) (rest : Items) → items_before ds (item d rest) ≡ items_before (ds ++ d ∷ []) rest
items_push [] d rest = refl
items_push (e ∷ ds) d rest = ap (item e) (items_push ds d rest)

pub one_more_item : (ds : List Data) (d : Data) (r : Option (Items × List Token)) → parse_map (items_before ds) (parse_map (item d) r) ≡ parse_map (items_before (ds ++ d ∷ [])) r
one_more_item ds d None = refl
one_more_item ds d (Some p) = ap (λ es. Some (es, p.1)) (items_push ds d p.0)

pub one_more_member : (ks : List (List ℕ)) (ds : List Data) (k : List ℕ) (d : Data) (found : Members) → length ks ≡ length ds → with_members (ks ++ k ∷ []) (ds ++ d ∷ []) found ≡ put k d (with_members ks ds found)
one_more_member [] [] k d found e = refl
one_more_member [] (x ∷ ds) k d found e = absurd (omega (arith, e))
one_more_member (y ∷ ks) [] k d found e = absurd (omega (arith, e))
one_more_member (y ∷ ks) (x ∷ ds) k d found e = one_more_member ks ds k d (put y x found) (omega (arith, e))
