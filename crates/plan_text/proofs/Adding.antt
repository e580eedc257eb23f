-- What a writer has written after several steps.
use Rattle.std.proofs.Common.{◌≡◌, ℕ, ◌+◌, ◌<◌, ◌≤◌, List, [], ◌∷◌, ◌++◌, length, take, get_or, map, Ok, refl, sym, ap, subst, ◌∙◌, append_assoc, append-nil}
use Rattle.std.proofs.lemmas.Grind.{flat_map-append, take_at_read}
use Rattle.std.proofs.lemmas.List.{take_all}
use Rattle.json.specs.Token.{Token, begin_array, end_array}
use Rattle.json.specs.Tree.{items_tokens}
use Rattle.json.specs.Written.{Written, Writes}
use Rattle.serde_json.specs.Data.{Data}
use Rattle.serde_json.specs.View.{items_of}
use Rattle.serde_json.specs.Written.{items_outline}
use Rattle.config_files.specs.RuleTrees.{list_tree}
use Rattle.plan_text.specs.Tokens.{tokens_of, all_tokens, Adds}

both : (a b c : Written) (xs ys : List Token) → Adds a b xs → Adds b c ys → Adds a c (xs ++ ys)
both a b c xs ys p q = record { before = q.before ∙ p.before; tokens = q.tokens ∙ ap (λ (ts : List Token). ts ++ ys) p.tokens ∙ append_assoc a.tokens xs ys }

-- first some, and then others
pub and_more : {a b c : Written} {xs ys : List Token} → Adds a b xs → Adds b c ys → Adds a c (xs ++ ys)
and_more p q = both _ _ _ _ _ p q

-- one token
pub token_added : {E : Type 0} {u : Unit {0}} {a b : Written} {t : Token} → Writes {E = E} (Ok u) a b t → Adds a b (t ∷ [])
token_added w = record { before = w.room.0; tokens = w.ok }

-- ---- lists

-- one item more
pub item_added : {X : Type 0} (tree : X → Data) (xs : List X) (i : ℕ) (d : X) (a b c : Written) → i < length xs → Adds a b (all_tokens tree (take i xs)) → Adds b c (tokens_of (tree (get_or xs i d)))
    → Adds a c (all_tokens tree (take (i + 1) xs))
item_added tree xs i d a b c lt before more =
    let same : take (i + 1) xs ≡ take i xs ++ get_or xs i d ∷ [] = (take_at_read xs i d lt).1 in
    let split : all_tokens tree (take i xs ++ get_or xs i d ∷ []) ≡ all_tokens tree (take i xs) ++ (tokens_of (tree (get_or xs i d)) ++ []) =
    flat_map-append (λ x. tokens_of (tree x)) (take i xs) (get_or xs i d ∷ []) in
    let whole : all_tokens tree (take (i + 1) xs) ≡ all_tokens tree (take i xs) ++ tokens_of (tree (get_or xs i d)) =
    ap (all_tokens tree) same ∙ split ∙ ap (λ (ts : List Token). all_tokens tree (take i xs) ++ ts) (append-nil (tokens_of (tree (get_or xs i d)))) in
    subst (Adds a c) (sym whole) (and_more before more)

list_tokens : {X : Type 0} (tree : X → Data) (xs : List X) → items_tokens (items_outline (items_of (map tree xs))) ≡ all_tokens tree xs ++ end_array ∷ []
list_tokens tree [] = refl
list_tokens tree (x ∷ xs) = ap (λ (ts : List Token). tokens_of (tree x) ++ ts) (list_tokens tree xs) ∙ sym (append_assoc (tokens_of (tree x)) (all_tokens tree xs) (end_array ∷ []))

-- the brackets round the items
pub list_added : {X : Type 0} (tree : X → Data) (xs : List X) (a b c d : Written) → Adds a b (begin_array ∷ []) → Adds b c (all_tokens tree xs) → Adds c d (end_array ∷ []) → Adds a d (tokens_of (list_tree (map tree xs)))
list_added tree xs a b c d first items last = subst (Adds a d) (ap (λ (ts : List Token). begin_array ∷ ts) (sym (list_tokens tree xs))) (and_more first (and_more items last))

-- at the end of a loop
pub all_added : {X : Type 0} (tree : X → Data) (xs : List X) (i : ℕ) (a b c d : Written) → length xs ≤ i → Adds a b (begin_array ∷ []) → Adds b c (all_tokens tree (take i xs)) → Adds c d (end_array ∷ [])
    → Adds a d (tokens_of (list_tree (map tree xs)))
all_added tree xs i a b c d over first items last = list_added tree xs a b c d first (subst (λ ys. Adds b c (all_tokens tree ys)) (take_all i xs over) items) last
