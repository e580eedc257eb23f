-- What is found in a tree.
use Rattle.std.proofs.Common.{◌≡◌, ◌⊎◌, inl, inr, ℕ, suc, ◌+◌, ◌<◌, ◌≤◌, List, [], ◌∷◌, length, get_or, min, map, take, drop, drop-cons, add-one, Bor, Bool, true, false, bytes_eq, true≢false, Option, Some, None, option_map, refl, sym, ap, ap₂, ◌∙◌, arith}
use Rattle.std.specs.List.{take-map, drop-map}
use Rattle.std.specs.Prelude.{if◌then◌else◌}
use Rattle.std.proofs.lemmas.Bool.{cases_lt}
use Rattle.std.proofs.lemmas.List.{drop_all}
use Rattle.std.proofs.lemmas.Slice.Eq.{bytes_eq-Decides}
use Rattle.serde_json.specs.Data.{Data, Members, no_members, put}
use Rattle.serde_json.specs.Find.{get, get_member}
use Rattle.serde_json.proofs.Views.{get_member-put, get_member-put_other}
use Rattle.flat_json.specs.JsonTree.{list_in}
use Rattle.flat_json.proofs.JsonTree.{list_of-items_of}
use Rattle.flat_json.specs.Nodes.{part, with_members, meanings}
use Rattle.flat_json.specs.Stores.{texts_of, data_in, is_ordered}
use Rattle.flat_json.specs.declared.node.Node.TheVariants as node
use Rattle.flat_json.specs.declared.store.Store.{Store}
use Rattle.flat_json.proofs.Meanings.{meanings-each}

part-map : {A B : Type 0} (f : A → B) (first count : ℕ) (xs : List A) → part first count (map f xs) ≡ map f (part first count xs)
part-map f first count xs = ap (take count) (drop-map f first xs) ∙ take-map f count (drop first xs)

-- each node stands for what it means to the whole tree
all_nodes : (s : Store) → is_ordered s ≡ true → meanings (texts_of s) [] s.nodes.items ≡ map (data_in s) s.nodes.items
unfolding data_in is_ordered
all_nodes s ordered = meanings-each (texts_of s) [] s.nodes.items ordered

nodes_part : (s : Store) (first count : ℕ) → is_ordered s ≡ true → part first count (meanings (texts_of s) [] s.nodes.items) ≡ map (data_in s) (part first count s.nodes.items)
nodes_part s first count ordered = ap (part first count) (all_nodes s ordered) ∙ part-map (data_in s) first count s.nodes.items

pub list_found : (s : Store) (first count : ℕ) → is_ordered s ≡ true → Some (map (data_in s) (part first count s.nodes.items)) ≡ list_in (data_in s (node.List first count))
unfolding data_in
list_found s first count ordered = ap (λ ds. Some ds) (sym (nodes_part s first count ordered) ∙ sym (list_of-items_of (part first count (meanings (texts_of s) [] s.nodes.items))))

pub member_found : (s : Store) (name : List ℕ) (key first count : ℕ) → is_ordered s ≡ true
    → get_member name (with_members (map (λ k. k.now) (part key count s.texts.items)) (map (data_in s) (part first count s.nodes.items)) no_members) ≡ get name (data_in s (node.Object key first count))
unfolding data_in
member_found s name key first count ordered =
    ap₂ (λ ks ds. get_member name (with_members ks ds no_members)) (sym (part-map (λ k. k.now) key count s.texts.items)) (sym (nodes_part s first count ordered))

-- ---- the last of equal keys

-- the value of the last of the keys that is the name, or else the one found before
abbrev pub last_value : {V : Type 0} → List ℕ → List (List ℕ) → List V → Option V → Option V
last_value name [] vs found = found
last_value name (k ∷ ks) [] found = found
last_value name (k ∷ ks) (v ∷ vs) found = last_value name ks vs (if bytes_eq k name then Some v else found)

-- one key more is looked at, which is the name or isn't
module _ {V : Type 0} (name : List ℕ) (keys : List (Bor (List ℕ))) (vs : List V) (i : ℕ) (k : Bor (List ℕ)) (v : V) (found total : Option V) (within_keys : i < length keys) (within : i < length vs)
    (so_far : last_value name (map (λ l. l.now) (drop i keys)) (drop i vs) found ≡ total) where
  one_key_more : last_value name (map (λ l. l.now) (drop (i + 1) keys)) (drop (i + 1) vs) (if bytes_eq (get_or keys i k).now name then Some (get_or vs i v) else found) ≡ total
  one_key_more =
      let one : last_value name (map (λ l. l.now) (drop i keys)) (drop i vs) found ≡ last_value name (map (λ l. l.now) (drop (suc i) keys)) (drop (suc i) vs) (if bytes_eq (get_or keys i k).now name then Some (get_or vs i v) else found) =
      rw (drop-cons keys i k within_keys, drop-cons vs i v within) refl in
      simp add-one (sym one ∙ so_far)

  pub key_found : (next : Option V) → bytes_eq (get_or keys i k).now name ≡ true → next ≡ Some (get_or vs i v) → last_value name (map (λ l. l.now) (drop (i + 1) keys)) (drop (i + 1) vs) next ≡ total
  key_found next is e =
      ap (last_value name (map (λ l. l.now) (drop (i + 1) keys)) (drop (i + 1) vs)) (e ∙ ap (λ b. if b then Some (get_or vs i v) else found) (sym is)) ∙ one_key_more

  pub key_passed : (next : Option V) → bytes_eq (get_or keys i k).now name ≡ false → next ≡ found → last_value name (map (λ l. l.now) (drop (i + 1) keys)) (drop (i + 1) vs) next ≡ total
  key_passed next other e =
      ap (last_value name (map (λ l. l.now) (drop (i + 1) keys)) (drop (i + 1) vs)) (e ∙ ap (λ b. if b then Some (get_or vs i v) else found) (sym other)) ∙ one_key_more

last_of_none : {V : Type 0} (name : List ℕ) (ks : List (List ℕ)) (found : Option V) → last_value name ks [] found ≡ found
last_of_none name [] found = refl
last_of_none name (k ∷ ks) found = refl

no_keys : {V : Type 0} (name : List ℕ) (keys : List (Bor (List ℕ))) (vs : List V) (i : ℕ) (found : Option V) → length keys ≤ i → last_value name (map (λ l. l.now) (drop i keys)) (drop i vs) found ≡ found
no_keys name keys vs i found past = rw (drop_all i keys past) refl

no_values : {V : Type 0} (name : List ℕ) (keys : List (Bor (List ℕ))) (vs : List V) (i : ℕ) (found : Option V) → length vs ≤ i → last_value name (map (λ l. l.now) (drop i keys)) (drop i vs) found ≡ found
no_values name keys vs i found past = rw (drop_all i vs past) (last_of_none name (map (λ l. l.now) (drop i keys)) found)

-- all keys with a value were looked at
pub all_keys : {V : Type 0} (name : List ℕ) (keys : List (Bor (List ℕ))) (vs : List V) (i : ℕ) (found total : Option V) → min (length keys) (length vs) ≤ i
    → last_value name (map (λ l. l.now) (drop i keys)) (drop i vs) found ≡ total → found ≡ total
all_keys name keys vs i found total past so_far = by (cases_lt i (length keys))
  where
    by : (i < length keys) ⊎ (length keys ≤ i) → found ≡ total
    by (inr few) = sym (no_keys name keys vs i found few) ∙ so_far
    by (inl more) = let short : length vs ≤ i = omega (arith, past, more) in sym (no_values name keys vs i found short) ∙ so_far

put_or_before : {V : Type 0} (f : V → Data) (name k : List ℕ) (v : V) (found : Option V) (ms : Members) (same : Bool) → bytes_eq k name ≡ same → get_member name ms ≡ option_map f found
    → get_member name (put k (f v) ms) ≡ option_map f (if same then Some v else found)
put_or_before f name k v found ms true e before = let is = (bytes_eq-Decides k name).0 e in ap (λ n. get_member n (put k (f v) ms)) (sym is) ∙ get_member-put k (f v) ms
put_or_before f name k v found ms false e before = get_member-put_other name k (f v) ms (λ is. true≢false (sym ((bytes_eq-Decides k name).1 (sym is)) ∙ e)) ∙ before

pub get_member-with_members : {V : Type 0} (f : V → Data) (name : List ℕ) (ks : List (List ℕ)) (vs : List V) (found : Option V) (ms : Members) → get_member name ms ≡ option_map f found
    → get_member name (with_members ks (map f vs) ms) ≡ option_map f (last_value name ks vs found)
get_member-with_members f name [] vs found ms before = before
get_member-with_members f name (k ∷ ks) [] found ms before = before
get_member-with_members f name (k ∷ ks) (v ∷ vs) found ms before =
    get_member-with_members f name ks vs (if bytes_eq k name then Some v else found) (put k (f v) ms) (put_or_before f name k v found ms (bytes_eq k name) refl before)

pub option_map-twice : {A B C : Type 0} (f : B → C) (g : A → B) (o : Option A) → option_map (λ a. f (g a)) o ≡ option_map f (option_map g o)
option_map-twice f g None = refl
option_map-twice f g (Some a) = refl
