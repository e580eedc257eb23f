-- A tree that grows.
use Rattle.std.proofs.Common.{◌≡◌, ℕ, ◌+◌, ◌≤◌, List, [], ◌∷◌, ◌++◌, length, map, take, drop, true, Some, refl, sym, ap, ap₂, ◌∙◌, arith, take_all}
use Rattle.std.specs.Prelude.{slice_get}
use Rattle.std.specs.Option.{option_map_or}
use Rattle.std.proofs.lemmas.Bool.{and_parts, and_from, lt-ltb, le-leb}
use Rattle.std.proofs.lemmas.List.{append-nil, append_assoc, length-append, length-map, map-append}
use Rattle.std.proofs.lemmas.List.Folds.{list_all-append}
use Rattle.std.proofs.Math.Seq.{drop-append_seam}
use Rattle.serde_json.specs.Data.{Data, null, string, array, object, no_members}
use Rattle.serde_json.specs.View.{items_of}
use Rattle.flat_json.specs.Nodes.{part, with_members, meaning, meanings, is_within, are_ordered}
use Rattle.flat_json.specs.Stores.{texts_of, data_in, is_ordered, is_known, are_known, IsGrown, Keeps}
use Rattle.flat_json.specs.declared.node.Node.{Node}
use Rattle.flat_json.specs.declared.node.Node.TheVariants as node
use Rattle.flat_json.specs.declared.store.Store.{Store}
use Rattle.flat_json.proofs.Meanings.{meaning-grown, meanings-added, length-all, is_within-more, are_ordered-texts, are_ordered-known, are_ordered-append}

pub same_tree : (s : Store) → IsGrown s s
same_tree s = record { texts = ([], sym (append-nil _)); nodes = ([], sym (append-nil _)) }

pub grown_twice : (a b c : Store) → IsGrown a b → IsGrown b c → IsGrown a c
grown_twice a b c g h =
    record {
      texts = (g.texts.0 ++ h.texts.0, h.texts.1 ∙ ap (λ l. l ++ h.texts.0) g.texts.1 ∙ append_assoc (texts_of a) g.texts.0 h.texts.0);
      nodes = (g.nodes.0 ++ h.nodes.0, h.nodes.1 ∙ ap (λ l. l ++ h.nodes.0) g.nodes.1 ∙ append_assoc a.nodes.items g.nodes.0 h.nodes.0);
    }

pub data_in-grown : (old new : Store) (n : Node) → is_ordered old ≡ true → IsGrown old new → is_known old n ≡ true → data_in new n ≡ data_in old n
unfolding data_in is_ordered is_known
data_in-grown old new n ordered g known =
    ap₂ (λ ts ns. meaning ts (meanings ts [] ns) n) g.texts.1 g.nodes.1 ∙ meaning-grown (texts_of old) g.texts.0 old.nodes.items g.nodes.0 n ordered known

is_known-grown : (old new : Store) (n : Node) → IsGrown old new → is_known old n ≡ true → is_known new n ≡ true
unfolding is_known
is_known-grown old new n g known =
    let texts = ap length g.texts.1 ∙ length-append (texts_of old) g.texts.0 in
    let nodes = ap length g.nodes.1 ∙ length-append old.nodes.items g.nodes.0 in
    is_within-more (length (texts_of old)) (length (texts_of new)) (length old.nodes.items) (length new.nodes.items) n (omega (arith, texts)) (omega (arith, nodes)) known

pub are_known-grown : (old new : Store) (ns : List Node) → IsGrown old new → are_known old ns ≡ true → are_known new ns ≡ true
unfolding are_known
are_known-grown old new [] g known = refl
are_known-grown old new (n ∷ ns) g known = let p = and_parts _ _ known in and_from _ _ (is_known-grown old new n g p.0) (are_known-grown old new ns g p.1)

pub data_of_each-grown : (old new : Store) (ns : List Node) → is_ordered old ≡ true → IsGrown old new → are_known old ns ≡ true → map (data_in new) ns ≡ map (data_in old) ns
unfolding are_known
data_of_each-grown old new [] ordered g known = refl
data_of_each-grown old new (n ∷ ns) ordered g known =
    let p = and_parts _ _ known in
    ap₂ (λ d ds. d ∷ ds) (data_in-grown old new n ordered g p.0) (data_of_each-grown old new ns ordered g p.1)

module _ (old new : Store) (us : List (List ℕ)) (ms : List Node) (ordered : is_ordered old ≡ true) (known : are_known old ms ≡ true) (texts : texts_of new ≡ texts_of old ++ us) (nodes : new.nodes.items ≡ old.nodes.items ++ ms) where
  all_texts : length (texts_of new) ≡ length (texts_of old) + length us
  all_texts = ap length texts ∙ length-append (texts_of old) us

  all_nodes : length new.nodes.items ≡ length old.nodes.items + length ms
  all_nodes = ap length nodes ∙ length-append old.nodes.items ms

  grows : IsGrown old new
  grows = record { texts = (us, texts); nodes = (ms, nodes) }

  abbrev old_nodes : List Data
  old_nodes = meanings (texts_of old) [] old.nodes.items

  stays_ordered : is_ordered new ≡ true
  unfolding is_ordered are_known is_known
  stays_ordered =
      let more : length (texts_of old) ≤ length (texts_of new) = omega (arith, all_texts) in
      let none : 0 + length old.nodes.items ≡ length old.nodes.items = omega arith in
      let front = are_ordered-texts (length (texts_of old)) (length (texts_of new)) 0 old.nodes.items more ordered in
      let back = are_ordered-texts (length (texts_of old)) (length (texts_of new)) (length old.nodes.items) ms more (are_ordered-known (length (texts_of old)) (length old.nodes.items) (length old.nodes.items) ms (omega arith) known) in
      ap (are_ordered (length (texts_of new)) 0) nodes ∙ are_ordered-append (length (texts_of new)) 0 old.nodes.items ms front (ap (λ k. are_ordered (length (texts_of new)) k ms) none ∙ back)

  now_known : (n : Node) → is_within (length (texts_of old) + length us) (length old.nodes.items + length ms) n ≡ true → are_known new (n ∷ []) ≡ true
  unfolding are_known is_known
  now_known n h = and_from _ _ (ap₂ (λ t k. is_within t k n) all_texts all_nodes ∙ h) refl

  pub keeps : (n : Node) → is_within (length (texts_of old) + length us) (length old.nodes.items + length ms) n ≡ true → Keeps old new (n ∷ [])
  keeps n h = record { ordered = stays_ordered; grown = grows; known = now_known n h }

  new_nodes : meanings (texts_of new) [] new.nodes.items ≡ old_nodes ++ map (data_in old) ms
  unfolding data_in is_ordered are_known is_known
  new_nodes = ap₂ (λ ts ns. meanings ts [] ns) texts nodes ∙ meanings-added (texts_of old) us old.nodes.items ms ordered known

  added_part : part (length old.nodes.items) (length ms) (meanings (texts_of new) [] new.nodes.items) ≡ map (data_in old) ms
  added_part =
      let seam : drop (length old.nodes.items) (old_nodes ++ map (data_in old) ms) ≡ map (data_in old) ms =
      ap (λ k. drop k (old_nodes ++ map (data_in old) ms)) (sym (length-all (texts_of old) old.nodes.items)) ∙ drop-append_seam old_nodes (map (data_in old) ms) in
      let count = length-map ms (data_in old) in
      ap (part (length old.nodes.items) (length ms)) new_nodes ∙ ap (take (length ms)) seam ∙ take_all _ (map (data_in old) ms) (omega (arith, count))

  added_texts : part (length (texts_of old)) (length us) (texts_of new) ≡ us
  added_texts = ap (part (length (texts_of old)) (length us)) texts ∙ ap (take (length us)) (drop-append_seam (texts_of old) us) ∙ take_all _ us (omega arith)

  -- a list of nodes that are known
  pub list_added : (first count : ℕ) → first ≡ length old.nodes.items → count ≡ length ms
      → Keeps old new (node.List first count ∷ []) × (data_in new (node.List first count) ≡ array (items_of (map (data_in old) ms)))
  unfolding data_in
  list_added first count at many =
      let within : is_within (length (texts_of old) + length us) (length old.nodes.items + length ms) (node.List first count) ≡ true = le-leb (first + count) (length old.nodes.items + length ms) (omega (arith, at, many)) in
      let found : part first count (meanings (texts_of new) [] new.nodes.items) ≡ map (data_in old) ms = ap₂ (λ f k. part f k (meanings (texts_of new) [] new.nodes.items)) at many ∙ added_part in
      (keeps (node.List first count) within, ap (λ ds. array (items_of ds)) found)

  -- an object of texts and of nodes that are known
  pub object_added : (key first count : ℕ) → key ≡ length (texts_of old) → first ≡ length old.nodes.items → count ≡ length ms → count ≡ length us
      → Keeps old new (node.Object key first count ∷ []) × (data_in new (node.Object key first count) ≡ object (with_members us (map (data_in old) ms) no_members))
  unfolding data_in
  object_added key first count from at many paired =
      let keys_within : key + count ≤ length (texts_of old) + length us = omega (arith, from, paired) in
      let nodes_within : first + count ≤ length old.nodes.items + length ms = omega (arith, at, many) in
      let keys : part key count (texts_of new) ≡ us = ap₂ (λ f k. part f k (texts_of new)) from paired ∙ added_texts in
      let found : part first count (meanings (texts_of new) [] new.nodes.items) ≡ map (data_in old) ms = ap₂ (λ f k. part f k (meanings (texts_of new) [] new.nodes.items)) at many ∙ added_part in
      (keeps (node.Object key first count) (and_from _ _ (le-leb _ _ keys_within) (le-leb _ _ nodes_within)), ap₂ (λ ks ds. object (with_members ks ds no_members)) keys found)

get_pushed : {A : Type 0} (xs : List A) (x : A) → slice_get (xs ++ x ∷ []) (length xs) ≡ Some x
get_pushed [] x = refl
get_pushed (y ∷ xs) x = get_pushed xs x

-- a text
pub text_added : (old new : Store) (t : List ℕ) (place : ℕ) → is_ordered old ≡ true → texts_of new ≡ texts_of old ++ t ∷ [] → new.nodes.items ≡ old.nodes.items → place ≡ length (texts_of old)
    → Keeps old new (node.Text place ∷ []) × (data_in new (node.Text place) ≡ string t)
unfolding data_in are_known
text_added old new t place ordered texts nodes at =
    let more = nodes ∙ sym (append-nil old.nodes.items) in
    let within : is_within (length (texts_of old) + length (t ∷ [])) (length old.nodes.items + length {A = Node} []) (node.Text place) ≡ true = lt-ltb place (length (texts_of old) + length (t ∷ [])) (omega (arith, at)) in
    let found : slice_get (texts_of new) place ≡ Some t = ap₂ slice_get texts at ∙ get_pushed (texts_of old) t in
    (keeps old new (t ∷ []) [] ordered refl texts more (node.Text place) within, ap (λ o. option_map_or string o null) found)

-- ---- readings one after the other

pub keeps_nothing : (s : Store) → is_ordered s ≡ true → Keeps s s []
unfolding are_known
keeps_nothing s ordered = record { ordered = ordered; grown = same_tree s; known = refl }

-- a value that the tree needs no more for
pub keeps_leaf : (s : Store) (n : Node) → is_ordered s ≡ true → is_within 0 0 n ≡ true → Keeps s s (n ∷ [])
unfolding are_known is_known
keeps_leaf s n ordered within =
    let texts : 0 ≤ length (texts_of s) = omega arith in
    let nodes : 0 ≤ length s.nodes.items = omega arith in
    record { ordered = ordered; grown = same_tree s; known = and_from _ _ (is_within-more 0 (length (texts_of s)) 0 (length s.nodes.items) n texts nodes within) refl }

pub keeps_one_more : (a b c : Store) (found : List Node) (n : Node) → Keeps a b found → Keeps b c (n ∷ []) → Keeps a c (found ++ n ∷ [])
unfolding are_known
keeps_one_more a b c found n g h =
    record {
      ordered = h.ordered;
      grown = grown_twice a b c g.grown h.grown;
      known = list_all-append (is_known c) found (n ∷ []) ∙ and_from _ _ (are_known-grown b c found h.grown g.known) h.known;
    }

pub one_more_data : (b c : Store) (found : List Node) (n : Node) → is_ordered b ≡ true → are_known b found ≡ true → Keeps b c (n ∷ []) → map (data_in c) (found ++ n ∷ []) ≡ map (data_in b) found ++ data_in c n ∷ []
one_more_data b c found n ordered known h = map-append (data_in c) found (n ∷ []) ∙ ap (λ ds. ds ++ data_in c n ∷ []) (data_of_each-grown b c found ordered h.grown known)
