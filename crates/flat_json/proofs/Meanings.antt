-- What nodes mean stays as it is while texts and nodes are added behind them.
use Rattle.std.proofs.Common.{◌≡◌, ℕ, zero, suc, ◌+◌, ◌<◌, ◌≤◌, List, [], ◌∷◌, ◌++◌, length, map, take, drop, true, refl, sym, ap, ap₂, ◌∙◌, arith, length-drop}
use Rattle.std.specs.Prelude.{slice_get, nat_le}
use Rattle.std.specs.List.{list_all}
use Rattle.std.specs.Option.{option_map_or}
use Rattle.std.proofs.lemmas.Bool.{and_parts, and_from, ltb-true, lt-ltb, leb-true, le-leb}
use Rattle.std.proofs.lemmas.List.{append-nil, append_assoc, take-append-le, drop-append-le}
use Rattle.serde_json.specs.Data.{Data, null, string, array, object, no_members}
use Rattle.serde_json.specs.View.{items_of}
use Rattle.flat_json.specs.Nodes.{part, with_members, meaning, meanings, is_within, are_ordered}
use Rattle.flat_json.specs.declared.node.Node.{Node}
use Rattle.flat_json.specs.declared.node.Node.TheVariants as node

pub part-more : {A : Type 0} (first count : ℕ) (xs ys : List A) → first + count ≤ length xs → part first count (xs ++ ys) ≡ part first count xs
part-more first count xs ys h = ap (take count) (drop-append-le first xs ys (omega (arith, h))) ∙ take-append-le count (drop first xs) ys (omega (arith, h, length-drop first xs))

slice_get-more : {A : Type 0} (xs ys : List A) (i : ℕ) → i < length xs → slice_get (xs ++ ys) i ≡ slice_get xs i
slice_get-more [] ys i h = absurd (omega arith)
slice_get-more (x ∷ xs) ys zero h = refl
slice_get-more (x ∷ xs) ys (suc i) h = slice_get-more xs ys i (omega (arith, h))

-- a node means the same with more texts and more nodes
pub meaning-more : (ts us : List (List ℕ)) (before more : List Data) (n : Node) → is_within (length ts) (length before) n ≡ true → meaning (ts ++ us) (before ++ more) n ≡ meaning ts before n
meaning-more ts us before more node.Null h = refl
meaning-more ts us before more (node.Bool b) h = refl
meaning-more ts us before more (node.Whole w) h = refl
meaning-more ts us before more (node.Negative z) h = refl
meaning-more ts us before more (node.Float x) h = refl
meaning-more ts us before more (node.Text place) h = ap (λ t. option_map_or string t null) (slice_get-more ts us place (ltb-true _ _ h))
meaning-more ts us before more (node.List first count) h = ap (λ ds. array (items_of ds)) (part-more first count before more (leb-true _ _ h))
meaning-more ts us before more (node.Object key first count) h =
    let p = and_parts _ _ h in
    ap₂ (λ ks ds. object (with_members ks ds no_members)) (part-more key count ts us (leb-true _ _ p.0)) (part-more first count before more (leb-true _ _ p.1))

meaning-texts : (ts us : List (List ℕ)) (before : List Data) (n : Node) → is_within (length ts) (length before) n ≡ true → meaning (ts ++ us) before n ≡ meaning ts before n
meaning-texts ts us before n h = ap (λ b. meaning (ts ++ us) b n) (sym (append-nil before)) ∙ meaning-more ts us before [] n h

meaning-nodes : (ts : List (List ℕ)) (before more : List Data) (n : Node) → is_within (length ts) (length before) n ≡ true → meaning ts (before ++ more) n ≡ meaning ts before n
meaning-nodes ts before more n h = ap (λ t. meaning t (before ++ more) n) (sym (append-nil ts)) ∙ meaning-more ts [] before more n h

pushed : {A : Type 0} (xs : List A) (x : A) → length (xs ++ x ∷ []) ≡ suc (length xs)
pushed [] x = refl
pushed (y ∷ xs) x = ap suc (pushed xs x)

meanings-append : (ts : List (List ℕ)) (before : List Data) (xs ys : List Node) → meanings ts before (xs ++ ys) ≡ meanings ts (meanings ts before xs) ys
meanings-append ts before [] ys = refl
meanings-append ts before (x ∷ xs) ys = meanings-append ts (before ++ meaning ts before x ∷ []) xs ys

length-meanings : (ts : List (List ℕ)) (before : List Data) (xs : List Node) → length (meanings ts before xs) ≡ length before + length xs
length-meanings ts before [] = omega arith
length-meanings ts before (x ∷ xs) =
    let d = meaning ts before x in
    let rest = length-meanings ts (before ++ d ∷ []) xs in
    omega (arith, rest, pushed before d)

pub length-all : (ts : List (List ℕ)) (ns : List Node) → length (meanings ts [] ns) ≡ length ns
length-all ts ns = let all = length-meanings ts [] ns in omega (arith, all)

meanings-front : (ts : List (List ℕ)) (before : List Data) (xs : List Node) → (more : List Data) × (meanings ts before xs ≡ before ++ more)
meanings-front ts before [] = ([], sym (append-nil before))
meanings-front ts before (x ∷ xs) =
    let d = meaning ts before x in
    let rest = meanings-front ts (before ++ d ∷ []) xs in
    (d ∷ rest.0, rest.1 ∙ append_assoc before (d ∷ []) rest.0)

ordered-rest : (ts : List (List ℕ)) (before : List Data) (d : Data) (xs : List Node) → are_ordered (length ts) (suc (length before)) xs ≡ true → are_ordered (length ts) (length (before ++ d ∷ [])) xs ≡ true
ordered-rest ts before d xs h = ap (λ k. are_ordered (length ts) k xs) (pushed before d) ∙ h

meanings-texts : (ts us : List (List ℕ)) (before : List Data) (xs : List Node) → are_ordered (length ts) (length before) xs ≡ true → meanings (ts ++ us) before xs ≡ meanings ts before xs
meanings-texts ts us before [] h = refl
meanings-texts ts us before (x ∷ xs) h =
    let p = and_parts _ _ h in
    let d = meaning ts before x in
    ap (λ e. meanings (ts ++ us) (before ++ e ∷ []) xs) (meaning-texts ts us before x p.0) ∙ meanings-texts ts us (before ++ d ∷ []) xs (ordered-rest ts before d xs p.1)

-- each node means what it means to them all
pub meanings-each : (ts : List (List ℕ)) (before : List Data) (xs : List Node) → are_ordered (length ts) (length before) xs ≡ true → meanings ts before xs ≡ before ++ map (meaning ts (meanings ts before xs)) xs
meanings-each ts before [] h = sym (append-nil before)
meanings-each ts before (x ∷ xs) h =
    let p = and_parts _ _ h in
    let d = meaning ts before x in
    let all = meanings ts (before ++ d ∷ []) xs in
    let front = meanings-front ts before (x ∷ xs) in
    let same : meaning ts all x ≡ d = ap (λ b. meaning ts b x) front.1 ∙ meaning-nodes ts before front.0 x p.0 in
    meanings-each ts (before ++ d ∷ []) xs (ordered-rest ts before d xs p.1) ∙ append_assoc before (d ∷ []) (map (meaning ts all) xs) ∙ ap (λ e. before ++ e ∷ map (meaning ts all) xs) (sym same)

-- a node means the same as the tree grows
pub meaning-grown : (ts us : List (List ℕ)) (ns ms : List Node) (n : Node) → are_ordered (length ts) 0 ns ≡ true → is_within (length ts) (length ns) n ≡ true
    → meaning (ts ++ us) (meanings (ts ++ us) [] (ns ++ ms)) n ≡ meaning ts (meanings ts [] ns) n
meaning-grown ts us ns ms n ordered within =
    let all = meanings ts [] ns in
    let split = meanings-append (ts ++ us) [] ns ms ∙ ap (λ b. meanings (ts ++ us) b ms) (meanings-texts ts us [] ns ordered) in
    let front = meanings-front (ts ++ us) all ms in
    ap (λ b. meaning (ts ++ us) b n) (split ∙ front.1) ∙ meaning-more ts us all front.0 n (ap (λ k. is_within (length ts) k n) (length-all ts ns) ∙ within)

added : (ts us : List (List ℕ)) (before more : List Data) (ys : List Node) → list_all (is_within (length ts) (length before)) ys ≡ true → meanings (ts ++ us) (before ++ more) ys ≡ (before ++ more) ++ map (meaning ts before) ys
added ts us before more [] h = sym (append-nil (before ++ more))
added ts us before more (y ∷ ys) h =
    let p = and_parts _ _ h in
    let d = meaning ts before y in
    let rest = map (meaning ts before) ys in
    ap (λ e. meanings (ts ++ us) ((before ++ more) ++ e ∷ []) ys) (meaning-more ts us before more y p.0) ∙ ap (λ b. meanings (ts ++ us) b ys) (append_assoc before more (d ∷ []))
    ∙ added ts us before (more ++ d ∷ []) ys p.1 ∙ ap (λ b. b ++ rest) (sym (append_assoc before more (d ∷ []))) ∙ append_assoc (before ++ more) (d ∷ []) rest

-- nodes that speak only of what was there stand behind the others with what they mean to those
pub meanings-added : (ts us : List (List ℕ)) (ns ms : List Node) → are_ordered (length ts) 0 ns ≡ true → list_all (is_within (length ts) (length ns)) ms ≡ true
    → meanings (ts ++ us) [] (ns ++ ms) ≡ meanings ts [] ns ++ map (meaning ts (meanings ts [] ns)) ms
meanings-added ts us ns ms ordered within =
    let all = meanings ts [] ns in
    let within_all = ap (λ k. list_all (is_within (length ts) k) ms) (length-all ts ns) ∙ within in
    meanings-append (ts ++ us) [] ns ms ∙ ap (λ b. meanings (ts ++ us) b ms) (meanings-texts ts us [] ns ordered ∙ sym (append-nil all))
    ∙ added ts us all [] ms within_all ∙ ap (λ b. b ++ map (meaning ts all) ms) (append-nil all)

-- ---- what nodes speak of

pub is_within-more : (t u k l : ℕ) (n : Node) → t ≤ u → k ≤ l → is_within t k n ≡ true → is_within u l n ≡ true
is_within-more t u k l node.Null more_texts more_nodes h = refl
is_within-more t u k l (node.Bool b) more_texts more_nodes h = refl
is_within-more t u k l (node.Whole w) more_texts more_nodes h = refl
is_within-more t u k l (node.Negative z) more_texts more_nodes h = refl
is_within-more t u k l (node.Float x) more_texts more_nodes h = refl
is_within-more t u k l (node.Text place) more_texts more_nodes h = let below = ltb-true _ _ h in lt-ltb place u (omega (arith, below, more_texts))
is_within-more t u k l (node.List first count) more_texts more_nodes h = let below = leb-true _ _ h in le-leb (first + count) l (omega (arith, below, more_nodes))
is_within-more t u k l (node.Object key first count) more_texts more_nodes h =
    let p = and_parts _ _ h in
    let keys = leb-true (key + count) t p.0 in
    let nodes = leb-true (first + count) k p.1 in
    and_from (nat_le (key + count) u) (nat_le (first + count) l) (le-leb (key + count) u (omega (arith, keys, more_texts))) (le-leb (first + count) l (omega (arith, nodes, more_nodes)))

pub are_ordered-texts : (t u k : ℕ) (xs : List Node) → t ≤ u → are_ordered t k xs ≡ true → are_ordered u k xs ≡ true
are_ordered-texts t u k [] more h = refl
are_ordered-texts t u k (x ∷ xs) more h =
    let p = and_parts (is_within t k x) (are_ordered t (suc k) xs) h in
    let same : k ≤ k = omega arith in
    and_from _ _ (is_within-more t u k k x more same p.0) (are_ordered-texts t u (suc k) xs more p.1)

pub are_ordered-known : (t k l : ℕ) (xs : List Node) → k ≤ l → list_all (is_within t k) xs ≡ true → are_ordered t l xs ≡ true
are_ordered-known t k l [] more h = refl
are_ordered-known t k l (x ∷ xs) more h =
    let p = and_parts (is_within t k x) (list_all (is_within t k) xs) h in
    let same : t ≤ t = omega arith in
    let next : k ≤ suc l = omega (arith, more) in
    and_from _ _ (is_within-more t t k l x same more p.0) (are_ordered-known t k (suc l) xs next p.1)

pub are_ordered-append : (t k : ℕ) (xs ys : List Node) → are_ordered t k xs ≡ true → are_ordered t (k + length xs) ys ≡ true → are_ordered t k (xs ++ ys) ≡ true
are_ordered-append t k [] ys h rest = let none : k + 0 ≡ k = omega arith in ap (λ j. are_ordered t j ys) (sym none) ∙ rest
are_ordered-append t k (x ∷ xs) ys h rest =
    let p = and_parts (is_within t k x) (are_ordered t (suc k) xs) h in
    let next : k + suc (length xs) ≡ suc k + length xs = omega arith in
    and_from _ _ p.0 (are_ordered-append t (suc k) xs ys p.1 (ap (λ j. are_ordered t j ys) (sym next) ∙ rest))
