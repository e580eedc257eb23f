-- The evidence that is written is read again.
use Rattle.std.proofs.Common.{◌≡◌, ℕ, ◌<◌, ◌≤◌, Bool, true, false, ◌||◌, nat_lt, List, [], ◌∷◌, ◌++◌, length, map, Some, Ok, codes, inl, inr, refl}
use Rattle.std.specs.List.{AllByRecursion}
use Rattle.std.proofs.lemmas.Bool.{and_from, le-leb, lt-ltb, eq-eqb}
use Rattle.std.proofs.lemmas.List.{length-map}
use Rattle.serde_json.specs.Data.{object, Members, string}
use Rattle.serde_json.specs.Find.{get_member}
use Rattle.net_base.specs.declared.field.Field.{Field}
use Rattle.net_base.specs.declared.field.Field.TheVariants.{Befores, Uses}
use Rattle.net_base.specs.declared.ids.Vlan.{Vlan}
use Rattle.net_base.specs.declared.ids.Vlan.TheVariants as vlan
use Rattle.net_base.specs.Reading.{place_of}
use Rattle.flat_json.proofs.JsonTree.{list_of-items_of}
use Rattle.topology.specs.Networks.{Network, switch_count, IsVlan}
use Rattle.config_files.specs.RuleTrees.{whole_tree, list_tree}
use Rattle.certificates.specs.declared.Shared.{Shared}
use Rattle.certificates.specs.declared.OrderedPick.{OrderedPick}
use Rattle.certificates.specs.declared.Label.{Label}
use Rattle.certificates.specs.declared.LabelPick.{LabelPick}
use Rattle.certificates.specs.Valid.{IsChain, IsPickBefore, IsVlanBefore, IsValidNumbering, IsValidBefore, IsValidUse, IsValidPick, IsValidTable, IsValidLabelPick}
use Rattle.plan_format.specs.Evidence.{number_at, all_below, numbers_in, is_round, is_index, height_at, numbering_in, numbering_at, numberings_in, before_at, befores_in, shared_in, use_at, uses_in, pick_before, picks_with, pick_at, picks_in, vlan_in, version_in, vlan_before, label_before, label_at, table_in, table_at, labels_in, label_picks_with, label_pick_at, label_picks_in, follows}
use Rattle.plan_text.specs.PlanText.{numbers_tree, use_tree, pick_tree, vlan_tree, version_text, label_tree, table_tree, label_pick_tree}
use Rattle.plan_text.proofs.InTurn.{each_again, chain_again, ascends_again, below_again}

-- ---- lists of numbers

number_again : (field : Field) (place : ℕ) (before : List ℕ) (n : ℕ) → number_at field place before (whole_tree n) ≡ Ok (before ++ n ∷ [])
unfolding number_at
number_again field place before n = refl

numbers_again : (P : ℕ → Type 0) (field : Field) (place : ℕ) (ns : List ℕ) → AllByRecursion P ns → numbers_in field place (numbers_tree ns) ≡ Ok ns
unfolding numbers_in
numbers_again P field place ns hs =
    rw (list_of-items_of (map whole_tree ns)) (each_again (λ i. number_at field place) whole_tree P (λ i before n h. number_again field place before n) ns hs)

-- ---- numberings and before sets

height_again : (place : ℕ) (before : List ℕ) (n : ℕ) → n ≤ 65535 → height_at place before (whole_tree n) ≡ Ok (before ++ n ∷ [])
unfolding height_at
height_again place before n le = rw (le-leb n 65535 le) refl

numbering_again : (net : Network) (place : ℕ) (ns : List ℕ) → IsValidNumbering net ns → numbering_in net place (numbers_tree ns) ≡ Ok ns
unfolding numbering_in
numbering_again net place ns h =
    rw (list_of-items_of (map whole_tree ns), length-map ns whole_tree, eq-eqb (length ns) (switch_count net) h.0)
    (each_again (λ i. height_at place) whole_tree (λ x. x ≤ 65535) (λ i before n le. height_again place before n le) ns h.1)

next_numbering : (net : Network) (place : ℕ) (before : List (List ℕ)) (ns : List ℕ) → IsValidNumbering net ns → numbering_at net place before (numbers_tree ns) ≡ Ok (before ++ ns ∷ [])
unfolding numbering_at
next_numbering net place before ns h = rw (numbering_again net place ns h) refl

pub numberings_again : (net : Network) (ms : Members) (numberings : List (List ℕ)) → get_member (codes "numberings") ms ≡ Some (list_tree (map numbers_tree numberings))
    → AllByRecursion (IsValidNumbering net) numberings → numberings_in net (object ms) ≡ Ok numberings
unfolding numberings_in
numberings_again net ms numberings at hs =
    rw (at, list_of-items_of (map numbers_tree numberings)) (each_again (numbering_at net) numbers_tree (IsValidNumbering net) (λ i. next_numbering net (place_of i)) numberings hs)

less : (m n : ℕ) → m < n → nat_lt m n ≡ true
less m n lt = lt-ltb m n lt

next_before : (net : Network) (place : ℕ) (before : List (List ℕ)) (ns : List ℕ) → IsValidBefore net ns → before_at net place before (numbers_tree ns) ≡ Ok (before ++ ns ∷ [])
unfolding before_at all_below
next_before net place before ns h =
    rw (numbers_again _ Befores place ns h.0, below_again (switch_count net) ns h.0, ascends_again (λ m n. m < n) nat_lt less ns h.1) refl

pub befores_again : (net : Network) (ms : Members) (befores : List (List ℕ)) → get_member (codes "befores") ms ≡ Some (list_tree (map numbers_tree befores))
    → AllByRecursion (IsValidBefore net) befores → befores_in net (object ms) ≡ Ok befores
unfolding befores_in
befores_again net ms befores at hs =
    rw (at, list_of-items_of (map numbers_tree befores)) (each_again (before_at net) numbers_tree (IsValidBefore net) (λ i. next_before net (place_of i)) befores hs)

-- ---- uses and picks

index_again : (count n : ℕ) → n < count → n ≤ 4294967295 → is_index count n ≡ true
index_again count n lt le = and_from _ _ (lt-ltb n count lt) (le-leb n 4294967295 le)

round_again : (rounds n : ℕ) → 1 ≤ n → n ≤ rounds → is_round rounds n ≡ true
round_again rounds n low high = and_from _ _ (le-leb 1 n low) (le-leb n rounds high)

next_use : (numberings befores place : ℕ) (before : List Shared) (u : Shared) → IsValidUse numberings befores u → use_at numberings befores place before (use_tree u) ≡ Ok (before ++ u ∷ [])
unfolding use_at shared_in all_below
next_use numberings befores place before u h =
    rw (numbers_again _ Uses place u.befores h.2, index_again numberings u.numbering h.0 h.1, below_again befores u.befores h.2) refl

pub uses_again : (numberings befores : ℕ) (ms : Members) (uses : List Shared) → get_member (codes "uses") ms ≡ Some (list_tree (map use_tree uses))
    → AllByRecursion (IsValidUse numberings befores) uses → uses_in numberings befores (object ms) ≡ Ok uses
unfolding uses_in
uses_again numberings befores ms uses at hs =
    rw (at, list_of-items_of (map use_tree uses))
    (each_again (use_at numberings befores) use_tree (IsValidUse numberings befores) (λ i. next_use numberings befores (place_of i)) uses hs)

either_true : (b : Bool) → (b || true) ≡ true
either_true true = refl
either_true false = refl

pick_order : (p q : OrderedPick) → IsPickBefore p q → pick_before p q ≡ true
pick_order p q (inl lt) = rw (lt-ltb p.round q.round lt) refl
pick_order p q (inr h) = rw (eq-eqb p.round q.round h.0, lt-ltb p.class q.class h.1) (either_true (nat_lt p.round q.round))

next_pick : (rounds uses place : ℕ) (before : List OrderedPick) (p : OrderedPick) → IsValidPick rounds uses p → follows pick_before before p ≡ true
    → pick_at rounds uses place before (pick_tree p) ≡ Ok (before ++ p ∷ [])
unfolding pick_at picks_with
next_pick rounds uses place before p h f = rw (round_again rounds p.round h.0 h.1, le-leb p.class 8191 h.2, index_again uses p.shared h.3 h.4, f) refl

pub picks_again : (rounds uses : ℕ) (ms : Members) (picks : List OrderedPick) → get_member (codes "picks") ms ≡ Some (list_tree (map pick_tree picks))
    → AllByRecursion (IsValidPick rounds uses) picks → IsChain IsPickBefore picks → picks_in rounds uses (object ms) ≡ Ok picks
unfolding picks_in
picks_again rounds uses ms picks at hs c =
    rw (at, list_of-items_of (map pick_tree picks))
    (chain_again (pick_at rounds uses) pick_tree (IsValidPick rounds uses) IsPickBefore pick_before pick_order (λ i. next_pick rounds uses (place_of i)) 0 [] picks hs c)

-- ---- label tables and their picks

vlan_again : (v : Vlan) → IsVlan v → vlan_in (vlan_tree v) ≡ Some v
vlan_again vlan.Untagged h = refl
vlan_again (vlan.Id id) h = rw (le-leb 1 id h.0, le-leb id 4094 h.1) refl

version_again : (new : Bool) → version_in (string (version_text new)) ≡ Some new
version_again true = refl
version_again false = refl

next_label : (place : ℕ) (before : List Label) (l : Label) → IsVlan l.vlan × IsVlan l.user → label_at place before (label_tree l) ≡ Ok (before ++ l ∷ [])
unfolding label_at
next_label place before l h = rw (vlan_again l.vlan h.0, version_again l.new, vlan_again l.user h.1) refl

vlan_order : (v w : Vlan) → IsVlanBefore v w → vlan_before v w ≡ true
vlan_order vlan.Untagged vlan.Untagged h = absurd h
vlan_order vlan.Untagged (vlan.Id b) h = refl
vlan_order (vlan.Id a) vlan.Untagged h = absurd h
vlan_order (vlan.Id a) (vlan.Id b) h = lt-ltb a b h

label_order : (a b : Label) → IsVlanBefore a.vlan b.vlan → label_before a b ≡ true
label_order a b h = vlan_order a.vlan b.vlan h

next_table : (place : ℕ) (before : List (List Label)) (t : List Label) → IsValidTable t → table_at place before (table_tree t) ≡ Ok (before ++ t ∷ [])
unfolding table_at table_in
next_table place before t h =
    rw (
      list_of-items_of (map label_tree t),
      each_again (λ i. label_at place) label_tree (λ l. IsVlan l.vlan × IsVlan l.user) (λ i. next_label place) t h.0,
      ascends_again (λ a b. IsVlanBefore a.vlan b.vlan) label_before label_order t h.1,
    ) refl

pub labels_again : (ms : Members) (tables : List (List Label)) → get_member (codes "labels") ms ≡ Some (list_tree (map table_tree tables))
    → AllByRecursion IsValidTable tables → labels_in (object ms) ≡ Ok tables
unfolding labels_in
labels_again ms tables at hs = rw (at, list_of-items_of (map table_tree tables)) (each_again table_at table_tree IsValidTable (λ i. next_table (place_of i)) tables hs)

next_label_pick : (rounds tables place : ℕ) (before : List LabelPick) (p : LabelPick) → IsValidLabelPick rounds tables p → follows (λ p q. nat_lt p.round q.round) before p ≡ true
    → label_pick_at rounds tables place before (label_pick_tree p) ≡ Ok (before ++ p ∷ [])
unfolding label_pick_at label_picks_with
next_label_pick rounds tables place before p h f = rw (round_again rounds p.round h.0 h.1, index_again tables p.labels h.2 h.3, f) refl

pub label_picks_again : (rounds tables : ℕ) (ms : Members) (picks : List LabelPick) → get_member (codes "picks") ms ≡ Some (list_tree (map label_pick_tree picks))
    → AllByRecursion (IsValidLabelPick rounds tables) picks → IsChain (λ p q. p.round < q.round) picks → label_picks_in rounds tables (object ms) ≡ Ok picks
unfolding label_picks_in
label_picks_again rounds tables ms picks at hs c =
    rw (at, list_of-items_of (map label_pick_tree picks))
    (chain_again (label_pick_at rounds tables) label_pick_tree (IsValidLabelPick rounds tables) (λ p q. p.round < q.round) (λ p q. nat_lt p.round q.round) (λ p q lt. less p.round q.round lt)
    (λ i. next_label_pick rounds tables (place_of i)) 0 [] picks hs c)
