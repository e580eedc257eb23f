-- The switches as the code holds them, by name.
use Rattle.std.proofs.Common.{◌≡◌, ℕ, zero, suc, ◌+◌, ◌<◌, Bool, true, false, cond, not, List, [], ◌∷◌, ◌++◌, map, length, get_or, Option, Some, None, is_some, position, String, string_bytes, Global, refl, sym, ap, ◌∙◌, subst, arith}
use Rattle.std.specs.Prelude.{nat_lt, string_eq}
use Rattle.std.specs.Str.{bytes_eq}
use Rattle.std.specs.List.{position_or_len}
use Rattle.std.specs.Map.{lookup}
use Rattle.std.proofs.lemmas.Bool.{false_from_ne_true, lt-ltb, ltb-true}
use Rattle.std.proofs.lemmas.List.{length-map, map_push}
use Rattle.std.proofs.lemmas.Option.{cond_some}
use Rattle.std.proofs.lemmas.Slice.Eq.{bytes_eq-Decides}
use Rattle.indexmap.specs.IndexMap.{IndexMap, keys, get, insert_entry}
use Rattle.indexmap.proofs.MapLemmas.{some_index}
use Rattle.indexmap.proofs.CallerLemmas.{insert_entry-new}
use Rattle.std.specs.declared.hash.FoldHasher.{FoldHasher}
use Rattle.std.specs.declared.hash.BuildHasherDefault.{BuildHasherDefault}
use Rattle.net_base.specs.Members.{IsIn, IsDistinct}
use Rattle.net_base.proofs.ItemLaws.{in_at}
use Rattle.topology.specs.Named.{Named, named_entries}
use Rattle.topology.specs.Networks.{switch_named}

position_or_len-map : {X Y : Type 0} (p : Y → Bool) (f : X → Y) (xs : List X) → position_or_len p (map f xs) ≡ position_or_len (λ x. p (f x)) xs
position_or_len-map p f [] = refl
position_or_len-map p f (x ∷ xs) = ap (λ n. cond (not (p (f x))) (1 + n) 0) (position_or_len-map p f xs)

position-map : {X Y : Type 0} (p : Y → Bool) (f : X → Y) (xs : List X) → position p (map f xs) ≡ position (λ x. p (f x)) xs
position-map p f xs = rw (position_or_len-map p f xs, length-map) refl

abbrev Switches : Type 0
Switches = IndexMap (String Global) ℕ (BuildHasherDefault FoldHasher)

abbrev Entry : Type 0
Entry = String Global × ℕ

abbrev is_named : List ℕ → String Global → Bool
is_named name k = bytes_eq name (string_bytes k)

-- what a look-up of the index gives
pub found_named : (m : Switches) (name : List ℕ) → position (is_named name) (keys m) ≡ switch_named (named_entries m).names name
found_named m name = position-map (is_named name) (λ (e : Entry). e.0) m.entries ∙ sym (position-map (λ n. bytes_eq name n) (λ (e : Entry). string_bytes e.0) m.entries)

none_from : {A : Type 0} (o : Option A) → is_some o ≡ false → o ≡ None
none_from None e = refl
none_from (Some x) e = absurd cc

-- with one switch more
abbrev grown : Named → List ℕ → ℕ → Named
grown n name capacity = record { names = n.names ++ name ∷ []; capacities = n.capacities ++ capacity ∷ [] }

-- a new name goes last
pub added_named : (m n : Switches) (k : String Global) (v : ℕ) (name : List ℕ) → string_bytes k ≡ name → switch_named (named_entries m).names name ≡ None
    → n.entries ≡ insert_entry string_eq m.entries k v → named_entries n ≡ grown (named_entries m) name v
added_named m n k v name same new e =
    let nowhere : position (is_named name) (keys m) ≡ None = found_named m name ∙ new in
    let absent : lookup (is_named name) m.entries ≡ None = none_from (lookup (is_named name) m.entries) (sym (some_index (is_named name) m.entries) ∙ ap is_some nowhere) in
    let absent_key : get string_eq m k ≡ None = rw (← same) at absent in
    let entries : n.entries ≡ m.entries ++ (k, v) ∷ [] = e ∙ insert_entry-new string_eq m k v absent_key in
    let names : (named_entries n).names ≡ (named_entries m).names ++ string_bytes k ∷ [] = ap (map (λ (e : Entry). string_bytes e.0)) entries ∙ map_push _ m.entries (k, v) in
    let capacities : (named_entries n).capacities ≡ (named_entries m).capacities ++ v ∷ [] = ap (map (λ (e : Entry). e.1)) entries ∙ map_push _ m.entries (k, v) in
    ap (λ (xs : List (List ℕ)). let r : Named = record { names = xs; capacities = (named_entries n).capacities } in r) (names ∙ ap (λ (b : List ℕ). (named_entries m).names ++ b ∷ []) same)
    ∙ ap (λ (xs : List ℕ). let r : Named = record { names = (named_entries m).names ++ name ∷ []; capacities = xs } in r) capacities

-- ---- a switch is found by its name

pub same_bytes : (s : List ℕ) → bytes_eq s s ≡ true
same_bytes s = (bytes_eq-Decides s s).1 refl

pub named_at : (names : List (List ℕ)) (n : ℕ) → IsDistinct names → n < length names → position_or_len (λ m. bytes_eq (get_or names n []) m) names ≡ n
named_at [] n distinct lt = absurd (omega arith)
named_at (x ∷ xs) zero distinct lt = rw (same_bytes x) refl
named_at (x ∷ xs) (suc n) distinct lt =
    let name : List ℕ = get_or xs n [] in
    let other : bytes_eq name x ≡ false = false_from_ne_true (bytes_eq name x) (λ e. distinct.0 (subst (λ m. IsIn m xs) ((bytes_eq-Decides name x).0 e) (in_at xs n [] (omega arith)))) in
    rw (other, named_at xs n distinct.1 (omega arith)) (omega arith)

pub named_again : (names : List (List ℕ)) (n : ℕ) → IsDistinct names → n < length names → switch_named names (get_or names n []) ≡ Some n
named_again names n distinct lt = rw (named_at names n distinct lt, lt-ltb n (length names) lt) refl

-- and has a number below their count
pub named_within : (names : List (List ℕ)) (name : List ℕ) (s : ℕ) → switch_named names name ≡ Some s → s < length names
named_within names name s e =
    let place : ℕ = position_or_len (λ n. bytes_eq name n) names in
    let found = cond_some (nat_lt place (length names)) place s e in
    subst (λ (k : ℕ). k < length names) found.1 (ltb-true place (length names) found.0)
