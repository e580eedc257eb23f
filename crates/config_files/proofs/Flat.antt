-- Trees without floats that aren't deep.
use Rattle.std.proofs.Common.{◌≡◌, ℕ, suc, ◌≤◌, false, List, [], ◌∷◌, map, codes, Option, Some, None, Ordering, Less, Equal, Greater, nat_cmp, refl, arith}
use Rattle.std.specs.List.{AllByRecursion}
use Rattle.std.specs.Cmp.Lexicographic.{slice_cmp}
use Rattle.std.specs.Ordering.{match_ordering}
use Rattle.serde_json.specs.Data.{Data, string, object, Members, no_members, member, put, depth, items_depth, members_depth}
use Rattle.serde_json.specs.Written.{has_float, items_have_float, members_have_float}
use Rattle.serde_json.specs.View.{items_of}
use Rattle.net_base.specs.Text.{prefix_text}
use Rattle.net_base.specs.declared.ids.Port.{Port}
use Rattle.flow_rules.specs.declared.rules.VlanTest.{VlanTest}
use Rattle.flow_rules.specs.declared.rules.VlanTest.TheVariants as test
use Rattle.flow_rules.specs.declared.rules.Action.{Action}
use Rattle.flow_rules.specs.declared.rules.Action.TheVariants.{Discard, Out}
use Rattle.flow_rules.specs.declared.rules.Rule.{Rule}
use Rattle.config_files.specs.RuleTrees.{whole_tree, list_tree, put_some, in_port_tree, test_tree, out_tree, fixed_members}

-- it has no float, and no list or object stands deeper in it
pub record IsFlat (n : ℕ) (d : Data) : Type 0 where
  pub no_float : has_float d ≡ false
  pub shallow : depth d ≤ n

abbrev pub AreFlat : ℕ → Members → Type 0
AreFlat n no_members = Unit {0}
AreFlat n (member k d ms) = IsFlat n d × AreFlat n ms

abbrev pub IsFlatMember : ℕ → Option Data → Type 0
IsFlatMember n None = Unit {0}
IsFlatMember n (Some d) = IsFlat n d

chosen : (n : ℕ) (o : Ordering) (a b c : Members) → AreFlat n a → AreFlat n b → AreFlat n c → AreFlat n (match_ordering o a b c)
chosen n Less a b c ha hb hc = ha
chosen n Equal a b c ha hb hc = hb
chosen n Greater a b c ha hb hc = hc

pub put_flat : (n : ℕ) (k : List ℕ) (d : Data) (ms : Members) → IsFlat n d → AreFlat n ms → AreFlat n (put k d ms)
put_flat n k d no_members h hs = (h, tt)
put_flat n k d (member l e ms) h hs = chosen n (slice_cmp nat_cmp k l) _ _ _ (h, hs) (h, hs.1) (hs.0, put_flat n k d ms h hs.1)

pub put_some_flat : (n : ℕ) (k : List ℕ) (o : Option Data) (ms : Members) → IsFlatMember n o → AreFlat n ms → AreFlat n (put_some k o ms)
put_some_flat n k None ms h hs = hs
put_some_flat n k (Some d) ms h hs = put_flat n k d ms h hs

members_flat : (n : ℕ) (ms : Members) → AreFlat n ms → (members_have_float ms ≡ false) × (members_depth ms ≤ n)
members_flat n no_members hs = (refl, omega arith)
members_flat n (member k d ms) hs =
    let first = hs.0 in
    let rest = members_flat n ms hs.1 in
    (rw (first.no_float, rest.0) refl, omega (arith, first.shallow, rest.1))

pub object_flat : (n : ℕ) (ms : Members) → AreFlat n ms → IsFlat (suc n) (object ms)
object_flat n ms hs = let h = members_flat n ms hs in record { no_float = h.0; shallow = omega (arith, h.1) }

items_flat : (n : ℕ) (ds : List Data) → AllByRecursion (IsFlat n) ds → (items_have_float (items_of ds) ≡ false) × (items_depth (items_of ds) ≤ n)
items_flat n [] hs = (refl, omega arith)
items_flat n (d ∷ ds) hs =
    let first = hs.0 in
    let rest = items_flat n ds hs.1 in
    (rw (first.no_float, rest.0) refl, omega (arith, first.shallow, rest.1))

pub list_flat : (n : ℕ) (ds : List Data) → AllByRecursion (IsFlat n) ds → IsFlat (suc n) (list_tree ds)
list_flat n ds hs = let h = items_flat n ds hs in record { no_float = h.0; shallow = omega (arith, h.1) }

pub each_flat : {X : Type 0} (n : ℕ) (tree : X → Data) (xs : List X) → ((x : X) → IsFlat n (tree x)) → AllByRecursion (IsFlat n) (map tree xs)
each_flat n tree [] each = tt
each_flat n tree (x ∷ xs) each = (each x, each_flat n tree xs each)

pub map_flat : {X : Type 0} (n : ℕ) (tree : X → Data) (xs : List X) → ((x : X) → IsFlat n (tree x)) → IsFlat (suc n) (list_tree (map tree xs))
map_flat n tree xs each = list_flat n (map tree xs) (each_flat n tree xs each)

pub deeper : (m n : ℕ) (d : Data) → m ≤ n → IsFlat m d → IsFlat n d
deeper m n d le h = record { no_float = h.no_float; shallow = omega (arith, h.shallow) }

pub whole_flat : (n m : ℕ) → IsFlat n (whole_tree m)
whole_flat n m = record { no_float = refl; shallow = omega arith }

pub text_flat : (n : ℕ) (s : List ℕ) → IsFlat n (string s)
text_flat n s = record { no_float = refl; shallow = omega arith }

pub in_port_flat : (p : Option Port) → IsFlatMember 0 (in_port_tree p)
in_port_flat None = tt
in_port_flat (Some p) = whole_flat 0 p.0

pub test_flat : (t : VlanTest) → IsFlatMember 0 (test_tree t)
test_flat test.Any = tt
test_flat test.Untagged = text_flat 0 (codes "untagged")
test_flat (test.Id id) = whole_flat 0 id

pub out_flat : (a : Action) → IsFlat 0 (out_tree a)
out_flat Discard = text_flat 0 (codes "drop")
out_flat (Out port rewrite) = whole_flat 0 port.0

-- ---- the members that each rule has

abbrev dst_members : Rule → Members
dst_members r = put (codes "dst") (string (prefix_text r.key.pattern.dst)) no_members

abbrev out_members : Rule → Members
out_members r = put (codes "out") (out_tree r.action) (dst_members r)

abbrev priority_members : Rule → Members
priority_members r = put (codes "priority") (whole_tree r.key.priority) (out_members r)

priority_flat : (r : Rule) → AreFlat 0 (priority_members r)
priority_flat r =
    put_flat 0 (codes "priority") (whole_tree r.key.priority) (out_members r) (whole_flat 0 r.key.priority)
    (put_flat 0 (codes "out") (out_tree r.action) (dst_members r) (out_flat r.action)
    (put_flat 0 (codes "dst") (string (prefix_text r.key.pattern.dst)) no_members (text_flat 0 (prefix_text r.key.pattern.dst)) tt))

pub fixed_flat : (name : List ℕ) (r : Rule) → AreFlat 0 (fixed_members name r)
fixed_flat name r = put_flat 0 (codes "switch") (string name) (priority_members r) (text_flat 0 name) (priority_flat r)
