-- Nodes are told apart by what they are, and each stands once.
use Rattle.std.proofs.Common.{◌≡◌, ◌↔◌, ◌⊎◌, ℕ, zero, suc, ◌<◌, ◌&&◌, Bool, true, false, List, [], ◌∷◌, ◌++◌, length, refl, sym, ◌∙◌, subst, ap, inl, inr, arith}
use Rattle.std.specs.Prelude.{slice_get, Option, Some, None, is_some, ◌==◌, IsTrue}
use Rattle.std.specs.Map.{lookup}
use Rattle.std.specs.Cmp.Derive.{both_true}
use Rattle.std.proofs.lemmas.Bool.{eqb-true, eq-eqb, false≢true}
use Rattle.std.proofs.lemmas.Map.Made.{is_some-lookup}
use Rattle.indexmap.specs.IndexMap.{IndexMap, insert_entry}
use Rattle.indexmap.proofs.CallerLemmas.{insert_entry-new}
use Rattle.net_base.specs.Members.{IsIn}
use Rattle.net_base.proofs.ListLaws.{any_in, in_from_any}
use Rattle.net_base.specs.declared.ids.Vlan.{Vlan}
use Rattle.net_base.specs.declared.ids.Vlan.TheVariants as vlan
use Rattle.net_base.specs.contracts.ids.VlanPartialEq.TheImpl as vlan_impl
use Rattle.breaking_walks.specs.Trails.{nodes_of, AreLedByEarlier}
use Rattle.breaking_walks.specs.declared.trail.Node.{Node}
use Rattle.breaking_walks.specs.contracts.trail.NodePartialEq.TheImpl as node_impl

abbrev Found : Type 0
Found = Node × ℕ

abbrev pub vlan_same : Vlan → Vlan → Bool
vlan_same = vlan_impl.eq-value.it

abbrev node_same : Node → Node → Bool
node_same = node_impl.eq-value.it

pub vlan_same-true : (a b : Vlan) → vlan_same a b ≡ true → a ≡ b
vlan_same-true vlan.Untagged vlan.Untagged e = refl
vlan_same-true vlan.Untagged (vlan.Id n) e = absurd (false≢true e)
vlan_same-true (vlan.Id m) vlan.Untagged e = absurd (false≢true e)
vlan_same-true (vlan.Id m) (vlan.Id n) e = ap vlan.Id (eqb-true m n e)

vlan_same-refl : (a : Vlan) → vlan_same a a ≡ true
vlan_same-refl vlan.Untagged = refl
vlan_same-refl (vlan.Id n) = eq-eqb n n refl

pub and_first : (a b : Bool) → (a && b) ≡ true → a ≡ true
and_first true b e = refl
and_first false b e = absurd (false≢true e)

pub and_second : (a b : Bool) → (a && b) ≡ true → b ≡ true
and_second true b e = e
and_second false b e = absurd (false≢true e)

abbrev node_of : ℕ → ℕ → Vlan → ℕ → Node
node_of s p v m = record { place = record { switch = record { 0 = s }; port = record { 0 = p }; vlan = v }; met = m }

same_parts : (s t p q : ℕ) (v w : Vlan) (m n : ℕ) → s ≡ t → p ≡ q → v ≡ w → m ≡ n → node_of s p v m ≡ node_of t q w n
same_parts s t p q v w m n e f g h =
    ap (λ x. node_of x p v m) e ∙ ap (λ x. node_of t x v m) f ∙ ap (λ x. node_of t q x m) g ∙ ap (λ x. node_of t q w x) h

node_same-true : (a b : Node) → node_same a b ≡ true → a ≡ b
node_same-true a b e =
    let switch : Bool = a.place.switch.0 == b.place.switch.0 in
    let port : Bool = a.place.port.0 == b.place.port.0 in
    let vlan : Bool = vlan_same a.place.vlan b.place.vlan in
    let met : Bool = a.met == b.met in
    let place = and_first (switch && (port && vlan)) met e in
    let rest = and_second switch (port && vlan) place in
    same_parts a.place.switch.0 b.place.switch.0 a.place.port.0 b.place.port.0 a.place.vlan b.place.vlan a.met b.met
    (eqb-true a.place.switch.0 b.place.switch.0 (and_first switch (port && vlan) place))
    (eqb-true a.place.port.0 b.place.port.0 (and_first port vlan rest))
    (vlan_same-true a.place.vlan b.place.vlan (and_second port vlan rest))
    (eqb-true a.met b.met (and_second (switch && (port && vlan)) met e))

node_same-refl : (a : Node) → node_same a a ≡ true
node_same-refl a =
    both_true (both_true (eq-eqb a.place.switch.0 a.place.switch.0 refl) (both_true (eq-eqb a.place.port.0 a.place.port.0 refl) (vlan_same-refl a.place.vlan))) (eq-eqb a.met a.met refl)

-- whether a node is looked up
found_in : (node : Node) (trail : List Found) → IsTrue (is_some (lookup (node_same node) trail)) ↔ IsIn node (nodes_of trail)
found_in node trail = (
  λ e.
      let (other, i, same) = in_from_any (node_same node) (nodes_of trail) (sym (is_some-lookup (node_same node) trail) ∙ e) in
      subst (λ n. IsIn n (nodes_of trail)) (sym (node_same-true node other same)) i,
  λ i. is_some-lookup (node_same node) trail ∙ any_in (node_same node) node (nodes_of trail) i (node_same-refl node),
)

pub found_exactly : (node : Node) (trail : List Found) (b : Bool) → b ≡ is_some (lookup (node_same node) trail) → IsTrue b ↔ IsIn node (nodes_of trail)
found_exactly node trail b is = (λ e. (found_in node trail).0 (sym is ∙ e), λ i. is ∙ (found_in node trail).1 i)

none_from : {A : Type 0} (o : Option A) → ¬ (is_some o ≡ true) → o ≡ None
none_from None e = refl
none_from (Some x) e = absurd (e refl)

-- a node that isn't there goes last
pub put_last : {S : Type 0} (m : IndexMap Node ℕ S) (node : Node) (from : ℕ) → ¬ IsIn node (nodes_of m.entries) → insert_entry node_same m.entries node from ≡ m.entries ++ (node, from) ∷ []
put_last m node from absent = insert_entry-new node_same m node from (none_from (lookup (node_same node) m.entries) (λ e. absent ((found_in node m.entries).0 e)))

-- ---- which led to which

get_push_cases : {A : Type 0} (xs : List A) (y : A) (n : ℕ) (x : A) → slice_get (xs ++ y ∷ []) n ≡ Some x → (slice_get xs n ≡ Some x) ⊎ ((n ≡ length xs) × (y ≡ x))
get_push_cases [] y zero x e = inr (refl, let f : Some y ≡ Some x = e in let g : y ≡ x = cc in g)
get_push_cases [] y (suc n) x e = absurd (let f : None ≡ Some x = e in cc)
get_push_cases (z ∷ xs) y zero x e = inl e
get_push_cases (z ∷ xs) y (suc n) x e = elim (get_push_cases xs y n x e) [ inl f ↦ inl f | inr f ↦ inr (ap suc f.0, f.1) ]

pub earlier_push : (trail : List Found) (node : Node) (from : ℕ) → AreLedByEarlier trail → from < length trail → AreLedByEarlier (trail ++ (node, from) ∷ [])
earlier_push trail node from earlier within number found beyond at =
    elim (get_push_cases trail (node, from) number found at) [
      | inl e ↦ earlier number found beyond e
      | inr e ↦ (let same : from ≡ found.1 = ap (λ (f : Found). f.1) e.1 in let last = e.0 in omega arith)
    ]
