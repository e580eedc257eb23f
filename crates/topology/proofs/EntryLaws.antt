-- The tests of stops and VLANs find the entries of a network.
use Rattle.std.proofs.Common.{◌≡◌, ◌↔◌, ◌≤◌, ◌||◌, ℕ, not, Option, Some, None, IfSome, ◌&&◌, Bool, true, false, IsTrue, List, [], ◌∷◌, refl, sym, ◌∙◌, ap, subst, inl, inr}
use Rattle.std.specs.List.{list_any}
use Rattle.std.proofs.lemmas.Bool.{false≢true, and_parts, and_from, eqb-true, eq-eqb, leb-true, le-leb, not-true, false_from_ne_true}
use Rattle.net_base.specs.Members.{IsIn}
use Rattle.net_base.specs.declared.ids.Place.{Place}
use Rattle.net_base.specs.declared.ids.Vlan.{Vlan}
use Rattle.net_base.specs.declared.ids.Vlan.TheVariants as vlan
use Rattle.topology.proofs.LinkLaws.{stop_eq-true, stop_eq-refl}
use Rattle.topology.specs.Networks.{Network, TagRange, IsEntry, IsAvailableTag, in_range, is_tag, stop_eq, vlan_eq}

pub vlan_eq-true : (a b : Vlan) → vlan_eq a b ≡ true → a ≡ b
vlan_eq-true vlan.Untagged vlan.Untagged e = refl
vlan_eq-true vlan.Untagged (vlan.Id n) e = absurd (false≢true e)
vlan_eq-true (vlan.Id m) vlan.Untagged e = absurd (false≢true e)
vlan_eq-true (vlan.Id m) (vlan.Id n) e = ap vlan.Id (eqb-true m n e)

pub vlan_eq-refl : (a : Vlan) → vlan_eq a a ≡ true
vlan_eq-refl vlan.Untagged = refl
vlan_eq-refl (vlan.Id n) = eq-eqb n n refl

module _ {A : Type 0} (same : A → A → Bool) (sound : (a b : A) → same a b ≡ true → a ≡ b) (complete : (a : A) → same a a ≡ true) where
  -- what a test of sameness finds is a member
  pub found : (x : A) (xs : List A) → list_any (same x) xs ≡ true ↔ IsIn x xs
  found x [] = (λ h. absurd (false≢true h), λ i. absurd i)
  found x (y ∷ xs) =
      elim (same x y) as (λ b. same x y ≡ b → (b || list_any (same x) xs) ≡ true ↔ IsIn x (y ∷ xs)) [
        | true ↦ λ e. (λ _. inl (sound x y e), λ _. refl)
        | false ↦ λ e. (
          λ h. inr ((found x xs).0 h),
          λ i. elim i [ inl f ↦ absurd (false≢true (sym e ∙ subst (λ z. same x z ≡ true) f (complete x))) | inr j ↦ (found x xs).1 j ],
        )
      ] refl

-- the two tests find exactly the entries
pub entry_found : (net : Network) (place : Place)
    → IsTrue (list_any (stop_eq (record { switch = place.switch; port = place.port })) net.hosts && list_any (vlan_eq place.vlan) net.vlans) ↔ IsEntry net place
entry_found net place =
    let host = found stop_eq stop_eq-true stop_eq-refl (record { switch = place.switch; port = place.port }) net.hosts in
    let declared = found vlan_eq vlan_eq-true vlan_eq-refl place.vlan net.vlans in (
      λ h. let (a, b) = and_parts _ _ h in record { host = host.0 a; declared = declared.0 b },
      λ h. and_from _ _ (host.1 h.host) (declared.1 h.declared),
    )

-- whether an id lies in the range
range_found : (range : Option TagRange) (id : ℕ) → in_range range id ≡ true ↔ IfSome range (λ t. (t.first ≤ id) × (id ≤ t.last)) × ¬ (range ≡ None)
range_found None id = (λ h. absurd (false≢true h), λ h. absurd (h.1 refl))
range_found (Some t) id = (
  λ h. let (a, b) = and_parts _ _ h in ((leb-true t.first id a, leb-true id t.last b), λ e. absurd cc),
  λ h. and_from _ _ (le-leb t.first id h.0.0) (le-leb id t.last h.0.1),
)

-- the two tests find exactly the available tags
pub tag_found : (net : Network) (id : ℕ) → IsTrue (is_tag net id) ↔ IsAvailableTag net id
tag_found net id =
    let range = range_found net.tags id in
    let declared = found vlan_eq vlan_eq-true vlan_eq-refl (vlan.Id id) net.vlans in (
      λ h.
          let (a, b) = and_parts _ _ h in
          let r = range.0 a in
          record { in_range = r.0; some_range = r.1; undeclared = λ i. false≢true (sym (not-true _ b) ∙ declared.1 i) },
      λ h. and_from _ _ (range.1 (h.in_range, h.some_range)) (ap not (false_from_ne_true _ (λ t. h.undeclared (declared.0 t)))),
    )
