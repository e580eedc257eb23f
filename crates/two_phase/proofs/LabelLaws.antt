-- What stands in a label table, and which pick is in force.
use Rattle.std.proofs.Common.{◌≡◌, ◌⊎◌, ℕ, suc, ◌+◌, ◌≤◌, Bool, true, false, List, [], ◌∷◌, refl, sym, subst, ap, inl, inr, arith}
use Rattle.std.specs.Prelude.{nat_lt, flat_map, slice_get, Some}
use Rattle.std.specs.List.{AllByRecursion}
use Rattle.std.proofs.lemmas.Bool.{cond_both}
use Rattle.net_base.specs.Members.{IsIn}
use Rattle.net_base.proofs.MemberLaws.{each_from_in}
use Rattle.net_base.specs.declared.ids.Vlan.TheVariants as vlan
use Rattle.topology.specs.Networks.{Network}
use Rattle.certificates.specs.declared.Label.{Label}
use Rattle.certificates.specs.declared.LabelPick.{LabelPick}
use Rattle.certificates.specs.TwoPhase.{IsLabelPickInForce}
use Rattle.tag_allocator.specs.Tags.{Tagged, tags_of}
use Rattle.two_phase.specs.TwoPhasePlan.{label, vlan_number, with_label, labels_in_order, label_table, label_tables, label_picks}
use Rattle.net_base.proofs.ListLaws.{in_flat_map, in_from_flat_map}
use Rattle.two_phase.proofs.TagLaws.{IsTagging}

in_with_label : (l m : Label) (ls : List Label) → (m ≡ l) ⊎ IsIn m ls → IsIn m (with_label l ls)
in_with_label l m [] (inl e) = inl e
in_with_label l m [] (inr i) = absurd i
in_with_label l m (x ∷ ls) i =
    cond_both (nat_lt (vlan_number l.vlan) (vlan_number x.vlan)) (l ∷ x ∷ ls) (x ∷ with_label l ls) (IsIn m)
    (λ _. elim i [ inl e ↦ inl e | inr j ↦ inr j ])
    (λ _. elim i [ inl e ↦ inr (in_with_label l m ls (inl e)) | inr j ↦ elim j [ inl e ↦ inl e | inr k ↦ inr (in_with_label l m ls (inr k)) ] ])

pub from_with_label : (l m : Label) (ls : List Label) → IsIn m (with_label l ls) → (m ≡ l) ⊎ IsIn m ls
from_with_label l m [] i = i
from_with_label l m (x ∷ ls) i =
    cond_both (nat_lt (vlan_number l.vlan) (vlan_number x.vlan)) (l ∷ x ∷ ls) (x ∷ with_label l ls) (λ zs. IsIn m zs → (m ≡ l) ⊎ IsIn m (x ∷ ls))
    (λ _ j. j)
    (λ _ j. elim j [ inl e ↦ inr (inl e) | inr k ↦ elim (from_with_label l m ls k) [ inl e ↦ inl e | inr n ↦ inr (inr n) ] ]) i

pub in_labels : (m : Label) (ls : List Label) → IsIn m ls → IsIn m (labels_in_order ls)
in_labels m [] i = i
in_labels m (l ∷ ls) (inl e) = in_with_label l m (labels_in_order ls) (inl e)
in_labels m (l ∷ ls) (inr i) = in_with_label l m (labels_in_order ls) (inr (in_labels m ls i))

pub from_labels : (m : Label) (ls : List Label) → IsIn m (labels_in_order ls) → IsIn m ls
from_labels m [] i = i
from_labels m (l ∷ ls) i = elim (from_with_label l m (labels_in_order ls) i) [ inl e ↦ inl e | inr j ↦ inr (from_labels m ls j) ]

module _ (net : Network) (version : Bool) where
  abbrev pub both_of : Tagged → List Label
  both_of v = label v.user version v.user ∷ label (vlan.Id v.tag) true v.user ∷ []

  pub user_labelled : (v : Tagged) → IsIn v (tags_of net) → IsIn (label v.user version v.user) (label_table net version)
  user_labelled v i = in_labels _ (flat_map both_of (tags_of net)) (in_flat_map both_of v _ (tags_of net) i (inl refl))

  pub tag_labelled : (v : Tagged) → IsIn v (tags_of net) → IsIn (label (vlan.Id v.tag) true v.user) (label_table net version)
  tag_labelled v i = in_labels _ (flat_map both_of (tags_of net)) (in_flat_map both_of v _ (tags_of net) i (inr (inl refl)))

  pub label_cases : (l : Label) → IsIn l (label_table net version)
      → (v : Tagged) × IsIn v (tags_of net) × ((l ≡ label v.user version v.user) ⊎ (l ≡ label (vlan.Id v.tag) true v.user))
  label_cases l i =
      let (v, j, k) = in_from_flat_map both_of l (tags_of net) (from_labels l (flat_map both_of (tags_of net)) i) in
      (v, j, elim k [ inl e ↦ inl e | inr m ↦ elim m [ inl e ↦ inr e | inr n ↦ absurd n ] ])

  pub users_declared : IsTagging net → AllByRecursion (λ l. IsIn l.user net.vlans) (label_table net version)
  users_declared tags =
      each_from_in (λ l. IsIn l.user net.vlans) (label_table net version) (λ l i.
      let (v, j, k) = label_cases l i in
      elim k [ inl e ↦ subst (λ x. IsIn x.user net.vlans) (sym e) (tags.declared v j) | inr e ↦ subst (λ x. IsIn x.user net.vlans) (sym e) (tags.declared v j) ])

abbrev pub pick_of : ℕ → Bool → LabelPick
pick_of layers false = record { round = 1; labels = 0 }
pick_of layers true = record { round = layers + 2; labels = 1 }

-- the number of a round goes with the version that its labels give the users' VLANs
abbrev pub IsOfVersion : ℕ → ℕ → Bool → Type 0
IsOfVersion layers k false = k ≤ layers
IsOfVersion layers k true = suc layers ≤ k

pub in_force : (layers k : ℕ) (version : Bool) → IsOfVersion layers k version → IsLabelPickInForce (label_picks layers) (suc k) (pick_of layers version)
in_force layers k false of = record {
  stands = inl refl;
  begun = omega arith;
  latest = λ other i le. elim i [
    | inl e ↦ (let f = ap (λ p. p.round) e in omega arith)
    | inr j ↦ elim j [ inl e ↦ (let f = ap (λ p. p.round) e in absurd (omega arith)) | inr k ↦ absurd k ]
  ];
}
in_force layers k true of = record {
  stands = inr (inl refl);
  begun = omega arith;
  latest = λ other i le. elim i [
    | inl e ↦ (let f = ap (λ p. p.round) e in omega arith)
    | inr j ↦ elim j [ inl e ↦ (let f = ap (λ p. p.round) e in omega arith) | inr k ↦ absurd k ]
  ];
}

pub picked : (net : Network) (layers : ℕ) (version : Bool) → slice_get (label_tables net) (pick_of layers version).labels ≡ Some (label_table net version)
picked net layers false = refl
picked net layers true = refl
