-- The tags of declared VLANs: each has one, different ones have different tags, and no tag is declared.
use Rattle.std.proofs.Common.{◌≡◌, ℕ, ◌≤◌, List, [], ◌∷◌, map, length, refl, sym, subst, ap, inl, inr, arith}
use Rattle.net_base.specs.Members.{IsIn, IsDistinct}
use Rattle.net_base.proofs.MemberLaws.{in_from_map}
use Rattle.net_base.specs.declared.ids.Vlan.{Vlan}
use Rattle.net_base.specs.declared.ids.Vlan.TheVariants as vlan
use Rattle.topology.specs.Networks.{Network, IsNetwork}
use Rattle.tag_allocator.specs.Tags.{available_tags, Tagged, tags_paired, tags_of}
use Rattle.net_base.proofs.ListLaws.{IsTold, told_from_distinct, distinct_members}
use Rattle.tag_allocator.proofs.TagLaws.{tags_distinct, tag_undeclared}

pub paired_user : (vs : List Vlan) (ts : List ℕ) (x : Tagged) → IsIn x (tags_paired vs ts) → IsIn x.user vs
paired_user [] ts x i = absurd i
paired_user (v ∷ vs) [] x i = absurd i
paired_user (v ∷ vs) (t ∷ ts) x (inl e) = inl (ap (λ y. y.user) e)
paired_user (v ∷ vs) (t ∷ ts) x (inr i) = inr (paired_user vs ts x i)

pub paired_tag : (vs : List Vlan) (ts : List ℕ) (x : Tagged) → IsIn x (tags_paired vs ts) → IsIn x.tag ts
paired_tag [] ts x i = absurd i
paired_tag (v ∷ vs) [] x i = absurd i
paired_tag (v ∷ vs) (t ∷ ts) x (inl e) = inl (ap (λ y. y.tag) e)
paired_tag (v ∷ vs) (t ∷ ts) x (inr i) = inr (paired_tag vs ts x i)

paired_users : (vs : List Vlan) (ts : List ℕ) → IsDistinct vs → IsDistinct (map (λ x. x.user) (tags_paired vs ts))
paired_users [] ts distinct = tt
paired_users (v ∷ vs) [] distinct = tt
paired_users (v ∷ vs) (t ∷ ts) distinct = (
  λ i. let (x, j, e) = in_from_map (λ y. y.user) v (tags_paired vs ts) i in distinct.0 (subst (λ w. IsIn w vs) (sym e) (paired_user vs ts x j)),
  paired_users vs ts distinct.1,
)

paired_tags : (vs : List Vlan) (ts : List ℕ) → IsDistinct ts → IsDistinct (map (λ x. x.tag) (tags_paired vs ts))
paired_tags [] ts distinct = tt
paired_tags (v ∷ vs) [] distinct = tt
paired_tags (v ∷ vs) (t ∷ ts) distinct = (
  λ i. let (x, j, e) = in_from_map (λ y. y.tag) t (tags_paired vs ts) i in distinct.0 (subst (λ w. IsIn w ts) (sym e) (paired_tag vs ts x j)),
  paired_tags vs ts distinct.1,
)

each_paired : (vs : List Vlan) (ts : List ℕ) → length vs ≤ length ts → (v : Vlan) → IsIn v vs → (x : Tagged) × IsIn x (tags_paired vs ts) × (x.user ≡ v)
each_paired [] ts enough v i = absurd i
each_paired (w ∷ vs) [] enough v i = absurd (omega arith)
each_paired (w ∷ vs) (t ∷ ts) enough v (inl e) = (record { user = w; tag = t }, inl refl, sym e)
each_paired (w ∷ vs) (t ∷ ts) enough v (inr i) = let rest = each_paired vs ts (omega arith) v i in (rest.0, inr rest.1, rest.2)

-- what the tags of a network are worth
pub record IsTagging (net : Network) : Type 0 where
  pub by_user : IsTold (λ x. x.user) (tags_of net)
  pub by_tag : IsTold (λ x. x.tag) (tags_of net)
  pub distinct : IsDistinct (tags_of net)
  pub declared : (x : Tagged) → IsIn x (tags_of net) → IsIn x.user net.vlans
  pub undeclared : (x : Tagged) → IsIn x (tags_of net) → ¬ IsIn (vlan.Id x.tag) net.vlans
  pub each : (v : Vlan) → IsIn v net.vlans → (x : Tagged) × IsIn x (tags_of net) × (x.user ≡ v)

pub tagging : (net : Network) → IsNetwork net → length net.vlans ≤ length (available_tags net) → IsTagging net
tagging net is enough = record {
  by_user = told_from_distinct (λ x. x.user) (tags_of net) (paired_users net.vlans (available_tags net) is.vlans_once);
  by_tag = told_from_distinct (λ x. x.tag) (tags_of net) (paired_tags net.vlans (available_tags net) (tags_distinct net));
  distinct = distinct_members (λ x. x.tag) (tags_of net) (paired_tags net.vlans (available_tags net) (tags_distinct net));
  declared = paired_user net.vlans (available_tags net);
  undeclared = λ x i. tag_undeclared net x.tag (paired_tag net.vlans (available_tags net) x i);
  each = each_paired net.vlans (available_tags net) enough;
}
