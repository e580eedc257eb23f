-- What is made of a configuration: its bands have distinct keys, and each declared VLAN its tag.
use Rattle.std.proofs.Common.{◌≡◌, ℕ, zero, suc, ◌+◌, ◌≤◌, List, [], ◌∷◌, ◌++◌, map, length, take, refl, sym, ◌∙◌, ap, arith}
use Rattle.std.specs.Prelude.{slice_get, Some}
use Rattle.std.proofs.lemmas.List.{length-map}
use Rattle.std.proofs.lemmas.Option.{none-some, same_Some}
use Rattle.net_base.specs.declared.ids.SwitchId.{SwitchId}
use Rattle.net_base.specs.declared.ids.Vlan.{Vlan}
use Rattle.topology.specs.Networks.{Network, IsNetwork}
use Rattle.flow_rules.specs.declared.rules.Rule.{Rule}
use Rattle.flow_rules.specs.Tables.{TableState, IsTable, rules_at, rules_of_all}
use Rattle.path_walk.specs.UserConfigs.{IsUserConfig}
use Rattle.path_walk.proofs.WalkedLaws.{rules_held}
use Rattle.tag_allocator.specs.Tags.{Tagged, tags_paired, tags_of, available_tags}
use Rattle.two_phase.specs.SwitchRules.{band_rules_by, band_rules}
use Rattle.two_phase.specs.declared.bands.Band.{Band}
use Rattle.two_phase.specs.declared.bands.Band.TheVariants as band
use Rattle.two_phase.proofs.TagLaws.{tagging}
use Rattle.two_phase.proofs.DistinctLaws.{tagged_distinct, ingress_distinct}

module _ (net : Network) (is : IsNetwork net) (enough : length net.vlans ≤ length (available_tags net)) (new : List (List Rule)) (user : IsUserConfig net new) (s : SwitchId) where
  pub band_table : (b : Band) → IsTable (band_rules b net s (rules_at new s))
  band_table band.Tagged = tagged_distinct net is (tagging net is enough) s (rules_at new s) (user.distinct s) (user.clear s) (user.rules s)
  band_table band.Ingress = ingress_distinct net is (tagging net is enough) s (rules_at new s) (user.distinct s) (user.clear s) (user.rules s)

-- the band that is made of a table by the tags
pub band_made : (b : Band) (net : Network) (tags : List Tagged) → tags ≡ tags_of net → (new : List TableState) (s : SwitchId) (table : TableState) → slice_get new s.0 ≡ Some table
    → (rules : List Rule) → rules ≡ band_rules_by b tags net s table.rules → rules ≡ band_rules b net s (rules_at (rules_of_all new) s)
band_made b net tags same new s table held rules made =
    made ∙ ap (λ ts. band_rules_by b ts net s table.rules) same ∙ ap (band_rules b net s) (sym (rules_held new s table held))

pub paired_length : (vs : List Vlan) (ts : List ℕ) → length vs ≤ length ts → length (tags_paired vs ts) ≡ length vs
paired_length [] ts enough = refl
paired_length (v ∷ vs) [] enough = absurd (omega arith)
paired_length (v ∷ vs) (t ∷ ts) enough = ap suc (paired_length vs ts (omega arith))

-- a VLAN with its tag, by their place
pub paired_at : (vs : List Vlan) (ts : List ℕ) (k : ℕ) (v : Vlan) (t : ℕ) → slice_get vs k ≡ Some v → slice_get (map (λ (x : Tagged). x.tag) (tags_paired vs ts)) k ≡ Some t
    → slice_get (tags_paired vs ts) k ≡ Some (record { user = v; tag = t })
paired_at [] ts k v t e f = absurd (none-some v e)
paired_at (w ∷ vs) [] k v t e f = absurd (none-some t f)
paired_at (w ∷ vs) (u ∷ ts) zero v t e f = ap Some (ap (λ (x : Vlan). let y : Tagged = record { user = x; tag = u } in y) (same_Some w v e) ∙ ap (λ (n : ℕ). let y : Tagged = record { user = v; tag = n } in y) (same_Some u t f))
paired_at (w ∷ vs) (u ∷ ts) (suc k) v t e f = paired_at vs ts k v t e f

pub tags_count : (net : Network) (tags : List ℕ) → tags ≡ map (λ (x : Tagged). x.tag) (tags_of net) → length net.vlans ≤ length (available_tags net) → length tags ≡ length net.vlans
tags_count net tags same enough = ap length same ∙ length-map (tags_of net) (λ (x : Tagged). x.tag) ∙ paired_length net.vlans (available_tags net) enough

take_next : {A : Type 0} (xs : List A) (k : ℕ) (x : A) → slice_get xs k ≡ Some x → take (suc k) xs ≡ take k xs ++ x ∷ []
take_next [] k x e = absurd (none-some x e)
take_next (y ∷ xs) zero x e = ap (λ z. z ∷ []) (same_Some y x e)
take_next (y ∷ xs) (suc k) x e = ap (λ ys. y ∷ ys) (take_next xs k x e)

-- the next VLAN with its tag
pub next_tagged : (net : Network) (tags : List ℕ) → tags ≡ map (λ (x : Tagged). x.tag) (tags_of net) → (k : ℕ) (v : Vlan) (t : ℕ) → slice_get net.vlans k ≡ Some v → slice_get tags k ≡ Some t
    → (before after : List Tagged) → before ≡ take k (tags_of net) → (let x : Tagged = record { user = v; tag = t } in after ≡ before ++ x ∷ []) → after ≡ take (k + 1) (tags_of net)
next_tagged net tags same k v t e f before after g h =
    let n : suc k ≡ k + 1 = omega arith in
    let x : Tagged = record { user = v; tag = t } in
    h ∙ ap (λ xs. xs ++ x ∷ []) g ∙ sym (take_next (tags_of net) k x (paired_at net.vlans (available_tags net) k v t e (ap (λ ts. slice_get ts k) (sym same) ∙ f))) ∙ ap (λ i. take i (tags_of net)) n
