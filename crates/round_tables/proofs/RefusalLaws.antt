-- Changes that are good and clear aren't refused.
use Rattle.std.proofs.Common.{◌≡◌, ℕ, List, [], ◌∷◌, zero, suc, map, take, subst, inl, inr}
use Rattle.std.specs.Prelude.{None, Some, slice_get}
use Rattle.net_base.specs.Members.{IsIn, IsDistinct}
use Rattle.net_base.proofs.ItemLaws.{in_from_get}
use Rattle.net_base.proofs.MemberLaws.{in_map, each_at}
use Rattle.flow_rules.specs.declared.rules.Rule.{Rule}
use Rattle.update_model.specs.Changes.{AppliesTo}
use Rattle.update_model.specs.declared.Change.{Change}
use Rattle.update_model.proofs.ChangeLaws.{key_named}
use Rattle.round_mix.specs.Faults.{IsMixRefusal}
use Rattle.round_mix.specs.Prepared.{AreGood, AreClear}
use Rattle.round_mix.specs.declared.MixRefusal.{MixRefusal}
use Rattle.round_mix.specs.declared.MixRefusal.TheVariants.{BadChange, Unclear}

-- a member isn't named by those before it
distinct_before : {A B : Type 0} (f : A → B) (xs : List A) (i : ℕ) (x : A) → IsDistinct (map f xs) → slice_get xs i ≡ Some x → ¬ IsIn (f x) (map f (take i xs))
distinct_before f [] i x distinct at = absurd (let e : None ≡ Some x = at in cc)
distinct_before f (y ∷ xs) zero x distinct at = λ i. i
distinct_before f (y ∷ xs) (suc i) x distinct at = λ h. elim h [
  | inl e ↦ distinct.0 (subst (λ z. IsIn z (map f xs)) e (in_map f x xs (in_from_get xs i x at)))
  | inr j ↦ distinct_before f xs i x distinct.1 at j
]

-- there is nothing to say against them
pub no_refusal : (rules : List Rule) (changes : List Change) (refusal : MixRefusal) → AreGood rules changes → AreClear rules changes → IsMixRefusal rules changes refusal → ⊥
no_refusal rules changes (BadChange i) good clear found = found.bad (record {
  applies = each_at (AppliesTo rules) changes found.change good.applies (in_from_get changes i found.change found.at);
  fresh = distinct_before key_named changes i found.change good.distinct found.at;
})
no_refusal rules changes Unclear good clear found = found.unclear clear
