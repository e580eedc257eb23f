-- What the pick in force for a class means, and what holds of it by any names of its round and class.
use Rattle.std.proofs.Common.{◌≡◌, ℕ, suc, ◌<◌, List, [], ◌∷◌, length, Some, sym, subst}
use Rattle.std.specs.Prelude.{slice_get}
use Rattle.std.specs.List.{AllByRecursion, AllZip}
use Rattle.std.proofs.lemmas.Option.{slice_get-get_or}
use Rattle.dest_classes.specs.Classes.{ClassList, IsClass}
use Rattle.dest_classes.specs.declared.Class.{Class}
use Rattle.dest_classes.proofs.MapLaws.{class_is}
use Rattle.certificates.specs.Ordered.{IsPickInForce, IsMeant}
use Rattle.certificates.specs.Valid.{IsChain, IsPickBefore}
use Rattle.certificates.specs.declared.OrderedPick.{OrderedPick}
use Rattle.certificates.specs.declared.OrderedEvidence.{OrderedEvidence}
use Rattle.certificates.specs.declared.Shared.{Shared}
use Rattle.check_reasons.specs.Reasons.{IsInForce}
use Rattle.check_reasons.specs.Positions.{sets_of}
use Rattle.certificates.proofs.PickLaws.{one_in_force, one_meaning}

-- the sets with these numbers
zip_sets : (befores : List (List ℕ)) (indices : List ℕ) → AllByRecursion (λ i. i < length befores) indices → AllZip (λ i set. slice_get befores i ≡ Some set) indices (sets_of befores indices)
zip_sets befores [] h = tt
zip_sets befores (i ∷ indices) h = (slice_get-get_or befores i [] h.0, zip_sets befores indices h.1)

-- what the pick in force means
pub in_force_from_pick : (e : OrderedEvidence) (k n : ℕ) (pick : OrderedPick) (shared : Shared) (numbers : List ℕ) → IsPickInForce e.picks (suc k) n pick → slice_get e.uses pick.shared ≡ Some shared
    → slice_get e.numberings shared.numbering ≡ Some numbers → AllByRecursion (λ i. i < length e.befores) shared.befores → IsInForce e k n numbers (sets_of e.befores shared.befores)
in_force_from_pick e k n pick shared numbers force shared_is numbers_are within = record {
  pick = pick;
  in_force = force;
  meant = record {
    use_ = shared;
    use_is = shared_is;
    numbers_are = numbers_are;
    sets_are = zip_sets e.befores shared.befores within;
  };
}

module _ (classes : ClassList) (e : OrderedEvidence) (in_order : IsChain IsPickBefore e.picks) (k n : ℕ) (class : Class) (numbers : List ℕ) (sets : List (List ℕ)) (is : IsClass classes n class) (force : IsInForce e k n numbers sets) where
  -- what is said of another class with this number, and of what its pick means, is said of this one
  pub carried : (P : ℕ → Class → List ℕ → List (List ℕ) → Type 0) (j m : ℕ) (other : Class) (xs : List ℕ) (us : List (List ℕ)) → j ≡ k → m ≡ n → IsClass classes m other → IsInForce e j m xs us → P j other xs us → P k class numbers sets
  carried P j m other xs us round number was forced h =
      let now : IsClass classes n other = subst (λ (x : ℕ). IsClass classes x other) number was in
      let here : IsInForce e k n xs us = subst (λ (x : ℕ). IsInForce e x n xs us) round (subst (λ (x : ℕ). IsInForce e j x xs us) number forced) in
      let picked : here.pick ≡ force.pick = one_in_force e.picks in_order (suc k) n here.pick force.pick here.in_force force.in_force in
      let meant : IsMeant e force.pick xs us = subst (λ (p : OrderedPick). IsMeant e p xs us) picked here.meant in
      let (same_numbers, same_sets_) = one_meaning e force.pick xs numbers us sets meant force.meant in
      let same : other ≡ class = class_is classes n other class now is in
      subst (λ (vs : List (List ℕ)). P k class numbers vs) same_sets_ (subst (λ (ys : List ℕ). P k class ys us) same_numbers (subst (λ (c : Class). P k c xs us) same (subst (λ (x : ℕ). P x other xs us) round h)))

  pub carried_class : (P : ℕ → Class → Type 0) (j m : ℕ) (other : Class) → j ≡ k → m ≡ n → IsClass classes m other → P j other → P k class
  carried_class P j m other round number was h =
      let same : other ≡ class = class_is classes n other class (subst (λ (x : ℕ). IsClass classes x other) number was) is in
      subst (λ (c : Class). P k c) same (subst (λ (x : ℕ). P x other) round h)

  -- a pick is in force
  pub has_pick : (j m : ℕ) → j ≡ k → m ≡ n → ((pick : OrderedPick) → ¬ IsPickInForce e.picks (suc j) m pick) → ⊥
  has_pick j m round number none =
      none force.pick (subst (λ (x : ℕ). IsPickInForce e.picks (suc x) m force.pick) (sym round) (subst (λ (x : ℕ). IsPickInForce e.picks (suc k) x force.pick) (sym number) force.in_force))
