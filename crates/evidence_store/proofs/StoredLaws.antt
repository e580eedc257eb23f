-- One pick more of a use that was numbered: what is stored stays in order, and the pick means what it should.
use Rattle.std.proofs.Common.{◌≡◌, ℕ, ◌<◌, ◌≤◌, List, [], ◌∷◌, ◌++◌, length, map, Some, refl, sym, ap, ◌∙◌, subst, inl, inr, arith}
use Rattle.std.specs.Prelude.{slice_get, flat_map}
use Rattle.std.specs.List.{AllByRecursion}
use Rattle.std.proofs.lemmas.Option.{slice_get_within}
use Rattle.std.proofs.lemmas.Grind.{flat_map-append}
use Rattle.std.proofs.lemmas.List.{append-nil}
use Rattle.net_base.proofs.MemberLaws.{map-push, each_at, each_append, each_weaker}
use Rattle.certificates.specs.Valid.{IsChain, IsPickBefore, IsValidUse}
use Rattle.certificates.specs.declared.Shared.{Shared}
use Rattle.certificates.specs.declared.OrderedPick.{OrderedPick}
use Rattle.certificates.specs.declared.OrderedEvidence.{OrderedEvidence}
use Rattle.evidence_store.specs.Stored.{UsesInOrder, IsStored, IsWithPick, no_evidence}
use Rattle.evidence_store.specs.Numbers.{IsWithUse}
use Rattle.evidence_store.proofs.ListLaws.{prefix_long, chain_push}
use Rattle.evidence_store.proofs.NumberLaws.{in_order_append, numbered_prefix, numbered_at, numbered_distinct, numbered_only, numbered_in_order, numbered_old, all_prefix, all_at, all_distinct, all_only, all_in_order, all_within, all_old}
use Rattle.net_base.proofs.ItemLaws.{in_from_get}

-- evidence of no picks is in order
pub nothing_stored : IsStored no_evidence
nothing_stored = record {
  once = record {
    numberings_once = tt;
    befores_once = tt;
    uses_once = tt;
    uses_in_order = refl;
    numberings_in_order = refl;
    befores_in_order = refl;
  };
  uses = tt;
  picks = tt;
  ascending = tt;
}

module _ (old new : OrderedEvidence) (numbers : List ℕ) (sets : List (List ℕ)) (n : ℕ) (stored : IsStored old) (used : IsWithUse old numbers sets n new) where
  -- the evidence with the picks as they will be
  abbrev with_picks : List OrderedPick → OrderedEvidence
  with_picks picks = record { numberings = new.numberings; befores = new.befores; uses = new.uses; picks = picks }

  more_numberings : length old.numberings ≤ length new.numberings
  more_numberings = prefix_long old.numberings new.numberings (numbered_prefix old.numberings numbers used.use_.numbering new.numberings used.numbering)

  more_befores : length old.befores ≤ length new.befores
  more_befores = prefix_long old.befores new.befores (all_prefix old.befores sets used.use_.befores new.befores used.befores)

  more_uses : length old.uses ≤ length new.uses
  more_uses = prefix_long old.uses new.uses (numbered_prefix old.uses used.use_ n new.uses used.uses)

  use_within : n < length new.uses
  use_within = slice_get_within new.uses n used.use_ (numbered_at old.uses used.use_ n new.uses used.uses)

  -- the new use is valid, and old ones stay valid
  new_valid : IsValidUse (length new.numberings) (length new.befores) used.use_
  new_valid = (
    slice_get_within new.numberings used.use_.numbering numbers (numbered_at old.numberings numbers used.use_.numbering new.numberings used.numbering),
    used.few_numberings,
    all_within old.befores sets used.use_.befores new.befores used.befores,
  )

  still_valid : (u : Shared) → IsValidUse (length old.numberings) (length old.befores) u → IsValidUse (length new.numberings) (length new.befores) u
  still_valid u h =
      let more = more_numberings in
      let more_sets = more_befores in
      (let lt = h.0 in omega arith, h.1, each_weaker (λ i. i < length old.befores) (λ i. i < length new.befores) (λ i lt. omega arith) u.befores h.2)

  record AreUsesKept : Type 0 where
    pub valid : AllByRecursion (IsValidUse (length new.numberings) (length new.befores)) new.uses
    pub numberings_in_order : UsesInOrder 0 (map (λ use_. use_.numbering) new.uses) (length new.numberings)
    pub befores_in_order : UsesInOrder 0 (flat_map (λ use_. use_.befores) new.uses) (length new.befores)

  -- where the use stood there, nothing is new
  uses_found : slice_get old.uses n ≡ Some used.use_ → new.uses ≡ old.uses → AreUsesKept
  uses_found at same =
      let is_valid = each_at (IsValidUse (length old.numberings) (length old.befores)) old.uses used.use_ stored.uses (in_from_get old.uses n used.use_ at) in
      let numberings : new.numberings ≡ old.numberings = numbered_old old.numberings numbers used.use_.numbering new.numberings is_valid.0 used.numbering in
      let befores : new.befores ≡ old.befores = all_old old.befores sets used.use_.befores new.befores is_valid.2 used.befores in
      record {
        valid = rw (numberings, befores, same) stored.uses;
        numberings_in_order = rw (numberings, same) stored.once.numberings_in_order;
        befores_in_order = rw (befores, same) stored.once.befores_in_order;
      }

  uses_added : new.uses ≡ old.uses ++ used.use_ ∷ [] → AreUsesKept
  uses_added more =
      let valid : AllByRecursion (IsValidUse (length new.numberings) (length new.befores)) (old.uses ++ used.use_ ∷ []) =
      each_append (IsValidUse (length new.numberings) (length new.befores)) old.uses (used.use_ ∷ [])
      (each_weaker (IsValidUse (length old.numberings) (length old.befores)) (IsValidUse (length new.numberings) (length new.befores)) still_valid old.uses stored.uses) (new_valid, tt) in
      let numberings : map (λ use_. use_.numbering) new.uses ≡ map (λ use_. use_.numbering) old.uses ++ used.use_.numbering ∷ [] =
      ap (map (λ (use_ : Shared). use_.numbering)) more ∙ map-push (λ (use_ : Shared). use_.numbering) old.uses used.use_ in
      let befores : flat_map (λ use_. use_.befores) new.uses ≡ flat_map (λ use_. use_.befores) old.uses ++ used.use_.befores =
      ap (flat_map (λ (use_ : Shared). use_.befores)) more ∙ flat_map-append (λ (use_ : Shared). use_.befores) old.uses (used.use_ ∷ [])
      ∙ ap (λ (l : List ℕ). flat_map (λ (use_ : Shared). use_.befores) old.uses ++ l) (append-nil used.use_.befores) in
      record {
        valid = subst (AllByRecursion (IsValidUse (length new.numberings) (length new.befores))) (sym more) valid;
        numberings_in_order = subst (λ (l : List ℕ). UsesInOrder 0 l (length new.numberings)) (sym numberings)
            (in_order_append 0 (map (λ use_. use_.numbering) old.uses) (used.use_.numbering ∷ []) (length old.numberings) (length new.numberings) stored.once.numberings_in_order
            (numbered_in_order old.numberings numbers used.use_.numbering new.numberings used.numbering));
        befores_in_order = subst (λ (l : List ℕ). UsesInOrder 0 l (length new.befores)) (sym befores)
            (in_order_append 0 (flat_map (λ use_. use_.befores) old.uses) used.use_.befores (length old.befores) (length new.befores) stored.once.befores_in_order
            (all_in_order old.befores sets used.use_.befores new.befores used.befores));
      }

  uses_kept : AreUsesKept
  uses_kept = elim used.uses [ inl found ↦ uses_found found.0 found.1 | inr added ↦ uses_added added.1 ]

  module _ (pick : OrderedPick) (picks : List OrderedPick) (is : pick.shared ≡ n) (more : picks ≡ new.picks ++ pick ∷ []) where
    all_picks : picks ≡ old.picks ++ pick ∷ []
    all_picks = more ∙ ap (λ (l : List OrderedPick). l ++ pick ∷ []) used.picks

    uses_in_order : UsesInOrder 0 (map (λ p. p.shared) picks) (length new.uses)
    uses_in_order =
        let shared : map (λ p. p.shared) picks ≡ map (λ p. p.shared) old.picks ++ n ∷ [] =
        ap (map (λ (p : OrderedPick). p.shared)) all_picks ∙ map-push (λ (p : OrderedPick). p.shared) old.picks pick ∙ ap (λ m. map (λ (p : OrderedPick). p.shared) old.picks ++ m ∷ []) is in
        subst (λ (l : List ℕ). UsesInOrder 0 l (length new.uses)) (sym shared)
        (in_order_append 0 (map (λ p. p.shared) old.picks) (n ∷ []) (length old.uses) (length new.uses) stored.once.uses_in_order (numbered_in_order old.uses used.use_ n new.uses used.uses))

    picks_within : AllByRecursion (λ p. (p.shared < length new.uses) × (p.shared ≤ 4294967295)) picks
    picks_within =
        let longer = more_uses in
        let within = use_within in
        let few = used.few_uses in
        let IsFew : ℕ → OrderedPick → Type 0 = λ uses p. (p.shared < uses) × (p.shared ≤ 4294967295) in
        subst (AllByRecursion (IsFew (length new.uses))) (sym all_picks)
        (each_append (IsFew (length new.uses)) old.picks (pick ∷ []) (each_weaker (IsFew (length old.uses)) (IsFew (length new.uses)) (λ p h. (let lt = h.0 in omega arith, h.1)) old.picks stored.picks)
        ((omega arith, omega arith), tt))

    -- what is stored, with one pick more
    pub stored_more : AllByRecursion (λ p. IsPickBefore p pick) old.picks → IsStored (with_picks picks)
    stored_more behind = record {
      once = record {
        numberings_once = numbered_distinct old.numberings numbers used.use_.numbering new.numberings used.numbering stored.once.numberings_once;
        befores_once = all_distinct old.befores sets used.use_.befores new.befores used.befores stored.once.befores_once;
        uses_once = numbered_distinct old.uses used.use_ n new.uses used.uses stored.once.uses_once;
        uses_in_order = uses_in_order;
        numberings_in_order = uses_kept.numberings_in_order;
        befores_in_order = uses_kept.befores_in_order;
      };
      uses = uses_kept.valid;
      picks = picks_within;
      ascending = subst (IsChain IsPickBefore) (sym all_picks) (chain_push IsPickBefore old.picks pick stored.ascending behind);
    }

    -- and what the pick means
    pub with_pick : IsWithPick old pick.round pick.class numbers sets (with_picks picks)
    with_pick = record {
      pick = pick;
      round_is = refl;
      class_is = refl;
      picks = all_picks;
      meant = record {
        use_ = used.use_;
        use_is = subst (λ m. slice_get new.uses m ≡ Some used.use_) (sym is) (numbered_at old.uses used.use_ n new.uses used.uses);
        numbers_are = numbered_at old.numberings numbers used.use_.numbering new.numberings used.numbering;
        sets_are = all_at old.befores sets used.use_.befores new.befores used.befores;
      };
      numberings = numbered_prefix old.numberings numbers used.use_.numbering new.numberings used.numbering;
      befores = all_prefix old.befores sets used.use_.befores new.befores used.befores;
      uses = numbered_prefix old.uses used.use_ n new.uses used.uses;
      only_numbers = numbered_only old.numberings numbers used.use_.numbering new.numberings used.numbering;
      only_sets = all_only old.befores sets used.use_.befores new.befores used.befores;
    }
