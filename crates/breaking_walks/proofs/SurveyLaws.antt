-- What the steps from all places of mixed walks show of the walks.
use Rattle.std.proofs.Common.{◌≡◌, ◌⊎◌, ◌↔◌, ℕ, suc, ◌+◌, ◌≤◌, List, [], ◌∷◌, ◌++◌, length, take, refl, sym, ◌∙◌, subst, ap, inl, inr, arith, add-one}
use Rattle.std.specs.Prelude.{slice_get, Some}
use Rattle.std.proofs.lemmas.Bool.{cases_lt}
use Rattle.net_base.specs.Members.{IsIn, IsDistinct}
use Rattle.net_base.specs.Walks.{end_of}
use Rattle.net_base.proofs.MemberLaws.{in_append_left, in_append_right}
use Rattle.net_base.specs.declared.ids.SwitchId.{SwitchId}
use Rattle.net_base.specs.declared.ids.Place.{Place}
use Rattle.path_walk.specs.declared.Outcome.{Outcome}
use Rattle.path_walk.specs.declared.Outcome.TheVariants.{Go}
use Rattle.acyclic_numbering.specs.Heights.{IsEdge, Falls, number_of}
use Rattle.acyclic_numbering.specs.declared.Edge.{Edge}
use Rattle.update_model.specs.Mixtures.{Rollout, IsPossible, MayGo, IsMixedWalk}
use Rattle.certificates.specs.Steps.{IsMixedStep}
use Rattle.certificates.proofs.Falling.{distinct_walk}
use Rattle.breaking_walks.specs.Breaking.{switches_before}
use Rattle.breaking_walks.specs.Surveys.{NeverRepeats, AreAdded}
use Rattle.breaking_walks.specs.Trails.{first_node, ArePut}
use Rattle.breaking_walks.specs.declared.trail.Node.{Node}
use Rattle.breaking_walks.proofs.BreakLaws.{along_split}
use Rattle.breaking_walks.proofs.TrailLaws.{node_along, along_is, IsSearchedTo, searched_none, searched_next, none_along, in_take_more}

-- nothing is looked for
abbrev Never : Node → Type 0
Never node = ⊥

-- the steps from the first places, so many, are noted
pub record IsSurveyed (u : Rollout) (k dst : ℕ) (entry : Place) (next : ℕ) (trail : List (Node × ℕ)) (edges : List Edge) : Type 0 where
  pub so : IsSearchedTo (MayGo u k dst) [] entry Never next trail
  pub steps : (f : Node × ℕ) (q : Place) → IsIn f (take next trail) → MayGo u k dst f.0.place q → IsEdge edges f.0.place.switch q.switch

module _ (u : Rollout) (k dst : ℕ) (entry : Place) where
  pub surveyed_none : IsSurveyed u k dst entry 0 ((first_node [] entry, 0) ∷ []) []
  surveyed_none = record {
    so = searched_none (MayGo u k dst) [] entry Never;
    steps = λ f q i goes. absurd i;
  }

  -- one more place
  pub surveyed_next : (next : ℕ) (old : List (Node × ℕ)) (edges : List Edge) → IsSurveyed u k dst entry next old edges
      → (here : Node × ℕ) → slice_get old next ≡ Some here → (found : List Outcome) → ((o : Outcome) → IsIn o found ↔ IsPossible u k dst here.0.place o)
      → (new : List (Node × ℕ)) → ArePut old [] here.0 next found new → (more : List Edge) → AreAdded edges here.0.place.switch found more
      → IsSurveyed u k dst entry (next + 1) new more
  surveyed_next next old edges is here at found all new put more added = record {
    so = searched_next (MayGo u k dst) [] entry Never next old is.so here at found (λ place. (all (Go place)).0) (λ place. (all (Go place)).1) (λ never. never) new put;
    steps = λ f q i goes. elim (front f i) [
      | inl j ↦ added.kept f.0.place.switch q.switch (is.steps f q j goes)
      | inr e ↦ subst (λ (g : Node × ℕ). IsEdge more g.0.place.switch q.switch) (sym e)
          (added.added q ((all (Go q)).1 (subst (λ (g : Node × ℕ). MayGo u k dst g.0.place q) e goes)))
    ];
  }
    where
      front : (f : Node × ℕ) → IsIn f (take (next + 1) new) → IsIn f (take next old) ⊎ (f ≡ here)
      front f i = in_take_more old put.more next here f at (subst (λ (xs : List (Node × ℕ)). IsIn f (take (suc next) xs)) put.behind (subst (λ (n : ℕ). IsIn f (take n new)) (add-one next) i))

  module _ (next : ℕ) (trail : List (Node × ℕ)) (edges : List Edge) (is : IsSurveyed u k dst entry next trail edges) (none_left : length trail ≤ next) where
    place_is : (rest : List Place) → (node_along [] (first_node [] entry) rest).place ≡ end_of entry rest
    place_is rest = ap (λ (n : Node). n.place) (along_is [] (first_node [] entry) rest)

    -- no step is missing
    none_missing : (rest : List Place) → IsMixedWalk u k dst entry rest → (q : Place) → MayGo u k dst (end_of entry rest) q → ¬ (¬ IsEdge edges (end_of entry rest).switch q.switch)
    none_missing rest walk q goes missing =
        none_along (MayGo u k dst) [] entry (λ (n : Node). MayGo u k dst n.place q × ¬ IsEdge edges n.place.switch q.switch) next trail
        (record { is_trail = is.so.is_trail; goes = is.so.goes; none = λ f i bad. bad.1 (is.steps f q i bad.0) }) none_left rest walk
        (subst (λ (p : Place). MayGo u k dst p q × ¬ IsEdge edges p.switch q.switch) (sym (place_is rest)) (goes, missing))

    falls_along : (numbers : List ℕ) → Falls (IsEdge edges) numbers → Falls (IsMixedStep u k dst entry) numbers
    falls_along numbers falls s t step =
        let (rest, walk, ends) = step.on_walk in
        let goes : MayGo u k dst (end_of entry rest) step.next = subst (λ (p : Place). MayGo u k dst p step.next) (sym ends) step.goes in
        let from : (end_of entry rest).switch ≡ s = ap (λ (p : Place). p.switch) ends ∙ step.from_is in
        elim (cases_lt (number_of numbers t) (number_of numbers s)) [
          | inl lower ↦ lower
          | inr more ↦ absurd (none_missing rest walk step.next goes (λ edge.
              let there : IsEdge edges s t = subst (λ (x : SwitchId). IsEdge edges x t) from (subst (λ (x : SwitchId). IsEdge edges (end_of entry rest).switch x) step.to_is edge) in
              let lower = falls s t there in
              omega arith))
        ]

    pub surveyed_repeats : (numbers : List ℕ) → Falls (IsEdge edges) numbers → NeverRepeats u k dst entry
    surveyed_repeats numbers falls = distinct_walk u k dst entry numbers (falls_along numbers falls)

-- the last of distinct items isn't among those before it
distinct_last : {A : Type 0} (xs : List A) (y : A) → IsDistinct (xs ++ y ∷ []) → ¬ IsIn y xs
distinct_last [] y distinct i = i
distinct_last (x ∷ xs) y distinct (inl e) = distinct.0 (subst (λ z. IsIn z (xs ++ y ∷ [])) e (in_append_right y xs (y ∷ []) (inl refl)))
distinct_last (x ∷ xs) y distinct (inr i) = distinct_last xs y distinct.1 i

-- where no switch stands twice, none is come to again
pub never_again : (u : Rollout) (k dst : ℕ) (entry : Place) → NeverRepeats u k dst entry → (rest : List Place) → IsMixedWalk u k dst entry rest
    → ¬ IsIn (end_of entry rest).switch (switches_before entry rest)
never_again u k dst entry never rest walk again =
    distinct_last (switches_before entry rest) (end_of entry rest).switch (subst IsDistinct (along_split entry rest) (never rest walk)) again

-- ---- edges

module _ (old mid : List Edge) (from : SwitchId) (found : List Outcome) (so : AreAdded old from found mid) where
  -- one more outcome by which a packet goes on
  pub edges_more : (place : Place) → AreAdded old from (found ++ Go place ∷ []) (mid ++ (record { from = from; to = place.switch }) ∷ [])
  edges_more place = record {
    kept = λ s t edge. in_append_left _ mid _ (so.kept s t edge);
    added = λ q i. elim (cases_append q i) [
      | inl j ↦ in_append_left _ mid _ (so.added q j)
      | inr e ↦ in_append_right _ mid _ (inl (ap (λ (p : Place). let x : Edge = record { from = from; to = p.switch } in x) e))
    ];
  }
    where
      cases_append : (q : Place) → IsIn (Go q) (found ++ Go place ∷ []) → IsIn (Go q) found ⊎ (q ≡ place)
      cases_append q i = split found i
        where
          split : (xs : List Outcome) → IsIn (Go q) (xs ++ Go place ∷ []) → IsIn (Go q) xs ⊎ (q ≡ place)
          split [] (inl e) = let f : Go q ≡ Go place = e in let g : q ≡ place = cc in inr g
          split [] (inr j) = absurd j
          split (x ∷ xs) (inl e) = inl (inl e)
          split (x ∷ xs) (inr j) = elim (split xs j) [ inl k ↦ inl (inr k) | inr e ↦ inr e ]

  -- one more that ends it
  pub edges_same : (other : Outcome) → ((place : Place) → ¬ (other ≡ Go place)) → AreAdded old from (found ++ other ∷ []) mid
  edges_same other ends = record {
    kept = so.kept;
    added = λ q i. so.added q (split found q i);
  }
    where
      split : (xs : List Outcome) (q : Place) → IsIn (Go q) (xs ++ other ∷ []) → IsIn (Go q) xs
      split [] q (inl e) = absurd (ends q (sym e))
      split [] q (inr j) = absurd j
      split (x ∷ xs) q (inl e) = inl e
      split (x ∷ xs) q (inr j) = inr (split xs q j)
