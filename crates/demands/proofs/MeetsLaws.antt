-- A trace is good for the duties of an entry and an address exactly where it meets the demands that cover them.
use Rattle.std.proofs.Common.{◌≡◌, ℕ, Bool, true, false, cond, List, [], ◌∷◌, map, refl, sym, ◌∙◌, subst, ap, arith, inl, inr}
use Rattle.std.specs.Prelude.{◌==◌, ◌||◌, nat_lt, IsTrue}
use Rattle.std.specs.List.{AllByRecursion, list_any}
use Rattle.std.proofs.lemmas.Bool.{cases_Bool, cond-true, cond-false, cond_both, or_left, eqb-true, eqb-false, eq-eqb, ne_eqb, ltb-false, false≢true}
use Rattle.net_base.specs.Members.{IsIn, IsSubsequence}
use Rattle.net_base.proofs.MemberLaws.{each_at, each_from_in, each_map, in_map, in_filter, in_from_filter}
use Rattle.net_base.proofs.NameLaws.{same_switch}
use Rattle.net_base.specs.declared.ids.Place.{Place}
use Rattle.net_base.specs.declared.ids.SwitchId.{SwitchId}
use Rattle.path_walk.specs.Paths.{Trace}
use Rattle.path_walk.specs.declared.Ended.{Ended}
use Rattle.path_walk.specs.declared.Ended.TheVariants.{UnderWay, Left, Dropped, Lost}
use Rattle.demands.specs.Duties.{DemandView, demand_covers, demands_on, first_of_each, chain_lt, with_chain, ascending_chains, duties_of}
use Rattle.demands.specs.Good.{IsGood, MeetsChains, IsDropped, MeetsDemands, switches_of}

-- chains of which neither comes before the other are one
same_chain : (a b : List SwitchId) → chain_lt a b ≡ false → chain_lt b a ≡ false → a ≡ b
same_chain [] [] e f = refl
same_chain [] (t ∷ ts) e f = absurd (false≢true (sym e))
same_chain (s ∷ ss) [] e f = absurd (false≢true (sym f))
same_chain (s ∷ ss) (t ∷ ts) e f =
    elim (cases_Bool (s.0 == t.0)) [
      | inl same ↦ (
          let here : s ≡ t = same_switch s t (eqb-true s.0 t.0 same) in
          let turned : (t.0 == s.0) ≡ true = eq-eqb t.0 s.0 (sym (eqb-true s.0 t.0 same)) in
          let rest = same_chain ss ts (sym (cond-true (s.0 == t.0) (chain_lt ss ts) (nat_lt s.0 t.0) same) ∙ e) (sym (cond-true (t.0 == s.0) (chain_lt ts ss) (nat_lt t.0 s.0) turned) ∙ f) in
          ap (λ x. x ∷ ss) here ∙ ap (λ xs. t ∷ xs) rest)
      | inr apart ↦ (
          let turned : (t.0 == s.0) ≡ false = ne_eqb t.0 s.0 (λ g. eqb-false s.0 t.0 apart (sym g)) in
          let not_less = ltb-false s.0 t.0 (sym (cond-false (s.0 == t.0) (chain_lt ss ts) (nat_lt s.0 t.0) apart) ∙ e) in
          let not_more = ltb-false t.0 s.0 (sym (cond-false (t.0 == s.0) (chain_lt ts ss) (nat_lt t.0 s.0) turned) ∙ f) in
          absurd (eqb-false s.0 t.0 apart (omega arith)))
    ]

-- what holds of each of the ascending chains, and what holds of each chain
module _ (P : List SwitchId → Type 0) where
  each_put : (x : List SwitchId) (cs : List (List SwitchId)) → P x → AllByRecursion P cs → AllByRecursion P (with_chain x cs)
  each_put [] cs p all = all
  each_put (s ∷ ss) [] p all = (p, tt)
  each_put (s ∷ ss) (c ∷ cs) p all =
      let x = s ∷ ss in
      cond_both (chain_lt x c) (x ∷ c ∷ cs) (cond (chain_lt c x) (c ∷ with_chain x cs) (c ∷ cs)) (AllByRecursion P)
      (λ _. (p, all))
      (λ _. cond_both (chain_lt c x) (c ∷ with_chain x cs) (c ∷ cs) (AllByRecursion P) (λ _. (all.0, each_put (s ∷ ss) cs p all.1)) (λ _. all))

  each_ascending : (cs : List (List SwitchId)) → AllByRecursion P cs → AllByRecursion P (ascending_chains cs)
  each_ascending [] all = tt
  each_ascending (c ∷ cs) all = each_put c (ascending_chains cs) all.0 (each_ascending cs all.1)

  -- an empty chain is left out, so it must hold of that
  module _ (empty : P []) where
    put_back : (x : List SwitchId) (cs : List (List SwitchId)) → AllByRecursion P (with_chain x cs) → P x × AllByRecursion P cs
    put_back [] cs all = (empty, all)
    put_back (s ∷ ss) [] all = (all.0, tt)
    put_back (s ∷ ss) (c ∷ cs) all =
        let x = s ∷ ss in
        elim (cases_Bool (chain_lt x c)) [
          | inl less ↦ subst (AllByRecursion P) (cond-true (chain_lt x c) (x ∷ c ∷ cs) (cond (chain_lt c x) (c ∷ with_chain x cs) (c ∷ cs)) less) all
          | inr not_less ↦ (
              let later = subst (AllByRecursion P) (cond-false (chain_lt x c) (x ∷ c ∷ cs) (cond (chain_lt c x) (c ∷ with_chain x cs) (c ∷ cs)) not_less) all in
              elim (cases_Bool (chain_lt c x)) [
                | inl more ↦ (
                    let behind = subst (AllByRecursion P) (cond-true (chain_lt c x) (c ∷ with_chain x cs) (c ∷ cs) more) later in
                    let rest = put_back (s ∷ ss) cs behind.1 in
                    (rest.0, (behind.0, rest.1)))
                | inr not_more ↦ (
                    let here = subst (AllByRecursion P) (cond-false (chain_lt c x) (c ∷ with_chain x cs) (c ∷ cs) not_more) later in
                    (subst P (same_chain c x not_more not_less) here.0, here))
              ])
        ]

    each_back : (cs : List (List SwitchId)) → AllByRecursion P (ascending_chains cs) → AllByRecursion P cs
    each_back [] all = tt
    each_back (c ∷ cs) all = let back = put_back c (ascending_chains cs) all in (back.0, each_back cs back.1)

-- some member passes a test
module _ {A : Type 0} (p : A → Bool) where
  any_from : (x : A) (xs : List A) → IsIn x xs → p x ≡ true → list_any p xs ≡ true
  any_from x [] i e = absurd i
  any_from x (y ∷ xs) (inl same) e = or_left (p y) (list_any p xs) (subst (λ z. p z ≡ true) same e)
  any_from x (y ∷ xs) (inr i) e = elim (p y) as (λ b. (b || list_any p xs) ≡ true) [ true ↦ refl | false ↦ any_from x xs i e ]

  any_to : (xs : List A) → list_any p xs ≡ true → (x : A) × IsIn x xs × (p x ≡ true)
  any_to [] e = absurd (false≢true e)
  any_to (y ∷ xs) e =
      elim (p y) as (λ b. p y ≡ b → (b || list_any p xs) ≡ true → (x : A) × IsIn x (y ∷ xs) × (p x ≡ true)) [
        | true ↦ λ passes _. (y, inl refl, passes)
        | false ↦ λ _ f. let (x, i, passes) = any_to xs f in (x, inr i, passes)
      ] refl e

module _ (demands : List DemandView) (entry : Place) (dst : ℕ) (trace : Trace) where
  -- the chain is met
  abbrev IsMet : List SwitchId → Type 0
  IsMet chain = IsSubsequence chain (switches_of trace.stops)

  abbrev chain_of : DemandView → List SwitchId
  chain_of d = first_of_each d.through

  on_it : (d : DemandView) → IsIn d demands → IsTrue (demand_covers d entry dst) → IsIn d (demands_on demands entry dst)
  on_it d i covers = in_filter (λ x. demand_covers x entry dst) d demands i covers

  from_on : (d : DemandView) → IsIn d (demands_on demands entry dst) → IsIn d demands × IsTrue (demand_covers d entry dst)
  from_on d i = in_from_filter (λ x. demand_covers x entry dst) d demands i

  pub good_meets : IsGood (duties_of demands entry dst) trace → MeetsDemands demands entry dst trace
  good_meets good = record {
    distinct = good.distinct;
    chains = λ d i covers s port vlan left.
        let met : AllByRecursion IsMet (duties_of demands entry dst).chains = subst (MeetsChains (duties_of demands entry dst).chains (switches_of trace.stops)) left good.chains in
        each_at IsMet (map chain_of (demands_on demands entry dst)) (chain_of d) (each_back IsMet tt (map chain_of (demands_on demands entry dst)) met) (in_map chain_of d (demands_on demands entry dst) (on_it d i covers));
    arrives = λ d i covers deliver s dropped. good.arrives (any_from (λ x. x.deliver) d (demands_on demands entry dst) (on_it d i covers) deliver) (subst IsDropped (sym dropped) tt);
  }

  module _ (meets : MeetsDemands demands entry dst trace) where
    meets_chains : (ended : Ended) → trace.ended ≡ ended → MeetsChains (duties_of demands entry dst).chains (switches_of trace.stops) ended
    meets_chains UnderWay is = tt
    meets_chains Lost is = tt
    meets_chains (Dropped s) is = tt
    meets_chains (Left s port vlan) is =
        each_ascending IsMet (map chain_of (demands_on demands entry dst))
        (each_map chain_of IsMet (demands_on demands entry dst)
        (each_from_in (λ d. IsMet (chain_of d)) (demands_on demands entry dst) (λ d i. let from = from_on d i in meets.chains d from.0 from.1 s port vlan is)))

    meets_arrival : (ended : Ended) → trace.ended ≡ ended → IsTrue (duties_of demands entry dst).arrive → ¬ IsDropped ended
    meets_arrival UnderWay is must = λ h. h
    meets_arrival Lost is must = λ h. h
    meets_arrival (Left s port vlan) is must = λ h. h
    meets_arrival (Dropped s) is must = λ _.
        let (d, i, deliver) = any_to (λ x. x.deliver) (demands_on demands entry dst) must in
        let from = from_on d i in
        meets.arrives d from.0 from.1 deliver s is

    pub meets_good : IsGood (duties_of demands entry dst) trace
    meets_good = record { distinct = meets.distinct; chains = meets_chains trace.ended refl; arrives = meets_arrival trace.ended refl }
