-- Where a packet first strays from a path.
use Rattle.std.proofs.Common.{◌≡◌, ◌⊎◌, ℕ, ◌+◌, ◌<◌, ◌≤◌, Bool, true, false, get_or, Some, List, [], ◌∷◌, ◌++◌, length, refl, sym, ◌∙◌, subst, ap, inl, inr, arith, length-append}
use Rattle.std.specs.Bool.{MatchBool}
use Rattle.std.specs.List.{AllWithin, HoldsAt}
use Rattle.std.proofs.lemmas.Option.{slice_get-get_or}
use Rattle.std.proofs.lemmas.List.Elements.{recursion_from_All, All-from_all_within}
use Rattle.net_base.proofs.MemberLaws.{each_at}
use Rattle.std.specs.Prelude.{◌≢◌, IsSome, IsSomeAnd, slice_get}
use Rattle.net_base.specs.Walks.{IsWalk, end_of}
use Rattle.net_base.proofs.WalkLaws.{IsWalk-push, end_of-push}
use Rattle.net_base.proofs.ItemLaws.{in_from_get}
use Rattle.net_base.specs.declared.ids.SwitchId.{SwitchId}
use Rattle.net_base.specs.declared.ids.Place.{Place}
use Rattle.net_base.specs.declared.ids.Vlan.{Vlan}
use Rattle.topology.specs.Networks.{Network, switch_count}
use Rattle.flow_rules.specs.Tables.{rules_at}
use Rattle.flow_rules.specs.declared.rules.Rule.{Rule}
use Rattle.path_walk.specs.Paths.{Forwards, outcome_in, ended_by, IsEnd}
use Rattle.path_walk.specs.declared.Outcome.{Outcome}
use Rattle.path_walk.specs.declared.Outcome.TheVariants.{Discard, Go}
use Rattle.certificates.specs.TwoPhase.{place_carrying, outcome_carrying, KeepsPath}
use Rattle.check_reasons.specs.Reasons.{Strays}
use Rattle.two_phase_check.specs.Agreements.{AreAllFound, HasOutcomeAlone, HasOtherOutcome, EndsSoon, IsFirstStray}
use Rattle.update_model.specs.Changes.{changes_at, round_after}
use Rattle.update_model.specs.Mixtures.{Rollout, tables_before}
use Rattle.round_mix.specs.Prepared.{MixedState, IsPrepared}
use Rattle.round_mix.specs.declared.MarkedRule.{MarkedRule}
use Rattle.check_reasons.specs.Loaded.{AreLoaded}

-- what is prepared of a switch
module _ (u : Rollout) (k : ℕ) (mixes : List MixedState) (loaded : AreLoaded u k mixes) (s : SwitchId) (mixed : MixedState) (at : slice_get mixes s.0 ≡ Some mixed) where
  pub prepared_some : IsSome mixed.prepared
  prepared_some = subst IsSome (sym (loaded.each s mixed at).is) refl

  pub prepared_few : (n : ℕ) → 8192 < n → (marks : List MarkedRule) → mixed.prepared ≡ Some marks → length marks < n
  prepared_few n room marks is =
      let here = loaded.each s mixed at in
      let e : Some marks ≡ Some here.marks = sym is ∙ here.is in
      let same : marks ≡ here.marks = cc in
      let few : length marks ≤ 8192 = subst (λ ms. length ms ≤ 8192) (sym same) here.few in
      omega arith

  pub prepared_is : IsSomeAnd mixed.prepared (IsPrepared (rules_at (tables_before u k) s) (changes_at s (round_after k u.rounds)))
  prepared_is =
      let here = loaded.each s mixed at in
      subst (λ o. IsSomeAnd o (IsPrepared (rules_at (tables_before u k) s) (changes_at s (round_after k u.rounds)))) (sym here.is) here.prepared

-- what follows the first part of a walk is a walk
walk_after : {A : Type 0} (step : A → A → Type 0) (start : A) (xs ys : List A) → IsWalk step start (xs ++ ys) → IsWalk step (end_of start xs) ys
walk_after step start [] ys walk = walk
walk_after step start (x ∷ xs) ys walk = walk_after step x xs ys walk.1

-- a list with one more member, cut before a member
cut_push : {A : Type 0} (rest front back : List A) (n x : A) → rest ++ n ∷ [] ≡ front ++ x ∷ back → (front ≡ rest) ⊎ ((more : List A) × (rest ≡ front ++ x ∷ more))
cut_push [] [] back n x e = inl refl
cut_push [] (f ∷ []) back n x e = absurd (let g : n ∷ [] ≡ f ∷ x ∷ back = e in cc)
cut_push [] (f ∷ g ∷ front) back n x e = absurd (let h : n ∷ [] ≡ f ∷ g ∷ (front ++ x ∷ back) = e in cc)
cut_push (r ∷ rest) [] back n x e = let h : r ∷ (rest ++ n ∷ []) ≡ x ∷ back = e in let g : r ≡ x = cc in inr (rest, ap (λ z. z ∷ rest) g)
cut_push (r ∷ rest) (f ∷ front) back n x e =
    let h : r ∷ (rest ++ n ∷ []) ≡ f ∷ (front ++ x ∷ back) = e in
    let here : r ≡ f = cc in
    let there : rest ++ n ∷ [] ≡ front ++ x ∷ back = cc in
    elim (cut_push rest front back n x there) [
      | inl same ↦ inl (ap (λ z. z ∷ front) (sym here) ∙ ap (λ zs. r ∷ zs) same)
      | inr (more, same) ↦ inr (more, ap (λ z. z ∷ rest) here ∙ ap (λ zs. f ∷ zs) same)
    ]

module _ (net : Network) (tables : List (List Rule)) (dst : ℕ) where
  -- one walk begins the other
  abbrev Compares : List Place → List Place → Type 0
  Compares qs ps = (qs ≡ ps) ⊎ (((x : Place) × (back : List Place) × (ps ≡ qs ++ x ∷ back)) ⊎ ((x : Place) × (back : List Place) × (qs ≡ ps ++ x ∷ back)))

  compare_more : (p q : Place) (qs ps : List Place) → q ≡ p → Compares qs ps → Compares (q ∷ qs) (p ∷ ps)
  compare_more p q qs ps e (inl same) = inl (ap (λ z. z ∷ qs) e ∙ ap (λ zs. p ∷ zs) same)
  compare_more p q qs ps e (inr (inl (x, back, same))) = inr (inl (x, back, ap (λ zs. p ∷ zs) same ∙ ap (λ z. z ∷ (qs ++ x ∷ back)) (sym e)))
  compare_more p q qs ps e (inr (inr (x, back, same))) = inr (inr (x, back, ap (λ zs. q ∷ zs) same ∙ ap (λ z. z ∷ (ps ++ x ∷ back)) e))

  -- of two walks of the tables from a place the one begins the other
  pub compare_walks : (place : Place) (qs ps : List Place) → IsWalk (Forwards net tables dst) place qs → IsWalk (Forwards net tables dst) place ps → Compares qs ps
  compare_walks place [] [] first second = inl refl
  compare_walks place [] (p ∷ ps) first second = inr (inl (p, ps, refl))
  compare_walks place (q ∷ qs) [] first second = inr (inr (q, qs, refl))
  compare_walks place (q ∷ qs) (p ∷ ps) first second =
      let g : Go q ≡ Go p = sym first.0 ∙ second.0 in
      let e : q ≡ p = cc in
      compare_more p q qs ps e (compare_walks p qs ps (subst (λ x. IsWalk (Forwards net tables dst) x qs) e first.1) second.1)

  -- a walk that goes on leads on from where it was
  pub goes_after : (place x : Place) (qs back rest : List Place) → IsWalk (Forwards net tables dst) place rest → rest ≡ qs ++ x ∷ back → outcome_in net tables (end_of place qs) dst ≡ Go x
  goes_after place x qs back rest walk is = (walk_after (Forwards net tables dst) place qs (x ∷ back) (subst (λ ps. IsWalk (Forwards net tables dst) place ps) is walk)).0

module _ (u : Rollout) (k dst : ℕ) (tables : List (List Rule)) (first : Place) (tag : Vlan) where
  -- a packet that carries the VLAN has the path's outcome alone
  abbrev pub Stays : Place → Type 0
  Stays place = HasOutcomeAlone u k dst (place_carrying tag place) (outcome_carrying tag (outcome_in u.net tables place dst))

  -- the path is followed for so many steps up to the place, and a packet stayed on it before
  pub record HasFollowed (i : ℕ) (place : Place) : Type 0 where
    pub rest : List Place
    pub walk : IsWalk (Forwards u.net tables dst) first rest
    pub ends : end_of first rest ≡ place
    pub long : length rest ≡ i
    pub stays : (front : List Place) (x : Place) (back : List Place) → rest ≡ front ++ x ∷ back → Stays (end_of first front)

  pub follow_none : HasFollowed 0 first
  follow_none = record { rest = []; walk = tt; ends = refl; long = refl; stays = λ front x back e. absurd (nothing front x back e) }
    where
      nothing : (front : List Place) (x : Place) (back : List Place) → [] ≡ front ++ x ∷ back → ⊥
      nothing [] x back e = let f : [] ≡ x ∷ back = e in cc
      nothing (y ∷ front) x back e = let f : [] ≡ y ∷ (front ++ x ∷ back) = e in cc

  module _ (i : ℕ) (place : Place) (so : HasFollowed i place) where
    pub follow_more : (next : Place) → Stays place → outcome_in u.net tables place dst ≡ Go next → HasFollowed (i + 1) next
    follow_more next here goes = record {
      rest = so.rest ++ next ∷ [];
      walk = IsWalk-push (Forwards u.net tables dst) first so.rest next so.walk (subst (λ p. outcome_in u.net tables p dst ≡ Go next) (sym so.ends) goes);
      ends = end_of-push first so.rest next;
      long = length-append so.rest (next ∷ []) ∙ ap (λ n. n + 1) so.long;
      stays = λ front x back e.
          elim (cut_push so.rest front back next x e) [
            | inl same ↦ subst Stays (sym so.ends ∙ ap (end_of first) (sym same)) here
            | inr (more, same) ↦ so.stays front x more same
          ];
    }

    -- the path goes no further, and a packet stays on it
    pub follow_ends : Stays place → ((next : Place) → outcome_in u.net tables place dst ≢ Go next) → KeepsPath u k dst tables first tag
    follow_ends here no_more p (qs, walk, ends) =
        elim (compare_walks u.net tables dst first qs so.rest walk so.walk) [
          | inl same ↦ subst Stays (sym so.ends ∙ ap (end_of first) (sym same) ∙ ends) here
          | inr (inl (x, back, same)) ↦ subst Stays ends (so.stays qs x back same)
          | inr (inr (x, back, same)) ↦ absurd (no_more x (subst (λ p. outcome_in u.net tables p dst ≡ Go x) so.ends (goes_after u.net tables dst first x so.rest back qs walk same)))
        ]

    -- here is the first place where it may stray
    pub follow_strays : HasOtherOutcome u k dst (place_carrying tag place) (outcome_carrying tag (outcome_in u.net tables place dst)) → IsFirstStray u k dst tables first tag place.switch
    follow_strays strays = record {
      rest = so.rest;
      walk = so.walk;
      strays = subst (Strays u k dst tables tag) (sym so.ends) strays;
      at_is = ap (λ p. p.switch) so.ends;
      none_earlier = λ front x back e (found, possible, other). other (so.stays front x back e found possible);
    }

    -- the path has ended before as many steps as there are switches
    pub follow_over : EndsSoon u.net tables dst first → i ≡ switch_count u.net → ⊥
    follow_over soon all =
        elim (compare_walks u.net tables dst first so.rest soon.rest so.walk soon.walk) [
          | inl same ↦ (let a = soon.few in let b : length soon.rest ≡ i = ap length (sym same) ∙ so.long in omega arith)
          | inr (inl (x, back, same)) ↦ (
              let a = soon.few in
              let b : length soon.rest ≡ length so.rest + length (x ∷ back) = ap length same ∙ length-append so.rest (x ∷ back) in
              let c = so.long in
              omega arith)
          | inr (inr (x, back, same)) ↦ (
              let goes = goes_after u.net tables dst first x soon.rest back so.rest so.walk same in
              subst (λ o. IsEnd (ended_by (end_of first soon.rest) o)) goes soon.ends)
        ]

  -- there is one first place where it may stray
  pub stray_one : (s r : SwitchId) → IsFirstStray u k dst tables first tag s → IsFirstStray u k dst tables first tag r → r ≡ s
  stray_one s r a b =
      elim (compare_walks u.net tables dst first a.rest b.rest a.walk b.walk) [
        | inl same ↦ sym b.at_is ∙ ap (λ ps. (end_of first ps).switch) (sym same) ∙ a.at_is
        | inr (inl (x, back, same)) ↦ absurd (b.none_earlier a.rest x back same a.strays)
        | inr (inr (x, back, same)) ↦ absurd (a.none_earlier b.rest x back same b.strays)
      ]

  -- and none where a packet keeps to the path
  pub stray_none : (s : SwitchId) → IsFirstStray u k dst tables first tag s → KeepsPath u k dst tables first tag → ⊥
  stray_none s a keeps = a.strays.2 (keeps (end_of first a.rest) (a.rest, a.walk, refl) a.strays.0 a.strays.1)

-- what is found in a list of all possible outcomes
pub alone_by : (u : Rollout) (k dst : ℕ) (place : Place) (expected : Outcome) (list : List Outcome) (r : Bool) → AreAllFound u k dst place list
    → MatchBool r (AllWithin (λ found. found ≡ expected) list 0 (length list)) ((i : ℕ) × (i < length list) × HoldsAt (λ found. found ≢ expected) list i)
    → MatchBool r (HasOutcomeAlone u k dst place expected) (HasOtherOutcome u k dst place expected)
alone_by u k dst place expected list true all h =
    λ found possible. each_at (λ f. f ≡ expected) list found (recursion_from_All (λ f. f ≡ expected) list (All-from_all_within (λ f. f ≡ expected) list h)) ((all found).1 possible)
alone_by u k dst place expected list false all (i, within, other) =
    let found = get_or list i Discard in
    (found, (all found).0 (in_from_get list i found (slice_get-get_or list i Discard within)), other Discard)
