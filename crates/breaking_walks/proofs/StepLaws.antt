-- How places and the steps between them are put.
use Rattle.std.proofs.Common.{◌≡◌, ◌⊎◌, ℕ, zero, suc, ◌+◌, ◌↔◌, ◌<◌, ◌≤◌, ◌&&◌, Bool, true, false, List, [], ◌∷◌, ◌++◌, length, refl, sym, ◌∙◌, subst, ap, inl, inr, arith, append_assoc}
use Rattle.std.specs.Prelude.{slice_get, Some, if◌then◌else◌, ◌==◌}
use Rattle.std.specs.List.{list_any}
use Rattle.std.proofs.lemmas.Bool.{cases_lt, eqb-true}
use Rattle.std.proofs.lemmas.List.{append-nil}
use Rattle.indexmap.specs.IndexSet.{insert_key}
use Rattle.net_base.specs.Members.{IsIn}
use Rattle.net_base.proofs.MemberLaws.{in_append_left, in_append_right, in_append_cases}
use Rattle.net_base.specs.declared.ids.Place.{Place}
use Rattle.net_base.specs.declared.ids.SwitchId.{SwitchId}
use Rattle.net_base.specs.declared.ids.Vlan.{Vlan}
use Rattle.net_base.specs.contracts.ids.PlacePartialEq.TheImpl as place_impl
use Rattle.net_base.proofs.ItemLaws.{in_from_get, past_end}
use Rattle.topology.specs.Networks.{IsNetwork, switch_count}
use Rattle.path_walk.specs.declared.Outcome.{Outcome}
use Rattle.path_walk.specs.declared.Outcome.TheVariants.{Go}
use Rattle.update_model.specs.Mixtures.{Rollout, IsPossible, MayGo}
use Rattle.breaking_walks.specs.PlaceSteps.{StepState, StandsAt, IsPlaceStep, IsNumberedIn, AreStepsAdded, NotesSteps}
use Rattle.breaking_walks.specs.declared.passing.NumberedPlace.{NumberedPlace}
use Rattle.breaking_walks.specs.declared.passing.PlaceStep.{PlaceStep}
use Rattle.breaking_walks.proofs.NodeLaws.{vlan_same, vlan_same-true, and_first, and_second}
use Rattle.breaking_walks.proofs.TrailLaws.{get_append_left, some_is}
use Rattle.breaking_walks.proofs.WithinLaws.{goes_within}

abbrev place_same : Place → Place → Bool
place_same = place_impl.eq-value.it

abbrev place_of : ℕ → ℕ → Vlan → Place
place_of s p v = record { switch = record { 0 = s }; port = record { 0 = p }; vlan = v }

same_place : (s t p q : ℕ) (v w : Vlan) → s ≡ t → p ≡ q → v ≡ w → place_of s p v ≡ place_of t q w
same_place s t p q v w e f g = ap (λ x. place_of x p v) e ∙ ap (λ x. place_of t x v) f ∙ ap (λ x. place_of t q x) g

place_same-true : (a b : Place) → place_same a b ≡ true → a ≡ b
place_same-true a b e =
    let switch : Bool = a.switch.0 == b.switch.0 in
    let port : Bool = a.port.0 == b.port.0 in
    let vlan : Bool = vlan_same a.vlan b.vlan in
    let rest = and_second switch (port && vlan) e in
    same_place a.switch.0 b.switch.0 a.port.0 b.port.0 a.vlan b.vlan
    (eqb-true a.switch.0 b.switch.0 (and_first switch (port && vlan) e))
    (eqb-true a.port.0 b.port.0 (and_first port vlan rest))
    (vlan_same-true a.vlan b.vlan (and_second port vlan rest))

-- what is put into a set of places stands there, by its number
pub put_behind : (place : Place) (keys new : List Place) → new ≡ insert_key place_same keys place → (more : List Place) × (new ≡ keys ++ more) × ((p : Place) → IsIn p new → IsIn p keys ⊎ (p ≡ place))
put_behind place keys new is = by (list_any (place_same place) keys) is
  where
    by : (b : Bool) → new ≡ (if b then keys else keys ++ place ∷ []) → (more : List Place) × (new ≡ keys ++ more) × ((p : Place) → IsIn p new → IsIn p keys ⊎ (p ≡ place))
    by true e = ([], e ∙ sym (append-nil keys), λ p i. inl (subst (λ (xs : List Place). IsIn p xs) e i))
    by false e = (
      place ∷ [],
      e,
      λ p i. elim (in_append_cases p keys (place ∷ []) (subst (λ (xs : List Place). IsIn p xs) e i)) [ inl j ↦ inl j | inr j ↦ elim j [ inl same ↦ inr same | inr none ↦ absurd none ] ],
    )

pub stored_is : (place : Place) (keys : List Place) (n : ℕ) → (stored : Place) × (slice_get keys n ≡ Some stored) × (place_same place stored ≡ true) → slice_get keys n ≡ Some place
stored_is place keys n (stored, at, same) = at ∙ ap Some (sym (place_same-true place stored same))

-- ---- outcome by outcome

module _ (old : StepState) (from : NumberedPlace) where
  pub added_none : AreStepsAdded old from [] old
  added_none = record {
    more = [];
    behind = sym (append-nil old.places);
    each = λ p i. inl i;
    kept = λ step i. i;
    leaves = λ step i. inl i;
    added = λ p i. absurd i;
  }

  module _ (found : List Outcome) (mid : StepState) (so : AreStepsAdded old from found mid) where
    -- an outcome that leads to no place
    pub added_same : (outcome : Outcome) → ((place : Place) → ¬ (outcome ≡ Go place)) → AreStepsAdded old from (found ++ outcome ∷ []) mid
    added_same outcome other = record {
      more = so.more;
      behind = so.behind;
      each = λ p i. elim (so.each p i) [ inl j ↦ inl j | inr j ↦ inr (in_append_left (Go p) found (outcome ∷ []) j) ];
      kept = so.kept;
      leaves = so.leaves;
      added = λ p i. elim (in_append_cases (Go p) found (outcome ∷ []) i) [
        | inl j ↦ so.added p j
        | inr j ↦ elim j [ inl e ↦ absurd (other p (sym e)) | inr none ↦ absurd none ]
      ];
    }

    -- one that leads to a place
    module _ (place : Place) (to : NumberedPlace) (put new : StepState) (is : IsNumberedIn mid place to put) (places : new.places ≡ put.places) (steps : new.steps ≡ put.steps ++ (record { from = from; to = to }) ∷ []) where
      abbrev step : PlaceStep
      step = record { from = from; to = to }

      go_is : (p q : Place) → Go p ≡ Go q → p ≡ q
      go_is p q e = cc

      stands_on : (n : NumberedPlace) (p : Place) → StandsAt mid.places n p → StandsAt new.places n p
      stands_on n p stands = record {
        at = subst (λ (xs : List Place). slice_get xs n.number ≡ Some p) (sym (places ∙ is.behind)) (get_append_left mid.places is.more n.number p stands.at);
        switch_is = stands.switch_is;
      }

      kept_on : (other : PlaceStep) → IsIn other mid.steps → IsIn other new.steps
      kept_on other i = subst (λ (xs : List PlaceStep). IsIn other xs) (sym (steps ∙ ap (λ (xs : List PlaceStep). xs ++ step ∷ []) is.steps)) (in_append_left other mid.steps (step ∷ []) i)

      here : IsPlaceStep new.steps from to
      here = subst (λ (xs : List PlaceStep). IsIn step xs) (sym steps) (in_append_right step put.steps (step ∷ []) (inl refl))

      pub added_more : AreStepsAdded old from (found ++ Go place ∷ []) new
      added_more = record {
        more = so.more ++ is.more;
        behind = places ∙ is.behind ∙ ap (λ (xs : List Place). xs ++ is.more) so.behind ∙ append_assoc old.places so.more is.more;
        each = λ p i. elim (is.each p (subst (λ (xs : List Place). IsIn p xs) places i)) [
          | inl j ↦ elim (so.each p j) [ inl k ↦ inl k | inr k ↦ inr (in_append_left (Go p) found (Go place ∷ []) k) ]
          | inr e ↦ inr (in_append_right (Go p) found (Go place ∷ []) (inl (ap Go e)))
        ];
        kept = λ other i. kept_on other (so.kept other i);
        leaves = λ other i. elim (in_append_cases other put.steps (step ∷ []) (subst (λ (xs : List PlaceStep). IsIn other xs) steps i)) [
          | inl j ↦ so.leaves other (subst (λ (xs : List PlaceStep). IsIn other xs) is.steps j)
          | inr j ↦ elim j [ inl e ↦ inr (ap (λ (s : PlaceStep). s.from) e) | inr none ↦ absurd none ]
        ];
        added = λ p i. elim (in_append_cases (Go p) found (Go place ∷ []) i) [
          | inl j ↦ (let (n, stands, edge) = so.added p j in (n, stands_on n p stands, kept_on (record { from = from; to = n }) edge))
          | inr j ↦ elim j [
            | inl e ↦ (let same = go_is p place e in (
              to,
              record {
                at = subst (λ (xs : List Place). slice_get xs to.number ≡ Some p) (sym places) (is.stands.at ∙ ap Some (sym same));
                switch_is = is.stands.switch_is ∙ ap (λ (x : Place). x.switch) (sym same);
              },
              here,
            ))
            | inr none ↦ absurd none
          ]
        ];
      }

-- ---- place by place

get_front : {A : Type 0} (xs more : List A) (n : ℕ) (x : A) → n < length xs → slice_get (xs ++ more) n ≡ Some x → slice_get xs n ≡ Some x
get_front [] more n x less e = absurd (omega arith)
get_front (y ∷ xs) more zero x less e = e
get_front (y ∷ xs) more (suc n) x less e = get_front xs more n x (omega arith) e

same_numbered : (a b : NumberedPlace) → a.number ≡ b.number → a.switch ≡ b.switch → a ≡ b
same_numbered a b e f =
    ap (λ (n : ℕ). let x : NumberedPlace = record { number = n; switch = a.switch } in x) e
    ∙ ap (λ (s : SwitchId). let x : NumberedPlace = record { number = b.number; switch = s } in x) f

module _ (u : Rollout) (k dst : ℕ) where
  -- where no step is noted
  pub notes_none : (noted : StepState) → ((p : Place) → IsIn p noted.places → p.switch.0 < switch_count u.net) → noted.steps ≡ [] → NotesSteps u k dst 0 noted
  notes_none noted near none = record {
    near = near;
    within = λ step i. absurd (subst (λ (xs : List PlaceStep). IsIn step xs) none i);
    goes = λ from p q less stands goes. absurd (omega arith);
  }

  -- of fewer places
  pub notes_fewer : (next fewer : ℕ) (noted : StepState) → fewer ≤ next → NotesSteps u k dst next noted → NotesSteps u k dst fewer noted
  notes_fewer next fewer noted le so = record {
    near = so.near;
    within = so.within;
    goes = λ from p q less stands goes. so.goes from p q (omega arith) stands goes;
  }

  -- of one place more
  module _ (valid : IsNetwork u.net) (next : ℕ) (old : StepState) (so : NotesSteps u k dst next old) (place : Place) (at : slice_get old.places next ≡ Some place) (here : NumberedPlace)
      (number_is : here.number ≡ next) (here_is : here.switch ≡ place.switch) (found : List Outcome) (all : (o : Outcome) → IsIn o found ↔ IsPossible u k dst place o) (new : StepState)
      (added : AreStepsAdded old here found new) where
    place_within : place.switch.0 < switch_count u.net
    place_within = so.near place (in_from_get old.places next place at)

    length_is : next < length old.places
    length_is = past_end old.places next place at

    before : (from : NumberedPlace) (p : Place) → from.number < length old.places → StandsAt new.places from p → StandsAt old.places from p
    before from p less stands = record {
      at = get_front old.places added.more from.number p less (subst (λ (xs : List Place). slice_get xs from.number ≡ Some p) added.behind stands.at);
      switch_is = stands.switch_is;
    }

    after : (n : NumberedPlace) (p : Place) → StandsAt old.places n p → StandsAt new.places n p
    after n p stands = record {
      at = subst (λ (xs : List Place). slice_get xs n.number ≡ Some p) (sym added.behind) (get_append_left old.places added.more n.number p stands.at);
      switch_is = stands.switch_is;
    }

    goes_next : (from : NumberedPlace) (p q : Place) → from.number < next + 1 → StandsAt new.places from p → MayGo u k dst p q
        → (to : NumberedPlace) × StandsAt new.places to q × IsPlaceStep new.steps from to
    goes_next from p q less stands goes =
        elim (cases_lt from.number next) [
          | inl lower ↦ (
              let (to, there, step) = so.goes from p q lower (before from p (let more = length_is in omega arith) stands) goes in
              (to, after to q there, added.kept (record { from = from; to = to }) step))
          | inr more ↦ (
              let last : from.number ≡ next = omega arith in
              let old_at = (before from p (let longer = length_is in omega arith) stands).at in
              let same : p ≡ place = some_is p place (sym old_at ∙ ap (slice_get old.places) last ∙ at) in
              let switch_is : from.switch ≡ here.switch = stands.switch_is ∙ ap (λ (x : Place). x.switch) same ∙ sym here_is in
              let is : from ≡ here = same_numbered from here (last ∙ sym number_is) switch_is in
              let (to, there, step) = added.added q ((all (Go q)).1 (subst (λ (x : Place). MayGo u k dst x q) same goes)) in
              (to, there, subst (λ (x : NumberedPlace). IsPlaceStep new.steps x to) (sym is) step))
        ]

    pub notes_next : NotesSteps u k dst (next + 1) new
    notes_next = record {
      near = λ p i. elim (added.each p i) [
        | inl j ↦ so.near p j
        | inr j ↦ goes_within u valid k dst place p ((all (Go p)).0 j)
      ];
      within = λ step i. elim (added.leaves step i) [
        | inl j ↦ so.within step j
        | inr e ↦ subst (λ (x : NumberedPlace). x.switch.0 < switch_count u.net) (sym e) (subst (λ x. x.0 < switch_count u.net) (sym here_is) place_within)
      ];
      goes = goes_next;
    }
