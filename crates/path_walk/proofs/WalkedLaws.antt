-- What is known while a path is walked, and how the walk ends.
use Rattle.std.proofs.Common.{◌≡◌, ℕ, zero, suc, ◌<◌, ◌≤◌, true, false, List, [], ◌∷◌, ◌++◌, map, length, refl, sym, ◌∙◌, subst, ap, arith}
use Rattle.std.specs.Prelude.{◌==◌, Some, None, slice_get, slice_index_or}
use Rattle.std.specs.List.{AllByRecursion}
use Rattle.std.proofs.lemmas.Bool.{eqb-true, eq-eqb, both_ways}
use Rattle.std.proofs.lemmas.List.{length-map}
use Rattle.net_base.specs.Members.{IsIn, IsDistinct}
use Rattle.net_base.specs.Walks.{end_of}
use Rattle.net_base.specs.Places.{stop_of}
use Rattle.net_base.proofs.ItemLaws.{distinct_push}
use Rattle.net_base.proofs.MemberLaws.{each_append, in_map, in_from_map, map-push}
use Rattle.net_base.proofs.ListLaws.{any_in, in_from_any}
use Rattle.net_base.proofs.WalkLaws.{IsWalk-push, end_of-push}
use Rattle.net_base.proofs.NameLaws.{same_switch}
use Rattle.net_base.specs.declared.ids.SwitchId.{SwitchId}
use Rattle.net_base.specs.declared.ids.Port.{Port}
use Rattle.net_base.specs.declared.ids.Place.{Place}
use Rattle.net_base.specs.declared.ids.Vlan.{Vlan}
use Rattle.topology.specs.Networks.{Network, IsNetwork, switch_count}
use Rattle.flow_rules.specs.Tables.{TableState, rules_at, rules_of_all}
use Rattle.flow_rules.specs.declared.rules.Rule.{Rule}
use Rattle.path_walk.specs.Outcomes.{outcome}
use Rattle.path_walk.specs.Paths.{Forwards, outcome_in, ended_by, IsEnd}
use Rattle.path_walk.specs.Walked.{is_visited, IsFollowed, EndsOnce, ComesAgain}
use Rattle.path_walk.specs.declared.Ended.{Ended}
use Rattle.path_walk.specs.declared.Ended.TheVariants as ended
use Rattle.path_walk.specs.declared.Outcome.{Outcome}
use Rattle.path_walk.specs.declared.Outcome.TheVariants.{Discard, Leave, Go}
use Rattle.path_walk.proofs.StayLaws.{few_switches, go_within}

-- the switches of places
abbrev pub along : List Place → List SwitchId
along places = map (λ place. place.switch) places

-- the switches of stops of places
pub switches_along : (places : List Place) → map (λ stop. stop.switch) (map stop_of places) ≡ along places
switches_along [] = refl
switches_along (p ∷ places) = ap (λ xs. p.switch ∷ xs) (switches_along places)

-- what the test of a visit finds
visited_in : (s : SwitchId) (places : List Place) → is_visited places s ≡ true → IsIn s (along places)
visited_in s places h =
    let (place, i, e) = in_from_any (λ (x : Place). x.switch.0 == s.0) places h in
    subst (λ t. IsIn t (along places)) (same_switch place.switch s (eqb-true place.switch.0 s.0 e)) (in_map (λ (x : Place). x.switch) place places i)

not_visited : (s : SwitchId) (places : List Place) → is_visited places s ≡ false → ¬ IsIn s (along places)
not_visited s places h i =
    let (place, j, e) = in_from_map (λ (x : Place). x.switch) s places i in
    both_ways (is_visited places s) h (any_in (λ (x : Place). x.switch.0 == s.0) place places j (eq-eqb place.switch.0 s.0 (ap (λ (x : SwitchId). x.0) (sym e))))

-- the path so far: these places, the last of them this one, and no switch twice
pub record HasWalked (net : Network) (tables : List (List Rule)) (entry : Place) (dst : ℕ) (places : List Place) (place : Place) : Type 0 where
  pub followed : IsFollowed net tables entry dst places
  pub ends : end_of entry followed.rest ≡ place
  pub distinct : IsDistinct (along (entry ∷ followed.rest))
  pub within : AllByRecursion (λ s. s.0 < switch_count net) (along (entry ∷ followed.rest))

module _ (net : Network) (tables : List (List Rule)) (entry : Place) (dst : ℕ) where
  -- the place is at a switch of the network
  pub place_within : (places : List Place) (place : Place) → HasWalked net tables entry dst places place → place.switch.0 < switch_count net
  place_within places place so = subst (λ (x : Place). x.switch.0 < switch_count net) so.ends (at_end entry so.followed.rest so.within)
    where
      at_end : (start : Place) (rest : List Place) → AllByRecursion (λ s. s.0 < switch_count net) (along (start ∷ rest)) → (end_of start rest).switch.0 < switch_count net
      at_end start [] within = within.0
      at_end start (next ∷ rest) within = at_end next rest within.1

  -- at the entry
  pub walked_none : (entry.switch.0 < switch_count net) → HasWalked net tables entry dst (entry ∷ []) entry
  walked_none within = record { followed = record { rest = []; places_are = refl; walk = tt }; ends = refl; distinct = ((λ i. i), tt); within = (within, tt) }

  module _ (places : List Place) (place : Place) (so : HasWalked net tables entry dst places place) where
    -- there are at most as many places as switches
    pub few_places : length places ≤ switch_count net
    few_places =
        let few = few_switches (switch_count net) (along (entry ∷ so.followed.rest)) so.distinct so.within in
        let same : length places ≡ length (along (entry ∷ so.followed.rest)) = ap length so.followed.places_are ∙ sym (length-map (entry ∷ so.followed.rest) (λ (x : Place). x.switch)) in
        omega arith

    once : (e : Ended) → e ≡ ended_by place (outcome_in net tables place dst) → IsEnd e → EndsOnce net tables entry dst (map stop_of places) e
    once e is end = record {
      path = record {
        rest = so.followed.rest;
        walk = so.followed.walk;
        stops = ap (map stop_of) so.followed.places_are;
        ended = subst (λ (x : Place). e ≡ ended_by x (outcome_in net tables x dst)) (sym so.ends) is;
        ends = end;
      };
      distinct = subst (λ (xs : List Place). IsDistinct (map (λ x. x.switch) (map stop_of xs))) (sym so.followed.places_are)
          (subst IsDistinct (sym (switches_along (entry ∷ so.followed.rest))) so.distinct);
    }

    -- the packet is dropped here
    pub drops : outcome_in net tables place dst ≡ Discard → EndsOnce net tables entry dst (map stop_of places) (ended.Dropped place.switch)
    drops e = once (ended.Dropped place.switch) (ap (λ o. ended_by place o) (sym e)) tt

    -- the packet leaves here
    pub leaves : (port : Port) (vlan : Vlan) → outcome_in net tables place dst ≡ Leave port vlan → EndsOnce net tables entry dst (map stop_of places) (ended.Left place.switch port vlan)
    leaves port vlan e = once (ended.Left place.switch port vlan) (ap (λ o. ended_by place o) (sym e)) tt

    module _ (next : Place) (goes : outcome_in net tables place dst ≡ Go next) where
      -- one place more
      abbrev pub followed_more : IsFollowed net tables entry dst (places ++ next ∷ [])
      followed_more = record {
        rest = so.followed.rest ++ next ∷ [];
        places_are = ap (λ (xs : List Place). xs ++ next ∷ []) so.followed.places_are;
        walk = IsWalk-push (Forwards net tables dst) entry so.followed.rest next so.followed.walk (subst (λ (x : Place). outcome_in net tables x dst ≡ Go next) (sym so.ends) goes);
      }

      -- it comes again to a switch
      pub again : is_visited places next.switch ≡ true → ComesAgain net tables entry dst (map stop_of (places ++ next ∷ [])) next.switch
      again seen = record {
        front = so.followed.rest;
        again = next;
        walk = followed_more.walk;
        stops_are = ap (map stop_of) followed_more.places_are;
        distinct = so.distinct;
        seen = visited_in next.switch (entry ∷ so.followed.rest) (subst (λ (xs : List Place). is_visited xs next.switch ≡ true) so.followed.places_are seen);
        is = refl;
      }

      -- it goes on
      pub more : IsNetwork net → is_visited places next.switch ≡ false → HasWalked net tables entry dst (places ++ next ∷ []) next
      more valid unseen =
          let absent = not_visited next.switch (entry ∷ so.followed.rest) (subst (λ (xs : List Place). is_visited xs next.switch ≡ false) so.followed.places_are unseen) in
          let along_more = map-push (λ (x : Place). x.switch) (entry ∷ so.followed.rest) next in
          record {
            followed = followed_more;
            ends = end_of-push entry so.followed.rest next;
            distinct = subst IsDistinct (sym along_more) (distinct_push (along (entry ∷ so.followed.rest)) next.switch so.distinct absent);
            within = subst (AllByRecursion (λ s. s.0 < switch_count net)) (sym along_more)
                (each_append (λ s. s.0 < switch_count net) (along (entry ∷ so.followed.rest)) (next.switch ∷ []) so.within (go_within net valid tables dst place next goes, tt));
          }

-- the rules of a table that is held
pub rules_held : (tables : List TableState) (s : SwitchId) (table : TableState) → slice_get tables s.0 ≡ Some table → rules_at (rules_of_all tables) s ≡ table.rules
rules_held tables s table e = held tables s.0 e
  where
    held : (ts : List TableState) (n : ℕ) → slice_get ts n ≡ Some table → slice_index_or (rules_of_all ts) n [] ≡ table.rules
    held [] n e = absurd (let f : None ≡ Some table = e in cc)
    held (t ∷ ts) zero e = let f : Some t ≡ Some table = e in let g : t ≡ table = cc in ap (λ (x : TableState). x.rules) g
    held (t ∷ ts) (suc n) e = held ts n e

-- the outcome in a table that is held
pub outcome_held : (net : Network) (tables : List TableState) (place : Place) (dst : ℕ) (table : TableState) (o : Outcome) → slice_get tables place.switch.0 ≡ Some table
    → o ≡ outcome net table.rules place dst → outcome_in net (rules_of_all tables) place dst ≡ o
outcome_held net tables place dst table o held is = ap (λ (rs : List Rule). outcome net rs place dst) (rules_held tables place.switch table held) ∙ sym is
