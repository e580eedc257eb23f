-- Under the two-phase certificate each mixed walk is the old or the new path, as far as it goes.
use Rattle.std.proofs.Common.{◌≡◌, ◌⊎◌, ℕ, Bool, true, false, List, [], ◌∷◌, map, refl, sym, ◌∙◌, subst, ap, inl, inr}
use Rattle.std.specs.Prelude.{if◌then◌else◌}
use Rattle.net_base.specs.Members.{IsPrefix}
use Rattle.net_base.specs.Walks.{IsWalk, end_of, IsReached}
use Rattle.net_base.specs.Places.{stop_of}
use Rattle.net_base.proofs.WalkLaws.{reached_start, reached_more}
use Rattle.net_base.specs.declared.ids.Place.{Place}
use Rattle.net_base.specs.declared.ids.Stop.{Stop}
use Rattle.net_base.specs.declared.ids.Vlan.{Vlan}
use Rattle.flow_rules.specs.declared.rules.Rule.{Rule}
use Rattle.path_walk.specs.Paths.{Trace, IsPath, Forwards, outcome_in, ended_by, IsEnd}
use Rattle.path_walk.specs.UserConfigs.{IsUserConfig}
use Rattle.path_walk.specs.declared.Ended.{Ended}
use Rattle.path_walk.specs.declared.Outcome.{Outcome}
use Rattle.path_walk.specs.declared.Outcome.TheVariants.{Discard, Leave, Go}
use Rattle.path_walk.proofs.PathLaws.{EndsAt, walk_begins, walk_same, HasVlan, outcome_keeps, walk_keeps}
use Rattle.update_model.specs.Mixtures.{Rollout, IsPossible, MayGo, IsMixedWalk}
use Rattle.certificates.specs.TwoPhase.{place_carrying, outcome_carrying, KeepsPath, tables_of, TwoPhaseCertificate}
use Rattle.certificates.specs.Laws.{EndsFor, trace_by}
use Rattle.certificates.specs.declared.TwoPhaseEvidence.{TwoPhaseEvidence}

-- an outcome that goes on is one that goes on, but for the VLAN that is carried
goes_from : (tag : Vlan) (next : Place) (o : Outcome) → Go next ≡ outcome_carrying tag o → (q : Place) × (o ≡ Go q) × (next ≡ place_carrying tag q)
goes_from tag next Discard e = absurd (let f : Go next ≡ Discard = e in cc)
goes_from tag next (Leave port vlan) e = absurd (let f : Go next ≡ Leave port vlan = e in cc)
goes_from tag next (Go q) e = let f : Go next ≡ Go (place_carrying tag q) = e in (q, refl, (let g : next ≡ place_carrying tag q = cc in g))

stops_carrying : (tag : Vlan) (qs : List Place) → map stop_of (map (place_carrying tag) qs) ≡ map stop_of qs
stops_carrying tag [] = refl
stops_carrying tag (q ∷ qs) = ap (λ xs. stop_of q ∷ xs) (stops_carrying tag qs)

end_carrying : (tag : Vlan) (q : Place) (qs : List Place) → end_of (place_carrying tag q) (map (place_carrying tag) qs) ≡ place_carrying tag (end_of q qs)
end_carrying tag q [] = refl
end_carrying tag q (p ∷ qs) = end_carrying tag p qs

-- the end of a walk that carries a VLAN is at the same switch
end_switch : (tag : Vlan) (entry : Place) (qs : List Place) → (end_of entry (map (place_carrying tag) qs)).switch ≡ (end_of entry qs).switch
end_switch tag entry [] = refl
end_switch tag entry (q ∷ qs) = ap (λ p. p.switch) (end_carrying tag q qs)

module _ (u : Rollout) (k dst : ℕ) (tables : List (List Rule)) (user : IsUserConfig u.net tables) where
  -- a mixed walk that carries a VLAN along a path whose outcomes are kept is that path, as far as it goes
  along : (first : Place) (tag : Vlan) → KeepsPath u k dst tables first tag → (place : Place) → IsReached (Forwards u.net tables dst) first place → (rest : List Place)
      → IsWalk (MayGo u k dst) (place_carrying tag place) rest → (qs : List Place) × IsWalk (Forwards u.net tables dst) place qs × (rest ≡ map (place_carrying tag) qs)
  along first tag keeps place reached [] walk = ([], tt, refl)
  along first tag keeps place reached (next ∷ rest) walk =
      let (q, goes, is) = goes_from tag next (outcome_in u.net tables place dst) (keeps place reached (Go next) walk.0) in
      let (qs, steps, same) = along first tag keeps q (reached_more (Forwards u.net tables dst) first place q reached goes) rest (subst (λ x. IsWalk (MayGo u k dst) x rest) is walk.1) in
      (q ∷ qs, (goes, steps), ap (λ x. x ∷ rest) is ∙ ap (λ xs. place_carrying tag q ∷ xs) same)

  -- the walk so far begins the path
  begins : (entry : Place) (path : Trace) → IsPath u.net tables entry dst path → (tag : Vlan) (qs : List Place) → IsWalk (Forwards u.net tables dst) entry qs
      → IsPrefix (map stop_of (entry ∷ map (place_carrying tag) qs)) path.stops
  begins entry path is tag qs walk =
      let ends : EndsAt u.net tables dst (end_of entry is.rest) = subst IsEnd is.ended is.ends in
      subst (IsPrefix (map stop_of (entry ∷ map (place_carrying tag) qs))) (sym is.stops)
      (refl, subst (λ xs. IsPrefix xs (map stop_of is.rest)) (sym (stops_carrying tag qs)) (walk_begins u.net tables dst entry qs is.rest walk is.walk ends))

  ended_same : (place other : Place) → place.switch ≡ other.switch → (tag : Vlan) (o : Outcome) → ended_by place (outcome_carrying tag o) ≡ ended_by other o
  ended_same place other same tag Discard = ap (λ s. ended_by (record { switch = s; port = place.port; vlan = place.vlan }) Discard) same
  ended_same place other same tag (Leave port vlan) = ap (λ s. ended_by (record { switch = s; port = place.port; vlan = place.vlan }) (Leave port vlan)) same
  ended_same place other same tag (Go next) = refl

  ends_for : (v : Vlan) (place : Place) (tag : Vlan) (o : Outcome) → HasVlan v o → IsEnd (ended_by place (outcome_carrying tag o)) → EndsFor v (outcome_carrying tag o)
  ends_for v place tag Discard has ends = tt
  ends_for v place tag (Leave port vlan) has ends = has
  ends_for v place tag (Go next) has ends = ends

  -- a walk that ends by the path's outcome, but for the VLAN that is carried, is the whole path
  whole : (entry : Place) (path : Trace) → IsPath u.net tables entry dst path → (tag : Vlan) (qs : List Place) → IsWalk (Forwards u.net tables dst) entry qs → (found : Outcome)
      → found ≡ outcome_carrying tag (outcome_in u.net tables (end_of entry qs) dst) → IsEnd (ended_by (end_of entry (map (place_carrying tag) qs)) found)
      → (trace_by entry (map (place_carrying tag) qs) found ≡ path) × EndsFor entry.vlan found
  whole entry path is tag qs walk found same ends =
      let o = outcome_in u.net tables (end_of entry qs) dst in
      let ended : ended_by (end_of entry (map (place_carrying tag) qs)) found ≡ ended_by (end_of entry qs) o =
      ap (ended_by (end_of entry (map (place_carrying tag) qs))) same ∙ ended_same (end_of entry (map (place_carrying tag) qs)) (end_of entry qs) (end_switch tag entry qs) tag o in
      let here : EndsAt u.net tables dst (end_of entry qs) = subst IsEnd ended ends in
      let there : EndsAt u.net tables dst (end_of entry is.rest) = subst IsEnd is.ended is.ends in
      let places : qs ≡ is.rest = walk_same u.net tables dst entry qs is.rest walk is.walk here there in
      let stops : map stop_of (entry ∷ map (place_carrying tag) qs) ≡ path.stops = ap (λ xs. stop_of entry ∷ xs) (stops_carrying tag qs) ∙ ap (λ xs. map stop_of (entry ∷ xs)) places ∙ sym is.stops in
      let end : ended_by (end_of entry (map (place_carrying tag) qs)) found ≡ path.ended =
      ended ∙ ap (λ xs. ended_by (end_of entry xs) (outcome_in u.net tables (end_of entry xs) dst)) places ∙ sym is.ended in (
        ap (λ (xs : List Stop). let x : Trace = record { stops = xs; ended = ended_by (end_of entry (map (place_carrying tag) qs)) found } in x) stops
            ∙ ap (λ (e : Ended). let x : Trace = record { stops = path.stops; ended = e } in x) end,
        subst (EndsFor entry.vlan) (sym same)
            (ends_for entry.vlan (end_of entry (map (place_carrying tag) qs)) tag o
            (subst (λ v. HasVlan v o) (walk_keeps u.net tables user dst entry qs walk) (outcome_keeps u.net tables user dst (end_of entry qs)))
            (subst (λ f. IsEnd (ended_by (end_of entry (map (place_carrying tag) qs)) f)) same ends)),
      )

module _ (u : Rollout) (new : List (List Rule)) (evidence : TwoPhaseEvidence) (k dst : ℕ) (entry : Place) (old_path new_path : Trace)
    (certificate : TwoPhaseCertificate u new evidence k dst entry) (old_user : IsUserConfig u.net u.old) (new_user : IsUserConfig u.net new)
    (old_is : IsPath u.net u.old entry dst old_path) (new_is : IsPath u.net new entry dst new_path) where
  -- the path of a version
  abbrev path_of : Bool → Trace
  path_of version = if version then new_path else old_path

  user_of : (version : Bool) → IsUserConfig u.net (tables_of u new version)
  user_of true = new_user
  user_of false = old_user

  path_is : (version : Bool) → IsPath u.net (tables_of u new version) entry dst (path_of version)
  path_is true = new_is
  path_is false = old_is

  either : (P : Trace → Type 0) (version : Bool) → P (path_of version) → P old_path ⊎ P new_path
  either P true h = inr h
  either P false h = inl h

  ends_version : (rest : List Place) (version : Bool) (tag : Vlan) (qs : List Place) → IsWalk (Forwards u.net (tables_of u new version) dst) entry qs → rest ≡ map (place_carrying tag) qs
      → (found : Outcome) → found ≡ outcome_carrying tag (outcome_in u.net (tables_of u new version) (end_of entry qs) dst) → IsEnd (ended_by (end_of entry rest) found)
      → ((trace_by entry rest found ≡ old_path) ⊎ (trace_by entry rest found ≡ new_path)) × EndsFor entry.vlan found
  ends_version rest version tag qs walk is found same ends =
      let all = whole u k dst (tables_of u new version) (user_of version) entry (path_of version) (path_is version) tag qs walk found same (subst (λ xs. IsEnd (ended_by (end_of entry xs) found)) is ends) in
      (either (λ path. trace_by entry rest found ≡ path) version (ap (λ xs. trace_by entry xs found) is ∙ all.0), all.1)

  pub labelled_walk : (rest : List Place) → IsMixedWalk u k dst entry rest
      → (IsPrefix (map stop_of (entry ∷ rest)) old_path.stops ⊎ IsPrefix (map stop_of (entry ∷ rest)) new_path.stops)
      × ((found : Outcome) → IsPossible u k dst (end_of entry rest) found → IsEnd (ended_by (end_of entry rest) found)
      → ((trace_by entry rest found ≡ old_path) ⊎ (trace_by entry rest found ≡ new_path)) × EndsFor entry.vlan found)
  labelled_walk [] walk = (
    inl (begins u k dst u.old old_user entry old_path old_is entry.vlan [] tt),
    λ found possible ends.
        let (version, agrees) = certificate.agrees found possible in
        ends_version [] version agrees.tag [] tt refl found agrees.same ends,
  )
  labelled_walk (next ∷ rest) walk =
      let (version, agrees) = certificate.agrees (Go next) walk.0 in
      let tables = tables_of u new version in
      let (first, goes, is) = goes_from agrees.tag next (outcome_in u.net tables entry dst) agrees.same in
      let keeps : KeepsPath u k dst tables first next.vlan = certificate.keeps (Go next) walk.0 version agrees first next refl goes in
      let at_first : next ≡ place_carrying next.vlan first = is ∙ ap (λ v. place_carrying v first) (sym (ap (λ p. p.vlan) is)) in
      let (qs, steps, same) = along u k dst tables (user_of version) first next.vlan keeps first (reached_start (Forwards u.net tables dst) first) rest (subst (λ x. IsWalk (MayGo u k dst) x rest) at_first walk.1) in
      let all : next ∷ rest ≡ map (place_carrying next.vlan) (first ∷ qs) = ap (λ x. x ∷ rest) at_first ∙ ap (λ xs. place_carrying next.vlan first ∷ xs) same in (
        either (λ path. IsPrefix (map stop_of (entry ∷ next ∷ rest)) path.stops) version
            (subst (λ xs. IsPrefix (map stop_of (entry ∷ xs)) (path_of version).stops) (sym all) (begins u k dst tables (user_of version) entry (path_of version) (path_is version) next.vlan (first ∷ qs) (goes, steps))),
        λ found possible ends.
            ends_version (next ∷ rest) version next.vlan (first ∷ qs) (goes, steps) all found
            (keeps (end_of first qs) (qs, steps, refl) found
            (subst (λ p. IsPossible u k dst p found) (ap (λ xs. end_of entry xs) all ∙ end_carrying next.vlan first qs) possible)) ends,
      )
