-- In a certified span of a two-phase plan each timed walk is a mixed walk of the round in which it begins.
use Rattle.std.proofs.Common.{◌≡◌, ℕ, ◌≤◌, List, [], ◌∷◌, refl, sym, ◌∙◌, subst, ap, arith}
use Rattle.net_base.specs.Walks.{IsWalk, end_of, IsReached}
use Rattle.net_base.proofs.WalkLaws.{reached_start, reached_more}
use Rattle.net_base.specs.declared.ids.Place.{Place}
use Rattle.net_base.specs.declared.ids.Vlan.{Vlan}
use Rattle.flow_rules.specs.Tables.{rules_at}
use Rattle.flow_rules.specs.declared.rules.Rule.{Rule}
use Rattle.path_walk.specs.Paths.{Forwards, outcome_in}
use Rattle.path_walk.specs.declared.Outcome.{Outcome}
use Rattle.path_walk.specs.declared.Outcome.TheVariants.{Discard, Leave, Go}
use Rattle.update_model.specs.Mixtures.{Rollout, IsPossible, MayGo, IsMixedWalk, tables_before}
use Rattle.certificates.specs.TwoPhase.{place_carrying, outcome_carrying, KeepsPath, tables_of}
use Rattle.certificates.specs.declared.TwoPhaseEvidence.{TwoPhaseEvidence}
use Rattle.law_spans.specs.Spans.{Span}
use Rattle.law_spans.specs.TimedWalks.{TimedPlace, IsTimedStep, IsTimedWalk, places_walked}
use Rattle.law_spans.specs.Certificates.{TwoPhaseSpanCertificate}

-- an outcome that goes on is one that goes on, but for the VLAN that is carried
goes_from : (tag : Vlan) (next : Place) (o : Outcome) → Go next ≡ outcome_carrying tag o → (q : Place) × (o ≡ Go q) × (next ≡ place_carrying tag q)
goes_from tag next Discard e = absurd (let f : Go next ≡ Discard = e in cc)
goes_from tag next (Leave port vlan) e = absurd (let f : Go next ≡ Leave port vlan = e in cc)
goes_from tag next (Go q) e = let f : Go next ≡ Go (place_carrying tag q) = e in (q, refl, (let g : next ≡ place_carrying tag q = cc in g))

-- the outcome in the tables before a round is possible in it
before_possible : (u : Rollout) (r dst : ℕ) (place : Place) → IsPossible u r dst place (outcome_in u.net (tables_before u r) place dst)
before_possible u r dst place = record { mixed = rules_at (tables_before u r) place.switch; held = record { made = []; some = tt; same = λ x. (λ i. i, λ i. i) }; is = refl }

module _ (u : Rollout) (span : Span) (r dst : ℕ) (tables : List (List Rule)) (first : Place) (tag : Vlan)
    (keeps : (k : ℕ) → r ≤ k → k ≤ span.last → KeepsPath u k dst tables first tag) (within : r ≤ span.last) where
  -- what is possible along the path in a later round is so in round r
  same_in_round : (place : Place) → IsReached (Forwards u.net tables dst) first place → (k : ℕ) → r ≤ k → k ≤ span.last → (found : Outcome)
      → IsPossible u k dst (place_carrying tag place) found → IsPossible u r dst (place_carrying tag place) found
  same_in_round place reached k ge le found possible =
      let now = keeps k ge le place reached found possible in
      let then = keeps r (omega arith) within place reached (outcome_in u.net (tables_before u r) (place_carrying tag place) dst) (before_possible u r dst (place_carrying tag place)) in
      subst (λ o. IsPossible u r dst (place_carrying tag place) o) (then ∙ sym now) (before_possible u r dst (place_carrying tag place))

  along : (place : Place) → IsReached (Forwards u.net tables dst) first place → (here : TimedPlace) (rest : List TimedPlace) → here.place ≡ place_carrying tag place
      → r ≤ here.round → here.round ≤ span.last → IsWalk (IsTimedStep u span dst) here rest
      → IsWalk (MayGo u r dst) here.place (places_walked rest)
      × ((found : Outcome) → IsPossible u (end_of here rest).round dst (end_of here rest).place found → IsPossible u r dst (end_of here rest).place found)
  along place reached here [] is ge le walk = (
    tt,
    λ found possible.
        subst (λ x. IsPossible u r dst x found) (sym is) (same_in_round place reached here.round ge le found (subst (λ x. IsPossible u here.round dst x found) is possible)),
  )
  along place reached here (next ∷ rest) is ge le walk =
      let possible : IsPossible u here.round dst (place_carrying tag place) (Go next.place) = subst (λ x. IsPossible u here.round dst x (Go next.place)) is walk.0.goes in
      let goes : MayGo u r dst here.place next.place =
      subst (λ x. IsPossible u r dst x (Go next.place)) (sym is) (same_in_round place reached here.round ge le (Go next.place) possible) in
      let (q, onward, to) = goes_from tag next.place (outcome_in u.net tables place dst) (keeps here.round ge le place reached (Go next.place) possible) in
      let more = along q (reached_more (Forwards u.net tables dst) first place q reached onward) next rest to (let h = walk.0.later in omega arith) walk.0.within walk.1 in
      ((goes, more.0), more.1)

pub labelled_stay : (u : Rollout) (new : List (List Rule)) (evidence : TwoPhaseEvidence) (span : Span) (dst : ℕ) (entry : Place) → TwoPhaseSpanCertificate u new evidence span dst entry
    → (start : TimedPlace) (rest : List TimedPlace) → IsTimedWalk u span dst entry start rest
    → IsMixedWalk u start.round dst entry (places_walked rest)
    × ((found : Outcome) → IsPossible u (end_of start rest).round dst (end_of start rest).place found → IsPossible u start.round dst (end_of start rest).place found)
labelled_stay u new evidence span dst entry certificate start [] walk = (tt, λ found possible. possible)
labelled_stay u new evidence span dst entry certificate start (next ∷ rest) walk =
    let r = start.round in
    let labelled = certificate start.round walk.within in
    let steps = walk.walk in
    let possible : IsPossible u start.round dst entry (Go next.place) = subst (λ x. IsPossible u start.round dst x (Go next.place)) walk.begins steps.0.goes in
    let (version, agrees) = labelled.alone.agrees (Go next.place) possible in
    let (first, onward, is) = goes_from agrees.tag next.place (outcome_in u.net (tables_of u new version) entry dst) agrees.same in
    let to : next.place ≡ place_carrying next.place.vlan first = is ∙ ap (λ v. place_carrying v first) (sym (ap (λ (p : Place). p.vlan) is)) in
    let more = along u span start.round dst (tables_of u new version) first next.place.vlan
    (λ k ge le. labelled.later (Go next.place) possible version agrees k ge le first next.place refl onward) walk.within.1
    first (reached_start (Forwards u.net (tables_of u new version) dst) first) next rest to steps.0.later steps.0.within steps.1 in
    ((possible, more.0), more.1)
