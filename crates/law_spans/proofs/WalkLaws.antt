-- Laws of timed walks.
use Rattle.std.proofs.Common.{◌≡◌, ℕ, ◌≤◌, List, [], ◌∷◌, ◌++◌, map, refl, sym, subst, ap, arith}
use Rattle.net_base.specs.Walks.{IsWalk, end_of}
use Rattle.net_base.specs.Places.{stop_of}
use Rattle.net_base.proofs.WalkLaws.{IsWalk-push, end_of-push, walk_weaker}
use Rattle.net_base.specs.declared.ids.Place.{Place}
use Rattle.update_model.specs.Mixtures.{Rollout, MayGo}
use Rattle.update_model.specs.declared.Packet.{Packet}
use Rattle.law_spans.specs.Spans.{Span, HasRound, IsPart}
use Rattle.law_spans.specs.TimedWalks.{TimedPlace, IsTimedStep, IsTimedWalk, IsMetInRound, IsUpTo, stops_of, places_walked, WalkedInSpan}

-- a place in a round
abbrev pub in_round : ℕ → Place → TimedPlace
in_round k place = record { place = place; round = k }

-- where the places of a timed walk end
pub end_place : (start : TimedPlace) (rest : List TimedPlace) → end_of start.place (places_walked rest) ≡ (end_of start rest).place
end_place start [] = refl
end_place start (next ∷ rest) = end_place next rest

pub stops_are : (rest : List TimedPlace) → map (λ (p : TimedPlace). stop_of p.place) rest ≡ map stop_of (places_walked rest)
stops_are [] = refl
stops_are (p ∷ rest) = ap (λ xs. stop_of p.place ∷ xs) (stops_are rest)

module _ (u : Rollout) (span : Span) (dst : ℕ) where
  -- the rounds only rise
  pub rises : (start : TimedPlace) (rest : List TimedPlace) → IsWalk (IsTimedStep u span dst) start rest → start.round ≤ (end_of start rest).round
  rises start [] walk = omega arith
  rises start (next ∷ rest) walk = let g = walk.0.later in let h = rises next rest walk.1 in omega arith

  -- and stay in the span
  pub ends_within : (start : TimedPlace) (rest : List TimedPlace) → start.round ≤ span.last → IsWalk (IsTimedStep u span dst) start rest → (end_of start rest).round ≤ span.last
  ends_within start [] within walk = within
  ends_within start (next ∷ rest) within walk = ends_within next rest walk.0.within walk.1

  -- the same places, where the packet rests at the last one up to round k
  pub record Rested (start : TimedPlace) (rest : List TimedPlace) (k : ℕ) : Type 0 where
    pub from : TimedPlace
    pub more : List TimedPlace
    pub same : from.place ≡ start.place
    pub later : start.round ≤ from.round
    pub within : from.round ≤ span.last
    pub walk : IsWalk (IsTimedStep u span dst) from more
    pub stops : stops_of from more ≡ stops_of start rest
    pub end_is : end_of from more ≡ in_round k (end_of start rest).place

  pub rested : (start : TimedPlace) (rest : List TimedPlace) (k : ℕ) → k ≤ span.last → start.round ≤ span.last → IsWalk (IsTimedStep u span dst) start rest → (end_of start rest).round ≤ k → Rested start rest k
  rested start [] k last within walk late =
      record { from = in_round k start.place; more = []; same = refl; later = late; within = last; walk = tt; stops = refl; end_is = refl }
  rested start (next ∷ rest) k last within walk late =
      let r = rested next rest k last walk.0.within walk.1 late in
      record {
        from = start;
        more = r.from ∷ r.more;
        same = refl;
        later = omega arith;
        within = within;
        walk = (
          record {
            goes = subst (λ x. MayGo u start.round dst start.place x) (sym r.same) walk.0.goes;
            later = (let g = walk.0.later in let h = r.later in omega arith);
            within = r.within;
          },
          r.walk,
        );
        stops = ap (λ xs. stop_of start.place ∷ xs) r.stops;
        end_is = r.end_is;
      }

  module _ (entry : Place) where
    -- the end of a timed walk is met
    pub met_end : (start : TimedPlace) (rest : List TimedPlace) → IsTimedWalk u span dst entry start rest → IsMetInRound u span dst entry (end_of start rest)
    met_end start rest walk = record { start = start; rest = rest; walk = walk; ends = refl }

    pub met_start : (start : TimedPlace) → start.place ≡ entry → HasRound span start.round → IsMetInRound u span dst entry start
    met_start start begins within = record { start = start; rest = []; walk = record { begins = begins; within = within; walk = tt }; ends = refl }

    pub met_more : (here next : TimedPlace) → IsMetInRound u span dst entry here → IsTimedStep u span dst here next → IsMetInRound u span dst entry next
    met_more here next met step = record {
      start = met.start;
      rest = met.rest ++ next ∷ [];
      walk = record {
        begins = met.walk.begins;
        within = met.walk.within;
        walk = IsWalk-push (IsTimedStep u span dst) met.start met.rest next met.walk.walk (subst (λ x. IsTimedStep u span dst x next) (sym met.ends) step);
      };
      ends = end_of-push met.start met.rest next;
    }

-- what a part of a span has, the span has
module _ (u : Rollout) (part span : Span) (is : IsPart part span) (dst : ℕ) (entry : Place) where
  wider_step : (x y : TimedPlace) → IsTimedStep u part dst x y → IsTimedStep u span dst x y
  wider_step x y step = record { goes = step.goes; later = step.later; within = (let h = step.within in let g = is.1 in omega arith) }

  pub wider_walk : (start : TimedPlace) (rest : List TimedPlace) → IsTimedWalk u part dst entry start rest → IsTimedWalk u span dst entry start rest
  wider_walk start rest walk = record {
    begins = walk.begins;
    within = (let f = walk.within.0 in let g = is.0 in omega arith, let f = walk.within.1 in let g = is.1 in omega arith);
    walk = walk_weaker (IsTimedStep u part dst) (IsTimedStep u span dst) wider_step start rest walk.walk;
  }

  pub wider_met : (met : TimedPlace) → IsMetInRound u part dst entry met → IsMetInRound u span dst entry met
  wider_met met of_part = record { start = of_part.start; rest = of_part.rest; walk = wider_walk of_part.start of_part.rest of_part.walk; ends = of_part.ends }

pub wider_walked : (u : Rollout) (part span : Span) → IsPart part span → (p : Packet) → WalkedInSpan u part p → WalkedInSpan u span p
wider_walked u part span is p w =
    record { start = w.start; rest = w.rest; walk = wider_walk u part span is p.dst p.entry w.start w.rest w.walk; at_is = w.at_is; visits_are = w.visits_are; ended = w.ended }

-- it is one up to the last round of the part
pub walked_up_to : (u : Rollout) (part span : Span) → IsPart part span → (p : Packet) → (w : WalkedInSpan u part p) → (walked : WalkedInSpan u span p) × IsUpTo part.last walked.start walked.rest
unfolding wider_walked
walked_up_to u part span is p w = (wider_walked u part span is p w, ends_within u part p.dst w.start w.rest w.walk.within.1 w.walk.walk)
