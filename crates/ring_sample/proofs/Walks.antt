-- Walks of packets round the ring, up to the switch of their destination.
use Rattle.std.proofs.Common.{◌≡◌, ℕ, zero, suc, ◌<◌, ◌≤◌, true, false, cond, List, [], ◌∷◌, map, inl, inr, refl, sym, ap, subst, ◌∙◌, arith}
use Rattle.std.specs.Prelude.{◌==◌}
use Rattle.std.specs.List.{AllByRecursion}
use Rattle.std.proofs.lemmas.Bool.{cases_eq, cond-true, cond-false, eq-eqb, ne_eqb}
use Rattle.net_base.specs.Members.{IsIn, IsDistinct}
use Rattle.net_base.specs.Walks.{IsWalk, end_of}
use Rattle.net_base.proofs.MemberLaws.{each_at, each_weaker, in_from_map}
use Rattle.net_base.specs.declared.ids.SwitchId.{SwitchId}
use Rattle.net_base.specs.declared.ids.Port.{Port}
use Rattle.net_base.specs.declared.ids.Place.{Place}
use Rattle.net_base.specs.declared.ids.Vlan.{Vlan}
use Rattle.topology.specs.Networks.{end_at}
use Rattle.flow_rules.specs.Tables.{rules_at, lookup}
use Rattle.flow_rules.specs.declared.rules.Rewrite.TheVariants.{Keep}
use Rattle.flow_rules.specs.declared.rules.Action.{Action}
use Rattle.flow_rules.specs.declared.rules.Action.TheVariants as action
use Rattle.flow_rules.specs.declared.rules.Rule.{Rule}
use Rattle.path_walk.specs.Outcomes.{action_outcome, sent_outcome, header_at}
use Rattle.path_walk.specs.Paths.{Forwards, outcome_in}
use Rattle.path_walk.specs.declared.Outcome.{Outcome}
use Rattle.path_walk.specs.declared.Outcome.TheVariants.{Discard, Leave, Go}
use Rattle.ring_sample.specs.Ring.{ring_stop, ring_network}
use Rattle.ring_sample.proofs.Ways.{IsWay, IsFar, host_end}

-- a place at switch i
abbrev pub place_at : ℕ → ℕ → Vlan → Place
place_at i port vlan = record { switch = record { 0 = i }; port = record { 0 = port }; vlan = vlan }

-- the output to a port
abbrev pub out_of : ℕ → Action
out_of port = action.Out (record { 0 = port }) Keep

module _ (n out into : ℕ) (move : ℕ → ℕ) (way : IsWay n out into move) (tables : List (List Rule)) (dst j : ℕ)
    -- each switch sends to the host where the destination is, and else on
    (sends : (i port : ℕ) (vlan : Vlan) → i < n → lookup (header_at (place_at i port vlan) dst) (rules_at tables (record { 0 = i })) ≡ out_of (cond (i == j) 1 out)) where
  abbrev outs : Place → Outcome
  outs p = outcome_in (ring_network n) tables p dst

  module _ (i port : ℕ) (vlan : Vlan) (lt : i < n) where
    acts : (to : ℕ) → cond (i == j) 1 out ≡ to → outs (place_at i port vlan) ≡ action_outcome (ring_network n) (place_at i port vlan) (out_of to)
    acts to is = ap (action_outcome (ring_network n) (place_at i port vlan)) (sends i port vlan lt ∙ ap out_of is)

    pub goes_on : ¬ (i ≡ j) → ¬ (out ≡ port) → outs (place_at i port vlan) ≡ Go (place_at (move i) into vlan)
    goes_on apart other =
        acts out (cond-false (i == j) 1 out (ne_eqb i j apart))
        ∙ cond-false (out == port) Discard (sent_outcome (end_at (ring_network n) (ring_stop i out)) (record { 0 = out }) vlan) (ne_eqb out port other)
        ∙ ap (λ e. sent_outcome e (record { 0 = out }) vlan) (way.leads i lt)

    pub leaves_at : i ≡ j → ¬ (1 ≡ port) → outs (place_at i port vlan) ≡ Leave (record { 0 = 1 }) vlan
    leaves_at here other =
        acts 1 (cond-true (i == j) 1 out (eq-eqb i j here))
        ∙ cond-false (1 == port) Discard (sent_outcome (end_at (ring_network n) (ring_stop i 1)) (record { 0 = 1 }) vlan) (ne_eqb 1 port other)
        ∙ ap (λ e. sent_outcome e (record { 0 = 1 }) vlan) (host_end n i lt)

    pub drops_at : i ≡ j → 1 ≡ port → outs (place_at i port vlan) ≡ Discard
    drops_at here same =
        acts 1 (cond-true (i == j) 1 out (eq-eqb i j here))
        ∙ cond-true (1 == port) Discard (sent_outcome (end_at (ring_network n) (ring_stop i 1)) (record { 0 = 1 }) vlan) (eq-eqb 1 port same)

  module _ (far : ℕ → ℕ) (is_far : IsFar n j move far) where
    -- nearer than a switch
    abbrev Nearer : ℕ → Place → Type 0
    Nearer i p = far p.switch.0 < far i

    -- the rest of a walk from a place, to where it leaves
    pub record RestFrom (i port : ℕ) (vlan : Vlan) : Type 0 where
      pub rest : List Place
      pub walk : IsWalk (Forwards (ring_network n) tables dst) (place_at i port vlan) rest
      pub leaves : outs (end_of (place_at i port vlan) rest) ≡ Leave (record { 0 = 1 }) vlan
      pub nearer : AllByRecursion (Nearer i) rest
      pub distinct : IsDistinct (map (λ (p : Place). p.switch) (place_at i port vlan ∷ rest))

    not_in : (i : ℕ) (rest : List Place) → AllByRecursion (Nearer i) rest → ¬ IsIn (record { 0 = i }) (map (λ (p : Place). p.switch) rest)
    not_in i rest nearer in_it =
        let (p, there, same) = in_from_map (λ (p : Place). p.switch) (record { 0 = i }) rest in_it in
        let less = each_at (Nearer i) rest p nearer there in
        let number : i ≡ p.switch.0 = ap (λ (s : SwitchId). s.0) same in
        let equal : far i ≡ far p.switch.0 = ap far number in
        omega (arith, less, equal)

    pub rest_from : (d i port : ℕ) (vlan : Vlan) → i < n → far i ≡ d → ¬ (out ≡ port) → (i ≡ j → ¬ (1 ≡ port)) → RestFrom i port vlan
    rest_from zero i port vlan lt none other host =
        let here = is_far.there i lt none in
        record { rest = []; walk = tt; leaves = leaves_at i port vlan lt here (host here); nearer = tt; distinct = (λ x. x, tt) }
    rest_from (suc d) i port vlan lt far_is other host =
        let apart : ¬ (i ≡ j) = λ here. (let home = is_far.home in let same : far i ≡ far j = ap far here in omega (arith, home, same, far_is)) in
        let step = is_far.nearer i lt apart in
        let more = rest_from d (move i) into vlan (way.within i lt) (omega (arith, step, far_is)) way.turns (λ _ e. way.into_host (sym e)) in
        let less : far (move i) < far i = omega (arith, step) in
        let nearer : AllByRecursion (Nearer i) (place_at (move i) into vlan ∷ more.rest) = (less, each_weaker (Nearer (move i)) (Nearer i) (λ p h. omega (arith, h, less)) more.rest more.nearer) in
        record {
          rest = place_at (move i) into vlan ∷ more.rest;
          walk = (goes_on i port vlan lt apart other, more.walk);
          leaves = more.leaves;
          nearer = nearer;
          distinct = (not_in i (place_at (move i) into vlan ∷ more.rest) nearer, more.distinct);
        }
