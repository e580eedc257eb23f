-- Hops stay within the network, and distinct switches are no more than there are.
use Rattle.std.proofs.Common.{◌≡◌, ℕ, zero, suc, ◌<◌, ◌≤◌, true, false, cond, List, [], ◌∷◌, length, refl, subst, ap, inl, inr, arith}
use Rattle.std.specs.Prelude.{◌==◌, flat_map}
use Rattle.std.specs.List.{AllByRecursion, list_any}
use Rattle.std.proofs.lemmas.Bool.{cases_eq}
use Rattle.net_base.specs.Members.{IsIn, IsDistinct}
use Rattle.net_base.specs.Places.{stop_of}
use Rattle.net_base.proofs.ListLaws.{no_longer}
use Rattle.net_base.proofs.MemberLaws.{each_first, each_last, each_at}
use Rattle.net_base.proofs.NameLaws.{same_switch}
use Rattle.net_base.specs.declared.ids.SwitchId.{SwitchId}
use Rattle.net_base.specs.declared.ids.Port.{Port}
use Rattle.net_base.specs.declared.ids.Stop.{Stop}
use Rattle.net_base.specs.declared.ids.Place.{Place}
use Rattle.net_base.specs.declared.ids.Vlan.{Vlan}
use Rattle.topology.specs.Networks.{Network, IsNetwork, IsEntry, IsPortNumber, switch_count, stop_eq, far_end, end_at}
use Rattle.topology.specs.declared.net.Link.{Link}
use Rattle.topology.specs.declared.net.End.{End}
use Rattle.topology.specs.declared.net.End.TheVariants as at
use Rattle.flow_rules.specs.Tables.{lookup, rules_at}
use Rattle.flow_rules.specs.declared.rules.Rule.{Rule}
use Rattle.flow_rules.specs.declared.rules.Action.{Action}
use Rattle.flow_rules.specs.declared.rules.Action.TheVariants as action
use Rattle.path_walk.specs.Outcomes.{header_at, rewritten_vlan, sent_outcome, action_outcome, outcome}
use Rattle.path_walk.specs.Paths.{outcome_in}
use Rattle.path_walk.specs.declared.Outcome.TheVariants.{Discard, Leave, Go}

-- the switches below a number
abbrev switches_below : ℕ → List SwitchId
switches_below zero = []
switches_below (suc n) = record { 0 = n } ∷ switches_below n

length-switches_below : (n : ℕ) → length (switches_below n) ≡ n
length-switches_below zero = refl
length-switches_below (suc n) = ap suc (length-switches_below n)

in_switches_below : (s : SwitchId) (n : ℕ) → s.0 < n → IsIn s (switches_below n)
in_switches_below s zero lt = absurd (omega arith)
in_switches_below s (suc n) lt = elim (cases_eq s.0 n) [ inl e ↦ inl (same_switch s (record { 0 = n }) e) | inr ne ↦ inr (in_switches_below s n (omega arith)) ]

-- distinct switches below a number are at most so many
pub few_switches : (n : ℕ) (xs : List SwitchId) → IsDistinct xs → AllByRecursion (λ s. s.0 < n) xs → length xs ≤ n
few_switches n xs distinct below =
    let few = no_longer xs (switches_below n) distinct (λ s i. in_switches_below s n (each_at (λ (t : SwitchId). t.0 < n) xs s below i)) in
    let count = length-switches_below n in
    omega arith

-- a stop of the network
abbrev IsWithin : Network → Stop → Type 0
IsWithin net stop = (stop.switch.0 < switch_count net) × IsPortNumber stop.port.0

module _ (net : Network) (valid : IsNetwork net) where
  far_within : (stop : Stop) (s : SwitchId) (p : Port) (links : List Link) → AllByRecursion (IsWithin net) (flat_map (λ l. l.one ∷ l.other ∷ []) links)
      → far_end stop links ≡ at.Link s p → s.0 < switch_count net
  far_within stop s p [] all e = absurd (let f : at.Nothing ≡ at.Link s p = e in cc)
  far_within stop s p (l ∷ links) all e =
      elim (stop_eq stop l.one) as (λ b. cond b (at.Link l.other.switch l.other.port) (cond (stop_eq stop l.other) (at.Link l.one.switch l.one.port) (far_end stop links)) ≡ at.Link s p
      → s.0 < switch_count net) [
        | true ↦ λ f. let g : at.Link l.other.switch l.other.port ≡ at.Link s p = f in let h : l.other.switch ≡ s = cc in subst (λ (x : SwitchId). x.0 < switch_count net) h all.1.0.0
        | false ↦ λ f.
            elim (stop_eq stop l.other) as (λ b. cond b (at.Link l.one.switch l.one.port) (far_end stop links) ≡ at.Link s p → s.0 < switch_count net) [
              | true ↦ λ k. let g : at.Link l.one.switch l.one.port ≡ at.Link s p = k in let h : l.one.switch ≡ s = cc in subst (λ (x : SwitchId). x.0 < switch_count net) h all.0.0
              | false ↦ λ k. far_within stop s p links all.1.1 k
            ] f
      ] e

  end_within : (stop : Stop) (s : SwitchId) (p : Port) → end_at net stop ≡ at.Link s p → s.0 < switch_count net
  end_within stop s p e =
      elim (list_any (stop_eq stop) net.hosts) as (λ b. cond b at.Host (far_end stop net.links) ≡ at.Link s p → s.0 < switch_count net) [
        | true ↦ λ f. absurd (let g : at.Host ≡ at.Link s p = f in cc)
        | false ↦ λ f. far_within stop s p net.links (each_last (IsWithin net) net.hosts (flat_map (λ l. l.one ∷ l.other ∷ []) net.links) valid.ports) f
      ] e

  sent_within : (stop : Stop) (end : End) (port : Port) (v : Vlan) (next : Place) → end_at net stop ≡ end → sent_outcome end port v ≡ Go next → next.switch.0 < switch_count net
  sent_within stop at.Nothing port v next is e = absurd (let f : Discard ≡ Go next = e in cc)
  sent_within stop at.Host port v next is e = absurd (let f : Leave port v ≡ Go next = e in cc)
  sent_within stop (at.Link s p) port v next is e =
      let place : Place = record { switch = s; port = p; vlan = v } in
      let f : Go place ≡ Go next = e in
      let g : place ≡ next = cc in
      subst (λ (x : Place). x.switch.0 < switch_count net) g (end_within stop s p is)

  acted_within : (place : Place) (a : Action) (next : Place) → action_outcome net place a ≡ Go next → next.switch.0 < switch_count net
  acted_within place action.Discard next e = absurd (let f : Discard ≡ Go next = e in cc)
  acted_within place (action.Out port rewrite) next e =
      let stop : Stop = record { switch = place.switch; port = port } in
      elim (port.0 == place.port.0) as (λ b. cond b Discard (sent_outcome (end_at net stop) port (rewritten_vlan rewrite place.vlan)) ≡ Go next → next.switch.0 < switch_count net) [
        | true ↦ λ f. absurd (let g : Discard ≡ Go next = f in cc)
        | false ↦ λ f. sent_within stop (end_at net stop) port (rewritten_vlan rewrite place.vlan) next refl f
      ] e

  -- a hop goes to a switch of the network, whatever table is there
  pub hop_within : (table : List Rule) (dst : ℕ) (place next : Place) → outcome net table place dst ≡ Go next → next.switch.0 < switch_count net
  hop_within table dst place next e = acted_within place (lookup (header_at place dst) table) next e

  pub go_within : (tables : List (List Rule)) (dst : ℕ) (place next : Place) → outcome_in net tables place dst ≡ Go next → next.switch.0 < switch_count net
  go_within tables dst place next e = hop_within (rules_at tables place.switch) dst place next e

  -- an entry is at a switch of the network
  pub entry_within : (place : Place) → IsEntry net place → place.switch.0 < switch_count net
  entry_within place entry =
      (each_at (IsWithin net) net.hosts (stop_of place) (each_first (IsWithin net) net.hosts (flat_map (λ l. l.one ∷ l.other ∷ []) net.links) valid.ports) entry.host).0
