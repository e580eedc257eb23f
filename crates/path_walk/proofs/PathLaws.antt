-- The path of an entry in tables is one, and in a user configuration it keeps the VLAN.
use Rattle.std.proofs.Common.{◌≡◌, ℕ, Bool, List, [], ◌∷◌, map, refl, sym, ◌∙◌, subst, ap}
use Rattle.std.specs.Prelude.{◌==◌, Some, find}
use Rattle.std.specs.Option.{option_map_or}
use Rattle.std.specs.List.{AllByRecursion}
use Rattle.std.proofs.lemmas.Bool.{cond_both}
use Rattle.net_base.specs.Members.{IsPrefix}
use Rattle.net_base.specs.Walks.{IsWalk, end_of}
use Rattle.net_base.specs.Places.{stop_of}
use Rattle.net_base.proofs.MemberLaws.{each_filter}
use Rattle.net_base.specs.declared.ids.SwitchId.{SwitchId}
use Rattle.net_base.specs.declared.ids.Port.{Port}
use Rattle.net_base.specs.declared.ids.Place.{Place}
use Rattle.net_base.specs.declared.ids.Stop.{Stop}
use Rattle.net_base.specs.declared.ids.Vlan.{Vlan}
use Rattle.topology.specs.Networks.{Network, end_at}
use Rattle.topology.specs.declared.net.End.{End}
use Rattle.topology.specs.declared.net.End.TheVariants as at
use Rattle.flow_rules.specs.Patterns.{Header, covers}
use Rattle.flow_rules.specs.Tables.{rules_at, lookup, covering_rules}
use Rattle.flow_rules.proofs.LookupLaws.{is_top}
use Rattle.flow_rules.specs.declared.rules.Rule.{Rule}
use Rattle.flow_rules.specs.declared.rules.Action.{Action}
use Rattle.flow_rules.specs.declared.rules.Action.TheVariants as action
use Rattle.path_walk.specs.Outcomes.{action_outcome, sent_outcome, rewritten_vlan, header_at}
use Rattle.path_walk.specs.Paths.{Trace, Forwards, outcome_in, ended_by, IsEnd, IsPath}
use Rattle.path_walk.specs.declared.Ended.{Ended}
use Rattle.path_walk.specs.UserConfigs.{IsUserConfig, IsUserRule, IsUserAction}
use Rattle.path_walk.specs.declared.Outcome.{Outcome}
use Rattle.path_walk.specs.declared.Outcome.TheVariants.{Discard, Leave, Go}

module _ (net : Network) (tables : List (List Rule)) (dst : ℕ) where
  -- the path ends at the place
  abbrev pub EndsAt : Place → Type 0
  EndsAt place = IsEnd (ended_by place (outcome_in net tables place dst))

  ends_or_goes : (place next : Place) → EndsAt place → outcome_in net tables place dst ≡ Go next → ⊥
  ends_or_goes place next ends goes = subst (λ o. IsEnd (ended_by place o)) goes ends

  one_next : (place q p : Place) → outcome_in net tables place dst ≡ Go q → outcome_in net tables place dst ≡ Go p → q ≡ p
  one_next place q p e f = let g : Go q ≡ Go p = sym e ∙ f in cc

  -- places that the tables lead through begin each list of them that ends
  pub walk_begins : (place : Place) (qs ps : List Place) → IsWalk (Forwards net tables dst) place qs → IsWalk (Forwards net tables dst) place ps → EndsAt (end_of place ps)
      → IsPrefix (map stop_of qs) (map stop_of ps)
  walk_begins place [] ps first second ends = tt
  walk_begins place (q ∷ qs) [] first second ends = absurd (ends_or_goes place q ends first.0)
  walk_begins place (q ∷ qs) (p ∷ ps) first second ends =
      let e = one_next place q p first.0 second.0 in
      (ap stop_of e, walk_begins p qs ps (subst (λ x. IsWalk (Forwards net tables dst) x qs) e first.1) second.1 ends)

  -- and are all of them where they end
  pub walk_same : (place : Place) (qs ps : List Place) → IsWalk (Forwards net tables dst) place qs → IsWalk (Forwards net tables dst) place ps
      → EndsAt (end_of place qs) → EndsAt (end_of place ps) → qs ≡ ps
  walk_same place [] [] first second here there = refl
  walk_same place [] (p ∷ ps) first second here there = absurd (ends_or_goes place p here second.0)
  walk_same place (q ∷ qs) [] first second here there = absurd (ends_or_goes place q there first.0)
  walk_same place (q ∷ qs) (p ∷ ps) first second here there =
      let e = one_next place q p first.0 second.0 in
      ap (λ x. x ∷ qs) e ∙ ap (λ xs. p ∷ xs) (walk_same p qs ps (subst (λ x. IsWalk (Forwards net tables dst) x qs) e first.1) second.1 (subst (λ x. EndsAt (end_of x qs)) e here) there)

-- what holds of discard and of each rule's action holds of the lookup
pub lookup_each : (P : Action → Type 0) (h : Header) (rules : List Rule) → P action.Discard → AllByRecursion (λ r. P r.action) rules → P (lookup h rules)
lookup_each P h rules none all = found (covering_rules h rules) (each_filter (λ r. P r.action) (λ r. covers r.key.pattern h) rules all)
  where
    found_in : (test : Rule → Bool) (rs : List Rule) → AllByRecursion (λ r. P r.action) rs → P (option_map_or (λ r. r.action) (find test rs) action.Discard)
    found_in test [] each = none
    found_in test (r ∷ rs) each = cond_both (test r) (Some r) (find test rs) (λ o. P (option_map_or (λ x. x.action) o action.Discard)) (λ _. each.0) (λ _. found_in test rs each.1)

    found : (rs : List Rule) → AllByRecursion (λ r. P r.action) rs → P (option_map_or (λ r. r.action) (find (is_top rs) rs) action.Discard)
    found rs each = found_in (is_top rs) rs each

-- the outcome has the VLAN of the place
abbrev pub HasVlan : Vlan → Outcome → Type 0
HasVlan v Discard = Unit {0}
HasVlan v (Leave port vlan) = vlan ≡ v
HasVlan v (Go next) = next.vlan ≡ v

sent_keeps : (e : End) (port : Port) (v : Vlan) → HasVlan v (sent_outcome e port v)
sent_keeps at.Host port v = refl
sent_keeps (at.Link s p) port v = refl
sent_keeps at.Nothing port v = tt

acted_keeps : (net : Network) (s : SwitchId) (place : Place) (a : Action) → IsUserAction net s a → HasVlan place.vlan (action_outcome net place a)
acted_keeps net s place action.Discard user = tt
acted_keeps net s place (action.Out port rewrite) user =
    cond_both (port.0 == place.port.0) Discard (sent_outcome (end_at net (record { switch = place.switch; port = port })) port (rewritten_vlan rewrite place.vlan)) (HasVlan place.vlan) (λ _. tt)
    (λ _. subst (λ r. HasVlan place.vlan (sent_outcome (end_at net (record { switch = place.switch; port = port })) port (rewritten_vlan r place.vlan))) (sym user.1) (sent_keeps (end_at net (record { switch = place.switch; port = port })) port place.vlan))

module _ (net : Network) (tables : List (List Rule)) (user : IsUserConfig net tables) (dst : ℕ) where
  -- a user configuration keeps the VLAN
  pub outcome_keeps : (place : Place) → HasVlan place.vlan (outcome_in net tables place dst)
  outcome_keeps place =
      acted_keeps net place.switch place (lookup (header_at place dst) (rules_at tables place.switch))
      (lookup_each (IsUserAction net place.switch) (header_at place dst) (rules_at tables place.switch) tt (actions (rules_at tables place.switch) (user.rules place.switch)))
    where
      actions : (rs : List Rule) → AllByRecursion (IsUserRule net place.switch) rs → AllByRecursion (λ r. IsUserAction net place.switch r.action) rs
      actions [] all = tt
      actions (r ∷ rs) all = (all.0.action, actions rs all.1)

  pub walk_keeps : (place : Place) (qs : List Place) → IsWalk (Forwards net tables dst) place qs → (end_of place qs).vlan ≡ place.vlan
  walk_keeps place [] walk = refl
  walk_keeps place (q ∷ qs) walk = walk_keeps q qs walk.1 ∙ subst (HasVlan place.vlan) walk.0 (outcome_keeps place)

module _ (net : Network) (tables : List (List Rule)) (entry : Place) (dst : ℕ) where
  path_ends : (trace : Trace) (path : IsPath net tables entry dst trace) → EndsAt net tables dst (end_of entry path.rest)
  path_ends trace path = subst IsEnd path.ended path.ends

  -- there is one path of an entry and an address
  pub path_one : (a b : Trace) → IsPath net tables entry dst a → IsPath net tables entry dst b → a ≡ b
  path_one a b first second =
      let same = walk_same net tables dst entry first.rest second.rest first.walk second.walk (path_ends a first) (path_ends b second) in
      let stops : a.stops ≡ b.stops = first.stops ∙ ap (λ (rest : List Place). map stop_of (entry ∷ rest)) same ∙ sym second.stops in
      let end : a.ended ≡ b.ended = first.ended ∙ ap (λ (rest : List Place). ended_by (end_of entry rest) (outcome_in net tables (end_of entry rest) dst)) same ∙ sym second.ended in
      ap (λ (xs : List Stop). let t : Trace = record { stops = xs; ended = a.ended } in t) stops ∙ ap (λ (e : Ended). let t : Trace = record { stops = b.stops; ended = e } in t) end

  -- places that the tables lead through from the entry begin its path
  pub path_begins : (places : List Place) (trace : Trace) → IsWalk (Forwards net tables dst) entry places → IsPath net tables entry dst trace → IsPrefix (map stop_of (entry ∷ places)) trace.stops
  path_begins places trace walk path =
      subst (IsPrefix (map stop_of (entry ∷ places))) (sym path.stops) (refl, walk_begins net tables dst entry places path.rest walk path.walk (path_ends trace path))
