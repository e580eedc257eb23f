-- Which ports a packet comes in by, and the outcomes of the rules of the two bands.
use Rattle.std.proofs.Common.{◌≡◌, ℕ, ◌<◌, Bool, true, false, cond, List, [], ◌∷◌, ◌++◌, length, refl, sym, ◌∙◌, subst, ap, inl, inr}
use Rattle.std.specs.Prelude.{◌==◌, flat_map, filter}
use Rattle.std.specs.List.{AllByRecursion, list_any}
use Rattle.std.proofs.lemmas.Bool.{eq-eqb, cond_both, false_from_ne_true}
use Rattle.net_base.specs.Members.{IsIn, IsDistinct}
use Rattle.net_base.proofs.MemberLaws.{in_map, in_filter, in_append_left, in_append_right, each_at}
use Rattle.net_base.specs.declared.ids.SwitchId.{SwitchId}
use Rattle.net_base.specs.declared.ids.Port.{Port}
use Rattle.net_base.specs.declared.ids.Stop.{Stop}
use Rattle.net_base.specs.declared.ids.Place.{Place}
use Rattle.net_base.specs.declared.ids.Vlan.{Vlan}
use Rattle.net_base.specs.declared.ids.Vlan.TheVariants as vlan
use Rattle.topology.specs.Networks.{Network, IsNetwork, IsPortNumber, switch_count, end_at, far_end, stop_eq, used_ports}
use Rattle.topology.specs.declared.net.Link.{Link}
use Rattle.topology.specs.declared.net.End.{End}
use Rattle.topology.specs.declared.net.End.TheVariants as at
use Rattle.flow_rules.specs.Patterns.{Header}
use Rattle.flow_rules.specs.Tables.{lookup}
use Rattle.flow_rules.specs.declared.rules.Rule.{Rule}
use Rattle.flow_rules.specs.declared.rules.Rewrite.TheVariants.{Keep, Set}
use Rattle.flow_rules.specs.declared.rules.Action.{Action}
use Rattle.flow_rules.specs.declared.rules.Action.TheVariants as action
use Rattle.path_walk.specs.Outcomes.{action_outcome, sent_outcome, rewritten_vlan}
use Rattle.path_walk.specs.UserConfigs.{IsUserRule, IsUserAction}
use Rattle.path_walk.specs.declared.Outcome.{Outcome}
use Rattle.path_walk.specs.declared.Outcome.TheVariants.{Discard, Leave, Go}
use Rattle.path_walk.proofs.PathLaws.{HasVlan, lookup_each}
use Rattle.certificates.specs.TwoPhase.{outcome_carrying}
use Rattle.two_phase.specs.TwoPhasePlan.{host_end, link_end, is_host, restore, tagged_action, ingress_action, hosts_of}
use Rattle.net_base.proofs.ListLaws.{in_from_any}
use Rattle.topology.proofs.LinkLaws.{stop_eq-true}

abbrev pub stop_at : SwitchId → Port → Stop
stop_at s p = record { switch = s; port = p }

abbrev pub place_at : SwitchId → Port → Vlan → Place
place_at s p v = record { switch = s; port = p; vlan = v }

abbrev link_ends : Link → List Stop
link_ends l = l.one ∷ l.other ∷ []

-- what a port leads to is the end of a link
far_is_end : (stop : Stop) (ls : List Link) (s : SwitchId) (p : Port) → far_end stop ls ≡ at.Link s p → IsIn (stop_at s p) (flat_map link_ends ls)
far_is_end stop [] s p e = absurd (let f : at.Nothing ≡ at.Link s p = e in cc)
far_is_end stop (l ∷ ls) s p e =
    cond_both (stop_eq stop l.one) (at.Link l.other.switch l.other.port) (cond (stop_eq stop l.other) (at.Link l.one.switch l.one.port) (far_end stop ls))
    (λ x. x ≡ at.Link s p → IsIn (stop_at s p) (link_ends l ++ flat_map link_ends ls))
    (λ _ f. inr (inl (is l.other f)))
    (λ _. cond_both (stop_eq stop l.other) (at.Link l.one.switch l.one.port) (far_end stop ls) (λ x. x ≡ at.Link s p → IsIn (stop_at s p) (link_ends l ++ flat_map link_ends ls))
    (λ _ f. inl (is l.one f)) (λ _ f. inr (inr (far_is_end stop ls s p f)))) e
  where
    is : (t : Stop) → at.Link t.switch t.port ≡ at.Link s p → stop_at s p ≡ t
    is t f =
        let a : s ≡ t.switch = cc in
        let b : p ≡ t.port = cc in
        ap (λ x. stop_at x p) a ∙ ap (λ x. stop_at t.switch x) b

far_no_host : (stop : Stop) (ls : List Link) → host_end (far_end stop ls) ≡ false
far_no_host stop [] = refl
far_no_host stop (l ∷ ls) =
    cond_both (stop_eq stop l.one) (at.Link l.other.switch l.other.port) (cond (stop_eq stop l.other) (at.Link l.one.switch l.one.port) (far_end stop ls)) (λ x. host_end x ≡ false) (λ _. refl)
    (λ _. cond_both (stop_eq stop l.other) (at.Link l.one.switch l.one.port) (far_end stop ls) (λ x. host_end x ≡ false) (λ _. refl) (λ _. far_no_host stop ls))

apart : {A : Type 0} (x : A) (xs ys : List A) → IsDistinct (xs ++ ys) → IsIn x xs → IsIn x ys → ⊥
apart x [] ys distinct i j = i
apart x (y ∷ xs) ys distinct (inl e) j = distinct.0 (subst (λ z. IsIn z (xs ++ ys)) e (in_append_right x xs ys j))
apart x (y ∷ xs) ys distinct (inr i) j = apart x xs ys distinct.1 i j

module _ (net : Network) (is : IsNetwork net) where
  -- a packet goes to a port of a switch that there is, and not to a host port
  pub record IsInner (s : SwitchId) (p : Port) : Type 0 where
    pub within : s.0 < switch_count net
    pub not_host : is_host net s p ≡ false

  link_inner : (s : SwitchId) (p : Port) → IsIn (stop_at s p) (flat_map link_ends net.links) → IsInner s p
  link_inner s p i = record {
    within = (each_at (λ stop. (stop.switch.0 < length net.names) × IsPortNumber stop.port.0) (used_ports net) (stop_at s p) is.ports (in_append_right (stop_at s p) net.hosts (flat_map link_ends net.links) i)).0;
    not_host =
        let none : list_any (stop_eq (stop_at s p)) net.hosts ≡ false =
        false_from_ne_true (list_any (stop_eq (stop_at s p)) net.hosts) (λ e.
        let (h, j, f) = in_from_any (stop_eq (stop_at s p)) net.hosts e in
        apart (stop_at s p) net.hosts (flat_map link_ends net.links) is.ports_once (subst (λ x. IsIn x net.hosts) (sym (stop_eq-true (stop_at s p) h f)) j) i) in
        subst (λ b. host_end (cond b at.Host (far_end (stop_at s p) net.links)) ≡ false) (sym none) (far_no_host (stop_at s p) net.links);
  }

  end_inner : (stop : Stop) (s : SwitchId) (p : Port) → end_at net stop ≡ at.Link s p → IsInner s p
  end_inner stop s p e =
      cond_both (list_any (stop_eq stop) net.hosts) at.Host (far_end stop net.links) (λ x. x ≡ at.Link s p → IsInner s p)
      (λ _ f. absurd (let g : at.Host ≡ at.Link s p = f in cc)) (λ _ f. link_inner s p (far_is_end stop net.links s p f)) e

  sent_inner : (e : End) (stop : Stop) → end_at net stop ≡ e → (port : Port) (v : Vlan) (next : Place) → sent_outcome e port v ≡ Go next → IsInner next.switch next.port
  sent_inner at.Nothing stop is_end port v next goes = absurd (let f : Discard ≡ Go next = goes in cc)
  sent_inner at.Host stop is_end port v next goes = absurd (let f : Leave port v ≡ Go next = goes in cc)
  sent_inner (at.Link s p) stop is_end port v next goes =
      let f : place_at s p v ≡ next = cc in
      subst (λ x. IsInner x.switch x.port) f (end_inner stop s p is_end)

  pub goes_inner : (place next : Place) (a : Action) → action_outcome net place a ≡ Go next → IsInner next.switch next.port
  goes_inner place next action.Discard goes = absurd (let f : Discard ≡ Go next = goes in cc)
  goes_inner place next (action.Out port rewrite) goes =
      cond_both (port.0 == place.port.0) Discard (sent_outcome (end_at net (stop_at place.switch port)) port (rewritten_vlan rewrite place.vlan)) (λ o. o ≡ Go next → IsInner next.switch next.port)
      (λ _ f. absurd (let g : Discard ≡ Go next = f in cc))
      (λ _ f. sent_inner (end_at net (stop_at place.switch port)) (stop_at place.switch port) refl port (rewritten_vlan rewrite place.vlan) next f) goes

  pub entry_within : (s : SwitchId) (p : Port) → IsIn (stop_at s p) net.hosts → s.0 < switch_count net
  entry_within s p i =
      (each_at (λ stop. (stop.switch.0 < length net.names) × IsPortNumber stop.port.0) (used_ports net) (stop_at s p) is.ports (in_append_left (stop_at s p) net.hosts (flat_map link_ends net.links) i)).0

pub entry_host : (net : Network) (s : SwitchId) (p : Port) → IsIn (stop_at s p) net.hosts → IsIn p (hosts_of net s)
entry_host net s p i =
    in_map (λ (x : Stop). x.port) (stop_at s p) (filter (λ x. x.switch.0 == s.0) net.hosts)
    (in_filter (λ (x : Stop). x.switch.0 == s.0) (stop_at s p) net.hosts i (eq-eqb s.0 s.0 refl))

restored : (v w : Vlan) → rewritten_vlan (restore v) w ≡ v
restored vlan.Untagged w = refl
restored (vlan.Id n) w = refl

carried_cond : (b : Bool) (tag : Vlan) (o : Outcome) → cond b Discard (outcome_carrying tag o) ≡ outcome_carrying tag (cond b Discard o)
carried_cond true tag o = refl
carried_cond false tag o = refl

module _ (net : Network) (s : SwitchId) (port : Port) where
  -- the action on a tagged packet, and the new rule's on the same packet with its own VLAN
  pub tagged_outcome : (user : Vlan) (tag : ℕ) (a : Action) → IsUserAction net s a
      → action_outcome net (place_at s port (vlan.Id tag)) (tagged_action net s user a) ≡ outcome_carrying (vlan.Id tag) (action_outcome net (place_at s port user) a)
  tagged_outcome user tag action.Discard is = refl
  tagged_outcome user tag (action.Out p rewrite) is =
      subst (λ w. action_outcome net (place_at s port (vlan.Id tag)) (tagged_action net s user (action.Out p w)) ≡ outcome_carrying (vlan.Id tag) (action_outcome net (place_at s port user) (action.Out p w))) (sym is.1)
      (by_end (end_at net (stop_at s p)) refl)
    where
      by_end : (e : End) → end_at net (stop_at s p) ≡ e
          → action_outcome net (place_at s port (vlan.Id tag)) (cond (host_end e) (action.Out p (restore user)) (action.Out p Keep))
          ≡ outcome_carrying (vlan.Id tag) (cond (p.0 == port.0) Discard (sent_outcome (end_at net (stop_at s p)) p user))
      by_end at.Host f =
          ap (λ x. cond (p.0 == port.0) Discard (sent_outcome x p (rewritten_vlan (restore user) (vlan.Id tag)))) f
          ∙ ap (λ x. cond (p.0 == port.0) Discard (Leave p x)) (restored user (vlan.Id tag))
          ∙ carried_cond (p.0 == port.0) (vlan.Id tag) (Leave p user)
          ∙ ap (λ x. outcome_carrying (vlan.Id tag) (cond (p.0 == port.0) Discard (sent_outcome x p user))) (sym f)
      by_end (at.Link t q) f =
          ap (λ x. cond (p.0 == port.0) Discard (sent_outcome x p (vlan.Id tag))) f
          ∙ carried_cond (p.0 == port.0) (vlan.Id tag) (Go (place_at t q user))
          ∙ ap (λ x. outcome_carrying (vlan.Id tag) (cond (p.0 == port.0) Discard (sent_outcome x p user))) (sym f)
      by_end at.Nothing f =
          ap (λ x. cond (p.0 == port.0) Discard (sent_outcome x p (vlan.Id tag))) f
          ∙ carried_cond (p.0 == port.0) (vlan.Id tag) Discard
          ∙ ap (λ x. outcome_carrying (vlan.Id tag) (cond (p.0 == port.0) Discard (sent_outcome x p user))) (sym f)

  -- the action on an entering packet
  pub entering_outcome : (user : Vlan) (tag : ℕ) (a : Action) → IsUserAction net s a
      → action_outcome net (place_at s port user) (ingress_action net s tag a) ≡ outcome_carrying (vlan.Id tag) (action_outcome net (place_at s port user) a)
  entering_outcome user tag action.Discard is = refl
  entering_outcome user tag (action.Out p rewrite) is =
      subst (λ w. action_outcome net (place_at s port user) (ingress_action net s tag (action.Out p w)) ≡ outcome_carrying (vlan.Id tag) (action_outcome net (place_at s port user) (action.Out p w))) (sym is.1)
      (by_end (end_at net (stop_at s p)) refl)
    where
      by_end : (e : End) → end_at net (stop_at s p) ≡ e
          → action_outcome net (place_at s port user) (cond (link_end e) (action.Out p (Set tag)) (action.Out p Keep))
          ≡ outcome_carrying (vlan.Id tag) (cond (p.0 == port.0) Discard (sent_outcome (end_at net (stop_at s p)) p user))
      by_end at.Host f =
          ap (λ x. cond (p.0 == port.0) Discard (sent_outcome x p user)) f
          ∙ carried_cond (p.0 == port.0) (vlan.Id tag) (Leave p user)
          ∙ ap (λ x. outcome_carrying (vlan.Id tag) (cond (p.0 == port.0) Discard (sent_outcome x p user))) (sym f)
      by_end (at.Link t q) f =
          ap (λ x. cond (p.0 == port.0) Discard (sent_outcome x p (vlan.Id tag))) f
          ∙ carried_cond (p.0 == port.0) (vlan.Id tag) (Go (place_at t q user))
          ∙ ap (λ x. outcome_carrying (vlan.Id tag) (cond (p.0 == port.0) Discard (sent_outcome x p user))) (sym f)
      by_end at.Nothing f =
          ap (λ x. cond (p.0 == port.0) Discard (sent_outcome x p user)) f
          ∙ carried_cond (p.0 == port.0) (vlan.Id tag) Discard
          ∙ ap (λ x. outcome_carrying (vlan.Id tag) (cond (p.0 == port.0) Discard (sent_outcome x p user))) (sym f)

-- an outcome that keeps the VLAN carries it
pub carries_own : (v : Vlan) (o : Outcome) → HasVlan v o → o ≡ outcome_carrying v o
carries_own v Discard has = refl
carries_own v (Leave port w) has = refl
carries_own v (Go next) has = ap (λ w. Go (place_at next.switch next.port w)) has

pub user_lookup : (net : Network) (s : SwitchId) (h : Header) (rules : List Rule) → AllByRecursion (IsUserRule net s) rules → IsUserAction net s (lookup h rules)
user_lookup net s h rules user = lookup_each (IsUserAction net s) h rules tt (actions rules user)
  where
    actions : (rs : List Rule) → AllByRecursion (IsUserRule net s) rs → AllByRecursion (λ r. IsUserAction net s r.action) rs
    actions [] all = tt
    actions (r ∷ rs) all = (all.0.action, actions rs all.1)
