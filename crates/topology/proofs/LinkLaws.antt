-- Links lead both ways.
use Rattle.std.proofs.Common.{◌≡◌, ℕ, true, false, cond, List, [], ◌∷◌, ◌++◌, refl, sym, ◌∙◌, subst, ap, inl, inr}
use Rattle.std.specs.Prelude.{◌==◌, flat_map, ◌||◌}
use Rattle.std.specs.List.{list_any}
use Rattle.std.proofs.lemmas.Bool.{eqb-true, eq-eqb, and_parts, and_from, cond-true, cond-false, false_from_ne_true, both_ways}
use Rattle.net_base.specs.Members.{IsIn, IsDistinct}
use Rattle.net_base.proofs.MemberLaws.{in_append_right}
use Rattle.net_base.specs.declared.ids.SwitchId.{SwitchId}
use Rattle.net_base.specs.declared.ids.Port.{Port}
use Rattle.net_base.specs.declared.ids.Stop.{Stop}
use Rattle.topology.specs.Networks.{Network, IsNetwork, stop_eq, far_end, end_at}
use Rattle.topology.specs.declared.net.Link.{Link}
use Rattle.topology.specs.declared.net.End.{End}
use Rattle.topology.specs.declared.net.End.TheVariants as at

pub stop_of_parts : (a b : Stop) → a.switch.0 ≡ b.switch.0 → a.port.0 ≡ b.port.0 → a ≡ b
stop_of_parts a b e f =
    ap (λ (n : ℕ). let s : SwitchId = record { 0 = n } in let x : Stop = record { switch = s; port = a.port } in x) e
    ∙ ap (λ (n : ℕ). let p : Port = record { 0 = n } in let x : Stop = record { switch = b.switch; port = p } in x) f

pub stop_eq-true : (a b : Stop) → stop_eq a b ≡ true → a ≡ b
stop_eq-true a b e = let (s, p) = and_parts (a.switch.0 == b.switch.0) (a.port.0 == b.port.0) e in stop_of_parts a b (eqb-true _ _ s) (eqb-true _ _ p)

pub stop_eq-refl : (a : Stop) → stop_eq a a ≡ true
stop_eq-refl a = and_from (a.switch.0 == a.switch.0) (a.port.0 == a.port.0) (eq-eqb a.switch.0 a.switch.0 refl) (eq-eqb a.port.0 a.port.0 refl)

pub stop_ne : (a b : Stop) → ¬ (a ≡ b) → stop_eq a b ≡ false
stop_ne a b ne = false_from_ne_true (stop_eq a b) (λ e. ne (stop_eq-true a b e))

-- a stop of the list is found in it
pub any_from_in : (stop : Stop) (stops : List Stop) → IsIn stop stops → list_any (stop_eq stop) stops ≡ true
any_from_in stop [] i = absurd i
any_from_in stop (x ∷ stops) (inl e) = ap (λ b. b || list_any (stop_eq stop) stops) (subst (λ y. stop_eq stop y ≡ true) e (stop_eq-refl stop))
any_from_in stop (x ∷ stops) (inr i) =
    elim (stop_eq stop x) as (λ b. (b || list_any (stop_eq stop) stops) ≡ true) [ true ↦ refl | false ↦ any_from_in stop stops i ]

-- what is found in the list is in it
pub in_from_any : (stop : Stop) (stops : List Stop) → list_any (stop_eq stop) stops ≡ true → IsIn stop stops
in_from_any stop [] e = absurd (both_ways false refl e)
in_from_any stop (x ∷ stops) e =
    elim (stop_eq stop x) as (λ b. stop_eq stop x ≡ b → (b || list_any (stop_eq stop) stops) ≡ true → IsIn stop (x ∷ stops)) [
      | true ↦ λ f _. inl (stop_eq-true stop x f)
      | false ↦ λ _ g. inr (in_from_any stop stops g)
    ] refl e

-- the ends of the links
abbrev pub ends_of : List Link → List Stop
ends_of links = flat_map (λ l. l.one ∷ l.other ∷ []) links

far_is : (a b : SwitchId) (p q : Port) → at.Link a p ≡ at.Link b q → (a ≡ b) × (p ≡ q)
far_is a b p q e = let f : a ≡ b = cc in let g : p ≡ q = cc in (f, g)

-- two stops with the same link are one
abbrev LeadsTo : End → Stop → Type 0
LeadsTo e stop = e ≡ at.Link stop.switch stop.port

leads_same : (a b : Stop) → LeadsTo (at.Link a.switch a.port) b → a ≡ b
leads_same a b e = let (f, g) = far_is a.switch b.switch a.port b.port e in stop_of_parts a b (ap (λ x. x.0) f) (ap (λ x. x.0) g)

module _ (stop far : Stop) where
  -- a link leads back, and its far end is among the ends
  far_back : (links : List Link) → IsDistinct (ends_of links) → LeadsTo (far_end stop links) far → LeadsTo (far_end far links) stop × IsIn far (ends_of links)
  far_back [] once e = absurd (let f : at.Nothing ≡ at.Link far.switch far.port = e in cc)
  far_back (l ∷ ls) once e =
      elim (stop_eq stop l.one) as (λ b. stop_eq stop l.one ≡ b → LeadsTo (cond b (at.Link l.other.switch l.other.port) (cond (stop_eq stop l.other) (at.Link l.one.switch l.one.port) (far_end stop ls))) far
      → LeadsTo (far_end far (l ∷ ls)) stop × IsIn far (ends_of (l ∷ ls))) [
        | true ↦ λ is e1. (
            let here = stop_eq-true stop l.one is in
            let there = leads_same l.other far e1 in
            let ne : ¬ (far ≡ l.one) = λ f. once.0 (inl (sym f ∙ sym there)) in (
              cond-false (stop_eq far l.one) _ _ (stop_ne far l.one ne)
                  ∙ cond-true (stop_eq far l.other) (at.Link l.one.switch l.one.port) (far_end far ls) (subst (λ x. stop_eq x l.other ≡ true) there (stop_eq-refl l.other))
                  ∙ ap (λ (x : Stop). at.Link x.switch x.port) (sym here),
              inr (inl (sym there)),
            ))
        | false ↦ λ not_one e1.
            elim (stop_eq stop l.other) as (λ b. stop_eq stop l.other ≡ b → LeadsTo (cond b (at.Link l.one.switch l.one.port) (far_end stop ls)) far
            → LeadsTo (far_end far (l ∷ ls)) stop × IsIn far (ends_of (l ∷ ls))) [
              | true ↦ λ is e2. (
                  let here = stop_eq-true stop l.other is in
                  let there = leads_same l.one far e2 in (
                    cond-true (stop_eq far l.one) (at.Link l.other.switch l.other.port) _ (subst (λ x. stop_eq x l.one ≡ true) there (stop_eq-refl l.one))
                        ∙ ap (λ (x : Stop). at.Link x.switch x.port) (sym here),
                    inl (sym there),
                  ))
              | false ↦ λ not_other e2. (
                  let (back, i) = far_back ls once.1.1 e2 in
                  let n1 : ¬ (far ≡ l.one) = λ f. once.0 (inr (subst (λ x. IsIn x (ends_of ls)) f i)) in
                  let n2 : ¬ (far ≡ l.other) = λ f. once.1.0 (subst (λ x. IsIn x (ends_of ls)) f i) in
                  (cond-false (stop_eq far l.one) _ _ (stop_ne far l.one n1) ∙ cond-false (stop_eq far l.other) _ _ (stop_ne far l.other n2) ∙ back, inr (inr i)))
            ] refl e1
      ] refl e

pub last_distinct : (xs ys : List Stop) → IsDistinct (xs ++ ys) → IsDistinct ys
last_distinct [] ys once = once
last_distinct (x ∷ xs) ys once = last_distinct xs ys once.1

pub not_both : (x : Stop) (xs ys : List Stop) → IsDistinct (xs ++ ys) → IsIn x xs → ¬ IsIn x ys
not_both x [] ys once i j = absurd i
not_both x (y ∷ xs) ys once (inl e) j = once.0 (in_append_right y xs ys (subst (λ z. IsIn z ys) e j))
not_both x (y ∷ xs) ys once (inr i) j = not_both x xs ys once.1 i j

-- what is at the far end of a link is its near end
pub link_back : (net : Network) → IsNetwork net → (stop far : Stop) → end_at net stop ≡ at.Link far.switch far.port → end_at net far ≡ at.Link stop.switch stop.port
link_back net is stop far e =
    elim (list_any (stop_eq stop) net.hosts) as (λ b. LeadsTo (cond b at.Host (far_end stop net.links)) far → LeadsTo (end_at net far) stop) [
      | true ↦ λ f. absurd (let g : at.Host ≡ at.Link far.switch far.port = f in cc)
      | false ↦ λ f. (
          let (back, i) = far_back stop far net.links (last_distinct net.hosts (ends_of net.links) is.ports_once) f in
          let out : list_any (stop_eq far) net.hosts ≡ false = false_from_ne_true (list_any (stop_eq far) net.hosts) (λ t. not_both far net.hosts (ends_of net.links) is.ports_once (in_from_any far net.hosts t) i) in
          cond-false (list_any (stop_eq far) net.hosts) at.Host (far_end far net.links) out ∙ back)
    ] e

-- a host port has a host
pub host_at : (net : Network) (stop : Stop) → IsIn stop net.hosts → end_at net stop ≡ at.Host
host_at net stop i = cond-true (list_any (stop_eq stop) net.hosts) at.Host (far_end stop net.links) (any_from_in stop net.hosts i)
