-- The used ports as the code holds them.
use Rattle.std.proofs.Common.{◌≡◌, ◌≢◌, ◌↔◌, ℕ, zero, suc, ◌+◌, ◌≤◌, ◌<◌, ◌==◌, ◌||◌, get_or, set, replicate, Bool, true, false, cond, IsTrue, List, [], ◌∷◌, ◌++◌, map, length, Option, Some, None, is_some, refl, sym, ◌∙◌, ap, subst, inl, inr, arith, length-append, length-set}
use Rattle.std.specs.Prelude.{count_by, filter, unwrap_or, slice_get}
use Rattle.std.specs.Cmp.{IsEquivalence}
use Rattle.std.specs.List.{list_any}
use Rattle.std.specs.Map.{lookup}
use Rattle.std.proofs.lemmas.Bool.{false≢true, cond-false, false_from_ne_true, eqb-true, eqb-false}
use Rattle.std.proofs.lemmas.Grind.{get_or-set_at}
use Rattle.std.proofs.lemmas.List.{get_or-set_other}
use Rattle.std.proofs.lemmas.List.Folds.{list_any-append}
use Rattle.std.proofs.lemmas.List.Sums.{length-filter}
use Rattle.std.proofs.lemmas.List.Elements.{filter-append}
use Rattle.std.proofs.lemmas.Map.Made.{is_some-lookup}
use Rattle.std.proofs.lemmas.Map.Entries.{hash_map_get_place}
use Rattle.indexmap.specs.IndexMap.{IndexMap, IsUnique, insert_entry}
use Rattle.indexmap.proofs.CallerLemmas.{insert_entry-new}
use Rattle.net_base.specs.Members.{IsIn}
use Rattle.net_base.proofs.MemberLaws.{in_append_left, in_append_right, in_append_cases, map-push}
use Rattle.net_base.specs.declared.ids.SwitchId.{SwitchId}
use Rattle.net_base.specs.declared.ids.Stop.{Stop}
use Rattle.topology.proofs.LinkLaws.{stop_eq-true, stop_eq-refl, stop_ne, any_from_in, in_from_any, ends_of, not_both}
use Rattle.topology.specs.Networks.{Network, IsNetwork, IsUsed, stop_eq, far_end, end_at, used_ports, is_used, is_host, is_on}
use Rattle.topology.specs.Ends.{port_ends, is_host_end, AreCounts}
use Rattle.topology.specs.declared.net.Link.{Link}
use Rattle.topology.specs.declared.net.End.{End}
use Rattle.topology.specs.declared.net.End.TheVariants as at

abbrev pub Entry : Type 0
Entry = Stop × End

abbrev pub port_of : Entry → Stop
port_of p = p.0

hosts_named : (hosts : List Stop) → map port_of (map (λ h. (h, at.Host)) hosts) ≡ hosts
hosts_named [] = refl
hosts_named (h ∷ hosts) = ap (λ (xs : List Stop). h ∷ xs) (hosts_named hosts)

-- the ports of the links and hosts
pub ports_named : (links : List Link) (hosts : List Stop) → map port_of (port_ends links hosts) ≡ ends_of links ++ hosts
ports_named [] hosts = hosts_named hosts
ports_named (l ∷ links) hosts = ap (λ (xs : List Stop). l.one ∷ l.other ∷ xs) (ports_named links hosts)

or_turned : (a b : Bool) → (a || b) ≡ (b || a)
or_turned true true = refl
or_turned true false = refl
or_turned false true = refl
or_turned false false = refl

-- a test of the used ports, in either order
pub any_turned : (p : Stop → Bool) (xs ys : List Stop) → list_any p (xs ++ ys) ≡ list_any p (ys ++ xs)
any_turned p xs ys = list_any-append p xs ys ∙ or_turned (list_any p xs) (list_any p ys) ∙ sym (list_any-append p ys xs)

pub count_append : {A : Type 0} (p : A → Bool) (xs ys : List A) → count_by p (xs ++ ys) ≡ count_by p xs + count_by p ys
count_append p xs ys =
    let a = length-filter p xs in
    let b = length-filter p ys in
    let c = length-filter p (xs ++ ys) in
    let d = ap length (filter-append p xs ys) ∙ length-append (filter p xs) (filter p ys) in
    omega arith

pub count_turned : (p : Stop → Bool) (xs ys : List Stop) → count_by p (xs ++ ys) ≡ count_by p (ys ++ xs)
count_turned p xs ys = let a = count_append p xs ys in let b = count_append p ys xs in omega arith

abbrev pub zeros_of : ℕ → List ℕ
zeros_of n = replicate n 0

zeros : (n i : ℕ) → get_or (zeros_of n) i 0 ≡ 0
zeros zero i = refl
zeros (suc n) zero = refl
zeros (suc n) (suc i) = zeros n i

-- no port is counted
pub none_counted : (n : ℕ) → AreCounts (zeros_of n) []
none_counted n s = zeros n s.0

-- one port more is counted
pub counted : (counts : List ℕ) (ports : List Stop) (stop : Stop) → AreCounts counts ports → stop.switch.0 < length counts
    → AreCounts (set counts stop.switch.0 (get_or counts stop.switch.0 0 + 1)) (ports ++ stop ∷ [])
counted counts ports stop are within s =
    let n = stop.switch.0 in
    let more = count_append (is_on s) ports (stop ∷ []) in
    let before = are s in
    elim (n == s.0) as (λ b. (n == s.0) ≡ b → get_or (set counts n (get_or counts n 0 + 1)) s.0 0 ≡ count_by (is_on s) (ports ++ stop ∷ [])) [
      | true ↦ λ e.
          let same : n ≡ s.0 = eqb-true n s.0 e in
          let now = get_or-set_at counts n s.0 (get_or counts n 0 + 1) 0 (sym same) within in
          let there = ap (λ (m : ℕ). get_or counts m 0) same in
          let one : count_by (is_on s) (stop ∷ []) ≡ 1 = ap (λ (b : Bool). 0 + cond b 1 0) e in
          omega arith
      | false ↦ λ e.
          let now = get_or-set_other counts n s.0 (get_or counts n 0 + 1) 0 (λ same. eqb-false n s.0 e (sym same)) in
          let none : count_by (is_on s) (stop ∷ []) ≡ 0 = ap (λ (b : Bool). 0 + cond b 1 0) e in
          omega arith
    ] refl

module _ (stop : Stop) where
  abbrev looked : List Entry → Option End
  looked es = lookup (stop_eq stop) es

  host_looked : (hosts : List Stop) → list_any (stop_eq stop) hosts ≡ true → looked (map (λ h. (h, at.Host)) hosts) ≡ Some at.Host
  host_looked [] h = absurd (false≢true h)
  host_looked (x ∷ hosts) h =
      elim (stop_eq stop x) as (λ b. (b || list_any (stop_eq stop) hosts) ≡ true → cond b (Some at.Host) (looked (map (λ h. (h, at.Host)) hosts)) ≡ Some at.Host) [
        | true ↦ λ _. refl
        | false ↦ λ f. host_looked hosts f
      ] h

  no_host_looked : (hosts : List Stop) → list_any (stop_eq stop) hosts ≡ false → looked (map (λ h. (h, at.Host)) hosts) ≡ None
  no_host_looked [] h = refl
  no_host_looked (x ∷ hosts) h =
      elim (stop_eq stop x) as (λ b. (b || list_any (stop_eq stop) hosts) ≡ false → cond b (Some at.Host) (looked (map (λ h. (h, at.Host)) hosts)) ≡ None) [
        | true ↦ λ f. absurd (false≢true (sym f))
        | false ↦ λ f. no_host_looked hosts f
      ] h

  -- a port that no link has is looked up among the hosts
  past_links : (links : List Link) (hosts : List Stop) → ¬ IsIn stop (ends_of links) → looked (port_ends links hosts) ≡ looked (map (λ h. (h, at.Host)) hosts)
  past_links [] hosts out = refl
  past_links (l ∷ links) hosts out =
      cond-false (stop_eq stop l.one) _ _ (stop_ne stop l.one (λ e. out (inl e)))
      ∙ cond-false (stop_eq stop l.other) _ _ (stop_ne stop l.other (λ e. out (inr (inl e))))
      ∙ past_links links hosts (λ i. out (inr (inr i)))

  -- a port that no host has is looked up among the links
  links_looked : (links : List Link) (hosts : List Stop) → list_any (stop_eq stop) hosts ≡ false → unwrap_or (looked (port_ends links hosts)) at.Nothing ≡ far_end stop links
  links_looked [] hosts h = ap (λ o. unwrap_or o at.Nothing) (no_host_looked hosts h)
  links_looked (l ∷ links) hosts h =
      elim (stop_eq stop l.one) as (λ b. unwrap_or (cond b (Some (at.Link l.other.switch l.other.port)) (cond (stop_eq stop l.other) (Some (at.Link l.one.switch l.one.port)) (looked (port_ends links hosts)))) at.Nothing
      ≡ cond b (at.Link l.other.switch l.other.port) (cond (stop_eq stop l.other) (at.Link l.one.switch l.one.port) (far_end stop links))) [
        | true ↦ refl
        | false ↦ elim (stop_eq stop l.other) as (λ b. unwrap_or (cond b (Some (at.Link l.one.switch l.one.port)) (looked (port_ends links hosts))) at.Nothing
            ≡ cond b (at.Link l.one.switch l.one.port) (far_end stop links)) [
              | true ↦ refl
              | false ↦ links_looked links hosts h
            ]
      ]

  -- what the look-up gives is what is at the port
  pub end_looked : (net : Network) → IsNetwork net → unwrap_or (looked (port_ends net.links net.hosts)) at.Nothing ≡ end_at net stop
  end_looked net is =
      elim (list_any (stop_eq stop) net.hosts) as (λ b. list_any (stop_eq stop) net.hosts ≡ b → unwrap_or (looked (port_ends net.links net.hosts)) at.Nothing ≡ cond b at.Host (far_end stop net.links)) [
        | true ↦ λ h.
            let out = not_both stop net.hosts (ends_of net.links) is.ports_once (in_from_any stop net.hosts h) in
            ap (λ o. unwrap_or o at.Nothing) (past_links net.links net.hosts out ∙ host_looked net.hosts h)
        | false ↦ λ h. links_looked net.links net.hosts h
      ] refl

  far_is_no_host : (links : List Link) → is_host_end (far_end stop links) ≡ false
  far_is_no_host [] = refl
  far_is_no_host (l ∷ links) =
      elim (stop_eq stop l.one) as (λ b. is_host_end (cond b (at.Link l.other.switch l.other.port) (cond (stop_eq stop l.other) (at.Link l.one.switch l.one.port) (far_end stop links))) ≡ false) [
        | true ↦ refl
        | false ↦ elim (stop_eq stop l.other) as (λ b. is_host_end (cond b (at.Link l.one.switch l.one.port) (far_end stop links)) ≡ false) [
          | true ↦ refl
          | false ↦ far_is_no_host links
        ]
      ]

  -- a host is at the host ports
  pub host_end : (net : Network) → is_host_end (end_at net stop) ≡ is_host net stop
  host_end net =
      elim (list_any (stop_eq stop) net.hosts) as (λ b. is_host_end (cond b at.Host (far_end stop net.links)) ≡ b) [ true ↦ refl | false ↦ far_is_no_host net.links ]

  host_from_end : (e : End) → is_host_end e ≡ true → e ≡ at.Host
  host_from_end at.Host h = refl
  host_from_end (at.Link s p) h = absurd (false≢true h)
  host_from_end at.Nothing h = absurd (false≢true h)

  pub host_exactly : (net : Network) → IsTrue (is_host net stop) ↔ (end_at net stop ≡ at.Host)
  host_exactly net = (λ h. host_from_end (end_at net stop) (host_end net ∙ h), λ e. sym (host_end net) ∙ ap is_host_end e)

  nothing_far : (links : List Link) → ¬ IsIn stop (ends_of links) → far_end stop links ≡ at.Nothing
  nothing_far [] out = refl
  nothing_far (l ∷ links) out =
      cond-false (stop_eq stop l.one) _ _ (stop_ne stop l.one (λ e. out (inl e)))
      ∙ cond-false (stop_eq stop l.other) _ _ (stop_ne stop l.other (λ e. out (inr (inl e))))
      ∙ nothing_far links (λ i. out (inr (inr i)))

  something_far : (links : List Link) → far_end stop links ≡ at.Nothing → ¬ IsIn stop (ends_of links)
  something_far [] e i = absurd i
  something_far (l ∷ links) e i =
      elim (stop_eq stop l.one) as (λ b. stop_eq stop l.one ≡ b → cond b (at.Link l.other.switch l.other.port) (cond (stop_eq stop l.other) (at.Link l.one.switch l.one.port) (far_end stop links)) ≡ at.Nothing → ⊥) [
        | true ↦ λ _ f. absurd (let g : at.Link l.other.switch l.other.port ≡ at.Nothing = f in cc)
        | false ↦ λ one f. elim (stop_eq stop l.other) as (λ b. stop_eq stop l.other ≡ b → cond b (at.Link l.one.switch l.one.port) (far_end stop links) ≡ at.Nothing → ⊥) [
          | true ↦ λ _ g. absurd (let h : at.Link l.one.switch l.one.port ≡ at.Nothing = g in cc)
          | false ↦ λ other g. elim i [
            | inl same ↦ false≢true (sym one ∙ subst (λ x. stop_eq stop x ≡ true) same (stop_eq-refl stop))
            | inr j ↦ elim j [
              | inl same ↦ false≢true (sym other ∙ subst (λ x. stop_eq stop x ≡ true) same (stop_eq-refl stop))
              | inr k ↦ something_far links g k
            ]
          ]
        ] refl f
      ] refl e

  -- something is exactly at the used ports
  pub used_end : (net : Network) → end_at net stop ≢ at.Nothing ↔ IsUsed net stop
  used_end net = (
    λ some. in_from_any stop (used_ports net) (elim (list_any (stop_eq stop) (used_ports net)) as (λ b. list_any (stop_eq stop) (used_ports net) ≡ b → b ≡ true) [
      | true ↦ λ _. refl
      | false ↦ λ h. absurd (some (
          let out : ¬ IsIn stop (used_ports net) = λ i. false≢true (sym h ∙ any_from_in stop (used_ports net) i) in
          cond-false (list_any (stop_eq stop) net.hosts) at.Host (far_end stop net.links)
          (false_from_ne_true (list_any (stop_eq stop) net.hosts) (λ t. out (in_append_left stop net.hosts (ends_of net.links) (in_from_any stop net.hosts t))))
          ∙ nothing_far net.links (λ i. out (in_append_right stop net.hosts (ends_of net.links) i))))
    ] refl),
    λ used nothing. elim (list_any (stop_eq stop) net.hosts) as (λ b. list_any (stop_eq stop) net.hosts ≡ b → cond b at.Host (far_end stop net.links) ≡ at.Nothing → ⊥) [
      | true ↦ λ _ e. absurd (let f : at.Host ≡ at.Nothing = e in cc)
      | false ↦ λ h e. elim (in_append_cases stop net.hosts (ends_of net.links) used) [
        | inl i ↦ false≢true (sym h ∙ any_from_in stop net.hosts i)
        | inr i ↦ something_far net.links e i
      ]
    ] refl nothing,
  )

  pub used_exactly : (net : Network) → IsTrue (is_used net stop) ↔ IsUsed net stop
  used_exactly net = (λ h. in_from_any stop (used_ports net) h, λ i. any_from_in stop (used_ports net) i)

-- the ports, with one more
pub map_added : (es : List Entry) (a : Stop) (e : End) → map port_of (es ++ (a, e) ∷ []) ≡ map port_of es ++ a ∷ []
map_added es a e = map-push port_of es (a, e)

turned : (x y : Stop) → stop_eq x y ≡ true → stop_eq y x ≡ true
turned x y e = subst (λ s. stop_eq s x ≡ true) (stop_eq-true x y e) (stop_eq-refl x)

either_way : (x y : Stop) → stop_eq x y ≡ stop_eq y x
either_way x y =
    elim (stop_eq x y) as (λ b. stop_eq x y ≡ b → b ≡ stop_eq y x) [
      | true ↦ λ e. sym (turned x y e)
      | false ↦ λ e. sym (false_from_ne_true (stop_eq y x) (λ t. false≢true (sym e ∙ turned y x t)))
    ] refl

same_stops : IsEquivalence stop_eq
same_stops = record { refl = stop_eq-refl; symm = either_way; congr = λ x y z e. ap (λ s. stop_eq s z) (stop_eq-true x y e) }

-- the entry at a place, of that port, is what a look-up of the port gives
pub found_at : {S : Type 0} (m : IndexMap Stop End S) (i : ℕ) (stop port : Stop) (there : End) → IsUnique stop_eq m → slice_get m.entries i ≡ Some (port, there) → stop_eq port stop ≡ true
    → lookup (stop_eq stop) m.entries ≡ Some there
found_at m i stop port there unique at same =
    subst (λ s. lookup (stop_eq s) m.entries ≡ Some there) (stop_eq-true port stop same) (hash_map_get_place same_stops m i port there unique at)

none_from : {A : Type 0} (o : Option A) → is_some o ≡ false → o ≡ None
none_from None e = refl
none_from (Some x) e = absurd cc

-- a port that isn't used goes last
pub added : {S : Type 0} (m : IndexMap Stop End S) (a : Stop) (e : End) → list_any (stop_eq a) (map port_of m.entries) ≡ false → insert_entry stop_eq m.entries a e ≡ m.entries ++ (a, e) ∷ []
added m a e free = insert_entry-new stop_eq m a e (none_from (lookup (stop_eq a) m.entries) (is_some-lookup (stop_eq a) m.entries ∙ free))

-- the same where the map holds these entries
added_to : {S : Type 0} (m : IndexMap Stop End S) (es : List Entry) (a : Stop) (e : End) → m.entries ≡ es → list_any (stop_eq a) (map port_of es) ≡ false → insert_entry stop_eq m.entries a e ≡ es ++ (a, e) ∷ []
added_to m es a e same free = added m a e (ap (λ (xs : List Entry). list_any (stop_eq a) (map port_of xs)) same ∙ free) ∙ ap (λ (xs : List Entry). xs ++ (a, e) ∷ []) same

-- two ports, of which the first is added to one map and the second to the next
module _ {S : Type 0} (m n : IndexMap Stop End S) (es after : List Entry) (a b : Stop) (d e : End) where
  pub both_added : m.entries ≡ es → n.entries ≡ insert_entry stop_eq m.entries a d → after ≡ insert_entry stop_eq n.entries b e
      → list_any (stop_eq a) (map port_of es) ≡ false → list_any (stop_eq b) (map port_of es ++ a ∷ []) ≡ false → after ≡ (es ++ (a, d) ∷ []) ++ (b, e) ∷ []
  both_added same first second a_free b_free =
      second
      ∙ added_to n (es ++ (a, d) ∷ []) b e (first ∙ added_to m es a d same a_free) (ap (λ (ps : List Stop). list_any (stop_eq b) ps) (map_added es a d) ∙ b_free)

-- two ports more are counted
pub both_counted : (counts : List ℕ) (es after : List Entry) (a b : Stop) (d e : End) → AreCounts counts (map port_of es) → a.switch.0 < length counts → b.switch.0 < length counts
    → after ≡ (es ++ (a, d) ∷ []) ++ (b, e) ∷ []
    → AreCounts (set (set counts a.switch.0 (get_or counts a.switch.0 0 + 1)) b.switch.0 (get_or (set counts a.switch.0 (get_or counts a.switch.0 0 + 1)) b.switch.0 0 + 1)) (map port_of after)
both_counted counts es after a b d e are a_within b_within is =
    let once = set counts a.switch.0 (get_or counts a.switch.0 0 + 1) in
    let longer = length-set counts a.switch.0 (get_or counts a.switch.0 0 + 1) in
    let ports : map port_of after ≡ (map port_of es ++ a ∷ []) ++ b ∷ [] =
    ap (map port_of) is ∙ map_added (es ++ (a, d) ∷ []) b e ∙ ap (λ (ps : List Stop). ps ++ b ∷ []) (map_added es a d) in
    subst (λ (ps : List Stop). AreCounts (set once b.switch.0 (get_or once b.switch.0 0 + 1)) ps) (sym ports)
    (counted once (map port_of es ++ a ∷ []) b (counted counts (map port_of es) a are a_within) (subst (λ (k : ℕ). b.switch.0 < k) (sym longer) b_within))

module _ (net : Network) (ends : List Entry) (kept : ends ≡ port_ends net.links net.hosts) where
  same_ports : map port_of ends ≡ ends_of net.links ++ net.hosts
  same_ports = ap (map port_of) kept ∙ ports_named net.links net.hosts

  pub used_test : (stop : Stop) → list_any (stop_eq stop) (map port_of ends) ≡ is_used net stop
  used_test stop = ap (list_any (stop_eq stop)) same_ports ∙ any_turned (stop_eq stop) (ends_of net.links) net.hosts

  -- the same with one port more
  pub used_beside : (a b : Stop) → list_any (stop_eq b) (map port_of ends ++ a ∷ []) ≡ list_any (stop_eq b) (used_ports net ++ a ∷ [])
  used_beside a b =
      list_any-append (stop_eq b) (map port_of ends) (a ∷ [])
      ∙ ap (λ x. x || list_any (stop_eq b) (a ∷ [])) (used_test b)
      ∙ sym (list_any-append (stop_eq b) (used_ports net) (a ∷ []))

  pub used_count : (s : SwitchId) → count_by (is_on s) (map port_of ends) ≡ count_by (is_on s) (used_ports net)
  used_count s = ap (count_by (is_on s)) same_ports ∙ count_turned (is_on s) (ends_of net.links) net.hosts

  -- the same with one port more
  pub count_beside : (a : Stop) (s : SwitchId) → count_by (is_on s) (map port_of ends ++ a ∷ []) ≡ count_by (is_on s) (used_ports net ++ a ∷ [])
  count_beside a s =
      count_append (is_on s) (map port_of ends) (a ∷ [])
      ∙ ap (λ n. n + count_by (is_on s) (a ∷ [])) (used_count s)
      ∙ sym (count_append (is_on s) (used_ports net) (a ∷ []))

  pub end_test : IsNetwork net → (stop : Stop) → unwrap_or (lookup (stop_eq stop) ends) at.Nothing ≡ end_at net stop
  end_test is stop = ap (λ es. unwrap_or (lookup (stop_eq stop) es) at.Nothing) kept ∙ end_looked stop net is

-- no switch has more than 64 used ports
pub count_few : (net : Network) → IsNetwork net → (s : SwitchId) → count_by (is_on s) (used_ports net) ≤ 64
count_few net is s = let a = length-filter (is_on s) (used_ports net) in let b = is.few_ports s in omega arith
