-- What every network keeps as it grows.
use Rattle.std.proofs.Common.{◌≡◌, ℕ, ◌+◌, ◌<◌, ◌≤◌, Bool, true, false, cond, IsTrue, List, [], ◌∷◌, ◌++◌, map, length, Option, None, IfSome, is_some, position, refl, sym, ◌∙◌, ap, subst, inl, inr, arith, append_assoc}
use Rattle.std.specs.Prelude.{◌==◌, count_by, filter}
use Rattle.std.specs.Str.{bytes_eq}
use Rattle.std.specs.List.{AllByRecursion, list_any, list_all}
use Rattle.std.proofs.lemmas.Bool.{false≢true, and_parts, eqb-true, leb-true}
use Rattle.std.proofs.lemmas.List.{append-nil, length_push}
use Rattle.std.proofs.lemmas.List.Sums.{length-filter}
use Rattle.std.proofs.lemmas.Map.Made.{is_some-lookup}
use Rattle.std.proofs.lemmas.Slice.Eq.{bytes_eq-Decides}
use Rattle.indexmap.proofs.MapLemmas.{some_index}
use Rattle.net_base.specs.Members.{IsIn, IsDistinct}
use Rattle.net_base.proofs.MemberLaws.{in_append_left, in_append_right, in_append_cases, each_weaker, each_append, each_first, each_last, map-push}
use Rattle.net_base.proofs.ListLaws.{any_in}
use Rattle.net_base.specs.declared.ids.SwitchId.{SwitchId}
use Rattle.net_base.specs.declared.ids.Stop.{Stop}
use Rattle.net_base.specs.declared.ids.Vlan.{Vlan}
use Rattle.topology.proofs.LinkLaws.{any_from_in, ends_of}
use Rattle.topology.proofs.EntryLaws.{found, vlan_eq-true, vlan_eq-refl}
use Rattle.net_base.proofs.ItemLaws.{distinct_push}
use Rattle.topology.specs.Networks.{Network, TagRange, IsNetwork, IsName, IsPortNumber, IsVlan, IsVlanId, stop_eq, vlan_eq, used_ports, switch_named, is_on, is_name_byte, is_name, is_capacity}
use Rattle.topology.specs.Ends.{port_ends, IsPort}
use Rattle.topology.specs.Growth.{with_switch, with_link, with_host, with_vlan, with_tags}
use Rattle.topology.specs.declared.net.Link.{Link}
use Rattle.topology.specs.declared.net.End.{End}
use Rattle.topology.specs.declared.net.End.TheVariants as at
use Rattle.net_base.specs.Switches.{most_switches}

-- ---- lists

module _ {A : Type 0} where
  abbrev beside_zero : List A → List (A × ℕ)
  beside_zero xs = map (λ x. (x, 0)) xs

  beside_zero-firsts : (xs : List A) → map (λ (e : A × ℕ). e.0) (beside_zero xs) ≡ xs
  beside_zero-firsts [] = refl
  beside_zero-firsts (x ∷ xs) = ap (λ (ys : List A). x ∷ ys) (beside_zero-firsts xs)

  -- where no position is found, no member passes
  none_passes : (p : A → Bool) (xs : List A) → position p xs ≡ None → list_any p xs ≡ false
  none_passes p xs none =
      let firsts = beside_zero-firsts xs in
      ap (list_any p) (sym firsts)
      ∙ sym (is_some-lookup p (beside_zero xs))
      ∙ sym (some_index p (beside_zero xs))
      ∙ ap (λ (ys : List A). is_some (position p ys)) firsts
      ∙ ap is_some none

  pub distinct_insert : (xs ys : List A) (x : A) → IsDistinct (xs ++ ys) → ¬ IsIn x (xs ++ ys) → IsDistinct ((xs ++ x ∷ []) ++ ys)
  distinct_insert [] ys x once out = (out, once)
  distinct_insert (w ∷ xs) ys x once out = (
    λ i. elim (in_append_cases w (xs ++ x ∷ []) ys i) [
      | inl j ↦ elim (in_append_cases w xs (x ∷ []) j) [
        | inl k ↦ once.0 (in_append_left w xs ys k)
        | inr k ↦ elim k [ inl e ↦ out (inl (sym e)) | inr l ↦ absurd l ]
      ]
      | inr j ↦ once.0 (in_append_right w xs ys j)
    ],
    distinct_insert xs ys x once.1 (λ i. out (inr i)),
  )

  longer : (p : A → Bool) (xs ys : List A) (x : A) → length (filter p ((xs ++ x ∷ []) ++ ys)) ≡ length (filter p (xs ++ ys)) + cond (p x) 1 0
  longer p [] ys x = elim (p x) as (λ b. length (cond b (x ∷ filter p ys) (filter p ys)) ≡ length (filter p ys) + cond b 1 0) [ true ↦ omega arith | false ↦ omega arith ]
  longer p (w ∷ xs) ys x =
      let rest = longer p xs ys x in
      elim (p w) as (λ b. length (cond b (w ∷ filter p ((xs ++ x ∷ []) ++ ys)) (filter p ((xs ++ x ∷ []) ++ ys))) ≡ length (cond b (w ∷ filter p (xs ++ ys)) (filter p (xs ++ ys))) + cond (p x) 1 0) [
        | true ↦ omega arith
        | false ↦ rest
      ]

-- ---- used ports

-- what the used ports keep
pub record ArePorts (n : ℕ) (used : List Stop) : Type 0 where
  pub once : IsDistinct used
  pub ports : AllByRecursion (λ stop. (stop.switch.0 < n) × IsPortNumber stop.port.0) used
  pub few : (s : SwitchId) → length (filter (λ stop. stop.switch.0 == s.0) used) ≤ 64

few_at : (xs ys : List Stop) (stop : Stop) (s : SwitchId) → length (filter (is_on s) (xs ++ ys)) ≤ 64 → count_by (is_on stop.switch) (xs ++ ys) < 64
    → length (filter (is_on s) ((xs ++ stop ∷ []) ++ ys)) ≤ 64
few_at xs ys stop s few room =
    let counted = length-filter (is_on stop.switch) (xs ++ ys) in
    let here : length (filter (is_on stop.switch) (xs ++ ys)) < 64 = omega arith in
    elim (stop.switch.0 == s.0) as (λ b. (stop.switch.0 == s.0) ≡ b → length (filter (is_on s) ((xs ++ stop ∷ []) ++ ys)) ≡ length (filter (is_on s) (xs ++ ys)) + cond b 1 0
    → length (filter (is_on s) ((xs ++ stop ∷ []) ++ ys)) ≤ 64) [
      | true ↦ λ e g.
          let there : length (filter (is_on s) (xs ++ ys)) < 64 = subst (λ (n : ℕ). length (filter (λ (t : Stop). t.switch.0 == n) (xs ++ ys)) < 64) (eqb-true stop.switch.0 s.0 e) here in
          omega arith
      | false ↦ λ _ g. omega arith
    ] refl (longer (is_on s) xs ys stop)

pub insert_ports : (n : ℕ) (xs ys : List Stop) (stop : Stop) → ArePorts n (xs ++ ys) → list_any (stop_eq stop) (xs ++ ys) ≡ false → count_by (is_on stop.switch) (xs ++ ys) < 64
    → (stop.switch.0 < n) × IsPortNumber stop.port.0 → ArePorts n ((xs ++ stop ∷ []) ++ ys)
insert_ports n xs ys stop are free room form =
    let P : Stop → Type 0 = λ s. (s.switch.0 < n) × IsPortNumber s.port.0 in
    record {
      once = distinct_insert xs ys stop are.once (λ i. false≢true (sym free ∙ any_from_in stop (xs ++ ys) i));
      ports = each_append P (xs ++ stop ∷ []) ys (each_append P xs (stop ∷ []) (each_first P xs ys are.ports) (form, tt)) (each_last P xs ys are.ports);
      few = λ s. few_at xs ys stop s (are.few s) room;
    }

pub push_ports : (n : ℕ) (xs : List Stop) (stop : Stop) → ArePorts n xs → list_any (stop_eq stop) xs ≡ false → count_by (is_on stop.switch) xs < 64
    → (stop.switch.0 < n) × IsPortNumber stop.port.0 → ArePorts n (xs ++ stop ∷ [])
push_ports n xs stop are free room form =
    let same = append-nil xs in
    subst (λ (ys : List Stop). ArePorts n ys) (append-nil (xs ++ stop ∷ []))
    (insert_ports n xs [] stop (subst (λ (ys : List Stop). ArePorts n ys) (sym same) are) (ap (list_any (stop_eq stop)) same ∙ free)
    (subst (λ (ys : List Stop). count_by (is_on stop.switch) ys < 64) (sym same) room) form)

ends_push : (links : List Link) (l : Link) → ends_of (links ++ l ∷ []) ≡ (ends_of links ++ l.one ∷ []) ++ l.other ∷ []
ends_push [] l = refl
ends_push (k ∷ links) l = ap (λ (xs : List Stop). k.one ∷ k.other ∷ xs) (ends_push links l)

used_link : (net : Network) (a b : Stop) → used_ports (with_link net a b) ≡ (used_ports net ++ a ∷ []) ++ b ∷ []
used_link net a b =
    let ends = ends_of net.links in
    ap (λ (xs : List Stop). net.hosts ++ xs) (ends_push net.links (record { one = a; other = b }))
    ∙ sym (append_assoc net.hosts (ends ++ a ∷ []) (b ∷ []))
    ∙ ap (λ (xs : List Stop). xs ++ b ∷ []) (sym (append_assoc net.hosts ends (a ∷ [])))

-- ---- networks

bytes_of_name : (name : List ℕ) → list_all is_name_byte name ≡ true → AllByRecursion (λ c. IsTrue (is_name_byte c)) name
bytes_of_name [] h = tt
bytes_of_name (c ∷ name) h = let (a, b) = and_parts (is_name_byte c) (list_all is_name_byte name) h in (a, bytes_of_name name b)

name_form : (name : List ℕ) → is_name name ≡ true → IsName name
name_form name h =
    let (ab, c) = and_parts _ _ h in
    let (a, b) = and_parts _ _ ab in
    (leb-true 1 (length name) a, leb-true (length name) 32 b, bytes_of_name name c)

not_named : (names : List (List ℕ)) (name : List ℕ) → switch_named names name ≡ None → ¬ IsIn name names
not_named names name none i = false≢true (sym (none_passes (λ n. bytes_eq name n) names none) ∙ any_in (λ n. bytes_eq name n) name names i ((bytes_eq-Decides name name).1 refl))

module _ (net : Network) (is : IsNetwork net) where
  pub switch_kept : (name : List ℕ) (capacity : ℕ) → length net.names < most_switches → is_name name ≡ true → switch_named net.names name ≡ None → is_capacity capacity ≡ true → IsNetwork (with_switch net name capacity)
  switch_kept name capacity room form new within =
      let more = length_push net.names name in
      let more_capacities = length_push net.capacities capacity in
      let same = is.same_count in
      let (low, high) = and_parts _ _ within in
      record {
        same_count = omega arith;
        few = omega arith;
        names = distinct_push net.names name is.names (not_named net.names name new);
        name_forms = each_append IsName net.names (name ∷ []) is.name_forms (name_form name form, tt);
        capacities = each_append (λ (c : ℕ). (1 ≤ c) × (c ≤ 8192)) net.capacities (capacity ∷ []) is.capacities ((leb-true 1 capacity low, leb-true capacity 8192 high), tt);
        ports_once = is.ports_once;
        ports = each_weaker (λ (s : Stop). (s.switch.0 < length net.names) × IsPortNumber s.port.0) (λ (s : Stop). (s.switch.0 < length (net.names ++ name ∷ [])) × IsPortNumber s.port.0)
            (λ s h. (let before = h.0 in omega arith, h.1)) (used_ports net) is.ports;
        few_ports = is.few_ports;
        vlans_once = is.vlans_once;
        vlans = is.vlans;
        few_vlans = is.few_vlans;
        tags = is.tags;
      }

  ports_kept : ArePorts (length net.names) (used_ports net)
  ports_kept = record { once = is.ports_once; ports = is.ports; few = is.few_ports }

  -- with these links and host ports
  ends_kept : (links : List Link) (hosts : List Stop) → ArePorts (length net.names) (hosts ++ ends_of links) → IsNetwork (record net { links = links; hosts = hosts })
  ends_kept links hosts all = record {
    same_count = is.same_count;
    few = is.few;
    names = is.names;
    name_forms = is.name_forms;
    capacities = is.capacities;
    ports_once = all.once;
    ports = all.ports;
    few_ports = all.few;
    vlans_once = is.vlans_once;
    vlans = is.vlans;
    few_vlans = is.few_vlans;
    tags = is.tags;
  }

  -- with these VLANs and this range of tags
  vlans_kept : (vlans : List Vlan) (tags : Option TagRange) → IsDistinct vlans → AllByRecursion IsVlan vlans → length vlans ≤ 64
      → IfSome tags (λ t. IsVlanId t.first × IsVlanId t.last × (t.first ≤ t.last)) → IsNetwork (record net { vlans = vlans; tags = tags })
  vlans_kept vlans tags once each few range = record {
    same_count = is.same_count;
    few = is.few;
    names = is.names;
    name_forms = is.name_forms;
    capacities = is.capacities;
    ports_once = is.ports_once;
    ports = is.ports;
    few_ports = is.few_ports;
    vlans_once = once;
    vlans = each;
    few_vlans = few;
    tags = range;
  }

  pub link_kept : (a b : Stop) → IsPort net a → IsPort net b → list_any (stop_eq a) (used_ports net) ≡ false → list_any (stop_eq b) (used_ports net ++ a ∷ []) ≡ false
      → count_by (is_on a.switch) (used_ports net) < 64 → count_by (is_on b.switch) (used_ports net ++ a ∷ []) < 64 → IsNetwork (with_link net a b)
  link_kept a b a_port b_port a_free b_free a_room b_room =
      let n = length net.names in
      let both = push_ports n (used_ports net ++ a ∷ []) b (push_ports n (used_ports net) a ports_kept a_free a_room a_port) b_free b_room b_port in
      ends_kept (with_link net a b).links net.hosts (subst (λ (ys : List Stop). ArePorts n ys) (sym (used_link net a b)) both)

  pub host_kept : (stop : Stop) → IsPort net stop → list_any (stop_eq stop) (used_ports net) ≡ false → count_by (is_on stop.switch) (used_ports net) < 64 → IsNetwork (with_host net stop)
  host_kept stop port free room = ends_kept net.links (net.hosts ++ stop ∷ []) (insert_ports (length net.names) net.hosts (ends_of net.links) stop ports_kept free room port)

  pub vlan_kept : (v : Vlan) → length net.vlans < 64 → IsVlan v → list_any (vlan_eq v) net.vlans ≡ false → IsNetwork (with_vlan net v)
  vlan_kept v room form new =
      let more = length_push net.vlans v in
      vlans_kept (net.vlans ++ v ∷ []) net.tags (distinct_push net.vlans v is.vlans_once (λ i. false≢true (sym new ∙ (found vlan_eq vlan_eq-true vlan_eq-refl v net.vlans).1 i)))
      (each_append IsVlan net.vlans (v ∷ []) is.vlans (form, tt)) (omega arith) is.tags

  pub tags_kept : (range : Option TagRange) → IfSome range (λ t. IsVlanId t.first × IsVlanId t.last × (t.first ≤ t.last)) → IsNetwork (with_tags net range)
  tags_kept range form = vlans_kept net.vlans range is.vlans_once is.vlans is.few_vlans form

-- ---- what is at the ports

abbrev Ends : Type 0
Ends = List (Stop × End)

abbrev linked : Ends → Stop → Stop → Ends
linked es a b = (es ++ (a, at.Link b.switch b.port) ∷ []) ++ (b, at.Link a.switch a.port) ∷ []

linked_last : (links : List Link) (a b : Stop) → linked (port_ends links []) a b ≡ port_ends (links ++ record { one = a; other = b } ∷ []) []
linked_last [] a b = refl
linked_last (l ∷ links) a b =
    ap (λ (es : Ends). (l.one, at.Link l.other.switch l.other.port) ∷ (l.other, at.Link l.one.switch l.one.port) ∷ es) (linked_last links a b)

-- a link that is added while there are no host ports
pub link_ends : (links : List Link) (hosts : List Stop) (a b : Stop) → hosts ≡ [] → linked (port_ends links hosts) a b ≡ port_ends (links ++ record { one = a; other = b } ∷ []) hosts
link_ends links hosts a b none =
    subst (λ (hs : List Stop). linked (port_ends links hs) a b ≡ port_ends (links ++ record { one = a; other = b } ∷ []) hs) (sym none) (linked_last links a b)

-- a host port that is added
pub host_ends : (links : List Link) (hosts : List Stop) (stop : Stop) → port_ends links hosts ++ (stop, at.Host) ∷ [] ≡ port_ends links (hosts ++ stop ∷ [])
host_ends [] hosts stop = sym (map-push (λ (h : Stop). let e : Stop × End = (h, at.Host) in e) hosts stop)
host_ends (l ∷ links) hosts stop =
    ap (λ (es : Ends). (l.one, at.Link l.other.switch l.other.port) ∷ (l.other, at.Link l.one.switch l.one.port) ∷ es) (host_ends links hosts stop)
