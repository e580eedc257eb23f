-- The classes of the ring, and the duties of some of them.
use Rattle.std.proofs.Common.{◌≡◌, ℕ, ◌+◌, ◌*◌, ◌<◌, ◌≤◌, ◌&&◌, true, false, not, length, map, refl, sym, ap, subst, inl, inr, arith}
use Rattle.std.specs.Prelude.{IsTrue, ◌==◌, ◌||◌}
use Rattle.std.proofs.lemmas.Bool.{cases_eq, ne_eqb}
use Rattle.net_base.specs.Members.{IsIn}
use Rattle.net_base.specs.Places.{stop_of}
use Rattle.net_base.proofs.ItemLaws.{in_from_get, get_from_in}
use Rattle.net_base.proofs.ListLaws.{any_in, in_flat_map}
use Rattle.net_base.proofs.MemberLaws.{in_map, in_from_map, in_filter}
use Rattle.net_base.specs.declared.ids.Place.{Place}
use Rattle.net_base.specs.declared.ids.Stop.{Stop}
use Rattle.net_base.specs.declared.ids.Vlan.TheVariants.{Untagged}
use Rattle.topology.proofs.LinkLaws.{stop_eq-refl}
use Rattle.dest_classes.specs.Classes.{IsClass, boundaries, atom_count}
use Rattle.dest_classes.specs.declared.Class.{Class}
use Rattle.demands.specs.Duties.{DemandView, demand_covers, demands_on, duties_of}
use Rattle.certificates.specs.Certified.{classes_for}
use Rattle.ring_sample.specs.Ring.{numbers_below, destinations, others, ring_stop, ring_network, ring_demand, ring_demands}
use Rattle.ring_sample.proofs.Ranges.{in_range, from_range}
use Rattle.ring_sample.proofs.Ports.{host_in}
use Rattle.ring_sample.proofs.Walks.{place_at}
use Rattle.ring_sample.proofs.ClassPaths.{firsts, first_of}
use Rattle.ring_sample.proofs.Tree.{ring_task, atoms_are}

in_firsts : (j : ℕ) → j < 4 → IsIn (first_of j) firsts
in_firsts j less =
    elim (cases_eq j 0) [
      | inl e ↦ subst (λ k. IsIn (first_of k) firsts) (sym e) (inr (inl refl))
      | inr none ↦ elim (cases_eq j 1) [
        | inl e ↦ subst (λ k. IsIn (first_of k) firsts) (sym e) (inr (inr (inl refl)))
        | inr one ↦ elim (cases_eq j 2) [
          | inl e ↦ subst (λ k. IsIn (first_of k) firsts) (sym e) (inr (inr (inr (inl refl))))
          | inr two ↦ (let e : 3 ≡ j = omega arith in subst (λ k. IsIn (first_of k) firsts) e (inr (inr (inr (inr (inl refl))))))
        ]
      ]
    ]

module _ (n : ℕ) (some : 4 ≤ n) where
  -- a class of the ring: a host and the first address of an atom
  pub record IsRingClass (class : Class) : Type 0 where
    pub i : ℕ
    pub within : i < n
    pub entry : class.entry ≡ place_at i 1 class.entry.vlan
    pub first : IsIn class.first firsts

  pub ring_class : (number : ℕ) (class : Class) → IsClass (classes_for (ring_task n)) number class → IsRingClass class
  unfolding ring_network
  ring_class number class is =
      let (i, among, same) = in_from_map (λ k. ring_stop k 1) (stop_of class.entry) (numbers_below n) (in_from_get (map (λ k. ring_stop k 1) (numbers_below n)) is.host (stop_of class.entry) is.host_is) in
      let (_, within) = from_range 0 n i among in
      record {
        i = i;
        within = omega arith;
        entry = ap (λ (s : Stop). let p : Place = record { switch = s.switch; port = s.port; vlan = class.entry.vlan } in p) same;
        first = subst (IsIn class.first) (atoms_are n some) (in_from_get (boundaries (classes_for (ring_task n)).prefixes) is.atom class.first is.atom_is);
      }

  -- packets without a tag from the host at switch i to destination j
  abbrev pub class_of : ℕ → ℕ → Class
  class_of i j = record { entry = place_at i 1 Untagged; first = first_of j }

  pub class_is : (i j : ℕ) → i < n → j < 4 → (number : ℕ) × IsClass (classes_for (ring_task n)) number (class_of i j)
  unfolding ring_network
  class_is i j lt less =
      let (h, host_is) = get_from_in (map (λ k. ring_stop k 1) (numbers_below n)) (ring_stop i 1) (host_in n i lt) in
      let (a, atom_is) = get_from_in (boundaries (classes_for (ring_task n)).prefixes) (first_of j) (subst (IsIn (first_of j)) (sym (atoms_are n some)) (in_firsts j less)) in (
        (h * length (classes_for (ring_task n)).vlans + 0) * atom_count (classes_for (ring_task n)) + a,
        record { host = h; vlan = 0; atom = a; number = refl; host_is = host_is; vlan_is = refl; atom_is = atom_is },
      )

  -- packets to destination 0 must arrive from any other switch
  pub must_arrive : (i : ℕ) → 1 ≤ i → i < n → IsTrue (duties_of (ring_demands n) (place_at i 1 Untagged) (first_of 0)).arrive
  unfolding ring_demands
  must_arrive i far lt =
      let d : DemandView = ring_demand i 0 in
      let entry : Place = place_at i 1 Untagged in
      let there : IsIn d (ring_demands n) =
      in_flat_map (λ k. map (ring_demand k) (others k)) i d (numbers_below n) (in_range 0 n i (omega arith) (omega arith))
      (in_map (ring_demand i) 0 (others i) (in_filter (λ j. not (j == i)) 0 destinations (inl refl) (ap not (ne_eqb 0 i (λ e. omega arith))))) in
      let covers : demand_covers d entry (first_of 0) ≡ true = ap (λ b. (b || false) && true && true) (stop_eq-refl (ring_stop i 1)) in
      any_in (λ (x : DemandView). x.deliver) d (demands_on (ring_demands n) entry (first_of 0)) (in_filter (λ x. demand_covers x entry (first_of 0)) d (ring_demands n) there covers) refl
