use Rattle.std.proofs.Common.{rules, ◌≡◌, ℕ, ◌+◌, ◌*◌, ◌<◌, ◌≤◌, length, List, ap, subst, sym, ◌∙◌, arith}
use Rattle.std.specs.Prelude.{slice_get, Some}
use Rattle.std.proofs.lemmas.Bool.{true≢false}
use Rattle.net_base.specs.Members.{IsIn, IsDistinct}
use Rattle.net_base.specs.Places.{stop_of}
use Rattle.net_base.specs.declared.ids.Stop.{Stop}
use Rattle.net_base.specs.declared.ids.Vlan.{Vlan}
use Rattle.dest_classes.specs.Atoms.{IsAtomOf}
use Rattle.dest_classes.specs.Classes.{ClassList, class_count, atom_count, boundaries}
use Rattle.dest_classes.specs.Numbered.{IsClassOf}
use Rattle.dest_classes.proofs.MapLaws.{class_of_places, one_number, right_class, none_in, number_fits, row_fits, pairs_fit, distinct_hosts}
use Rattle.net_base.proofs.ItemLaws.{in_from_get}
use Rattle.dest_classes.proofs.ClassMap.number_of.Goals as goal
use Rattle.dest_classes.proofs.ClassMap.number_of.Goals.{After-count, After-len}

pub returns-in_err-host-clause-none : goal.returns-in_err-host-clause-none
returns-in_err-host-clause-none c = (
  λ _ entry.
      let e : c.deref.result.now ≡ c.args.net.now.hosts = c.deref.ensures.value ∙ ap (λ (m : ClassList). m.hosts) c.self.view_is ∙ c.requires.hosts in
      none_in c.deref.result.now (stop_of c.args.entry) c.in_err-host.ensures.none (subst (λ xs. IsIn (stop_of c.args.entry) xs) (sym e) entry.host),
  λ _. search rules,
)

pub returns-in_err-vlan-clause-none : goal.returns-in_err-vlan-clause-none
returns-in_err-vlan-clause-none c = (
  λ _ entry.
      let e : c.deref-2.result.now ≡ c.args.net.now.vlans = c.deref-2.ensures.value ∙ ap (λ (m : ClassList). m.vlans) c.self.view_is ∙ c.requires.vlans in
      none_in c.deref-2.result.now c.args.entry.vlan c.in_err-vlan.ensures.none (subst (λ xs. IsIn c.args.entry.vlan xs) (sym e) entry.declared),
  λ _. search rules,
)

-- the number that the code computes
abbrev number : After-count → ℕ
number c = (c.in_ok-host.host * c.len.result + c.in_ok-vlan.vlan) * c.count.result + c.index_of-atom.result

is_number : (c : After-count) → IsClassOf c.args.self.now (number c) c.args.entry c.args.addr
is_number c =
    let seen : ClassList = record { hosts = c.self.inside.hosts.items; vlans = c.self.inside.vlans.items; prefixes = c.self.inside.prefixes.items } in
    let same : seen ≡ c.args.self.now = c.self.view_is in
    let host = c.in_ok-host.host in
    let vlan = c.in_ok-vlan.vlan in
    let atom = c.index_of-atom.result in
    let vlans : length seen.vlans ≡ c.len.result = sym (c.len.ensures ∙ c.self.inside.vlans.ok.0) in
    let atoms : atom_count seen ≡ c.count.result = sym (c.count.ensures.count ∙ ap length c.self.invariant.0) in
    let host_is : slice_get seen.hosts host ≡ Some (stop_of c.args.entry) = subst (λ (xs : List Stop). slice_get xs host ≡ Some (stop_of c.args.entry)) c.deref.ensures.value c.in_ok-host.ensures.some in
    let vlan_is : slice_get seen.vlans vlan ≡ Some c.args.entry.vlan = subst (λ (xs : List Vlan). slice_get xs vlan ≡ Some c.args.entry.vlan) c.deref-2.ensures.value c.in_ok-vlan.ensures.some in
    let holds : IsAtomOf (boundaries seen.prefixes) atom c.args.addr = subst (λ xs. IsAtomOf xs atom c.args.addr) c.self.invariant.0 c.index_of-atom.ensures.atom in
    subst (λ v. IsClassOf c.args.self.now ((host * v + vlan) * c.count.result + atom) c.args.entry c.args.addr) vlans
    (subst (λ a. IsClassOf c.args.self.now ((host * length seen.vlans + vlan) * a + atom) c.args.entry c.args.addr) atoms
    (subst (λ (m : ClassList). IsClassOf m ((host * length seen.vlans + vlan) * atom_count seen + atom) c.args.entry c.args.addr) same
    (class_of_places seen c.args.entry c.args.addr host vlan atom host_is vlan_is holds)))

is_below : (c : After-count) → number c < class_count c.args.self.now
is_below c = let h = is_number c in number_fits c.args.self.now (number c) (record { entry = c.args.entry; first = h.first }) h.is

few : (c : After-count) → class_count c.args.self.now ≤ 8192
few c =
    let seen : ClassList = record { hosts = c.self.inside.hosts.items; vlans = c.self.inside.vlans.items; prefixes = c.self.inside.prefixes.items } in
    let same : seen ≡ c.args.self.now = c.self.view_is in
    subst (λ (m : ClassList). class_count m ≤ 8192) same (subst (λ xs. length seen.hosts * length seen.vlans * length xs ≤ 8192) c.self.invariant.0 c.self.invariant.1)

-- the number of the pair of a host port and a VLAN
row_below : (c : After-len) → c.in_ok-host.host * c.len.result + c.in_ok-vlan.vlan ≤ 8192
row_below c =
    let seen : ClassList = record { hosts = c.self.inside.hosts.items; vlans = c.self.inside.vlans.items; prefixes = c.self.inside.prefixes.items } in
    let host = c.in_ok-host.host in
    let vlan = c.in_ok-vlan.vlan in
    let vlans : length seen.vlans ≡ c.len.result = sym (c.len.ensures ∙ c.self.inside.vlans.ok.0) in
    let host_is : slice_get seen.hosts host ≡ Some (stop_of c.args.entry) = subst (λ (xs : List Stop). slice_get xs host ≡ Some (stop_of c.args.entry)) c.deref.ensures.value c.in_ok-host.ensures.some in
    let vlan_is : slice_get seen.vlans vlan ≡ Some c.args.entry.vlan = subst (λ (xs : List Vlan). slice_get xs vlan ≡ Some c.args.entry.vlan) c.deref-2.ensures.value c.in_ok-vlan.ensures.some in
    let few : class_count seen ≤ 8192 = subst (λ xs. length seen.hosts * length seen.vlans * length xs ≤ 8192) c.self.invariant.0 c.self.invariant.1 in
    let row = row_fits seen host vlan (stop_of c.args.entry) c.args.entry.vlan host_is vlan_is in
    let pairs = pairs_fit seen 8192 few in
    subst (λ v. host * v + vlan ≤ 8192) vlans (omega arith)

pub overflow_mul-result : goal.overflow_mul-result
overflow_mul-result c = let h = row_below c in omega arith

pub overflow_add-result : goal.overflow_add-result
overflow_add-result c = let h = row_below c in omega arith

pub overflow_mul-result-2 : goal.overflow_mul-result-2
overflow_mul-result-2 c = let h = is_below c in let k = few c in omega arith

pub overflow_add-result-2 : goal.overflow_add-result-2
overflow_add-result-2 c = let h = is_below c in let k = few c in omega arith

pub overflow_cast-result : goal.overflow_cast-result
overflow_cast-result c = let h = is_below c in let k = few c in omega arith

pub returns-clause-none : goal.returns-clause-none
returns-clause-none c =
    let hosts : c.deref.result.now ≡ c.args.net.now.hosts = c.deref.ensures.value ∙ ap (λ (m : ClassList). m.hosts) c.self.view_is ∙ c.requires.hosts in
    let vlans : c.deref-2.result.now ≡ c.args.net.now.vlans = c.deref-2.ensures.value ∙ ap (λ (m : ClassList). m.vlans) c.self.view_is ∙ c.requires.vlans in (
      λ h. absurd (true≢false h),
      λ no. absurd (no (record {
        host = subst (λ xs. IsIn (stop_of c.args.entry) xs) hosts (in_from_get c.deref.result.now c.in_ok-host.host (stop_of c.args.entry) c.in_ok-host.ensures.some);
        declared = subst (λ xs. IsIn c.args.entry.vlan xs) vlans (in_from_get c.deref-2.result.now c.in_ok-vlan.vlan c.args.entry.vlan c.in_ok-vlan.ensures.some);
      })),
    )

pub returns-clause-some : goal.returns-clause-some
returns-clause-some c = (is_below c, is_number c)

pub returns-clause-only : goal.returns-clause-only
returns-clause-only c = λ m h.
    one_number c.args.self.now c.args.entry c.args.addr (subst IsDistinct (sym c.requires.hosts) (distinct_hosts c.args.net.now c.keeps_rules.ensures))
    (subst IsDistinct (sym c.requires.vlans) c.keeps_rules.ensures.vlans_once) m (number c) h (is_number c)

pub returns-clause-class : goal.returns-clause-class
returns-clause-class c = λ class p. right_class c.args.self.now c.args.entry c.args.addr c.ranges.addr.fits (number c) (is_number c) class p
