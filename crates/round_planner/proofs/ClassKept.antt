-- Lists with the same host ports, VLANs and atoms have the same classes.
use Rattle.std.proofs.Common.{◌≡◌, ℕ, ◌+◌, ◌*◌, length, sym, ◌∙◌, subst, ap}
use Rattle.std.specs.Prelude.{slice_get, Some}
use Rattle.net_base.specs.Places.{stop_of}
use Rattle.dest_classes.specs.Classes.{ClassList, IsClass, boundaries}
use Rattle.dest_classes.specs.declared.Class.{Class}
use Rattle.table_difference.specs.SameClasses.{HasSameClasses}

pub class_kept : (a b : ClassList) → HasSameClasses a b → (n : ℕ) (class : Class) → IsClass a n class → IsClass b n class
class_kept a b same n class is = record {
  host = is.host;
  vlan = is.vlan;
  atom = is.atom;
  number = is.number ∙ ap (λ vs. (is.host * length vs + is.vlan) * length (boundaries a.prefixes) + is.atom) same.vlans
      ∙ ap (λ ns. (is.host * length b.vlans + is.vlan) * length ns + is.atom) same.atoms;
  host_is = subst (λ hs. slice_get hs is.host ≡ Some (stop_of class.entry)) same.hosts is.host_is;
  vlan_is = subst (λ vs. slice_get vs is.vlan ≡ Some class.entry.vlan) same.vlans is.vlan_is;
  atom_is = subst (λ ns. slice_get ns is.atom ≡ Some class.first) same.atoms is.atom_is;
}

pub same_classes_back : (a b : ClassList) → HasSameClasses a b → HasSameClasses b a
same_classes_back a b same = record { hosts = sym same.hosts; vlans = sym same.vlans; atoms = sym same.atoms }
