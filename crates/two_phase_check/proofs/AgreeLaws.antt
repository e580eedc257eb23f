-- When an outcome agrees with a version, by its parts.
use Rattle.std.proofs.Common.{◌≡◌, Bool, true, List, IsTrue, sym, ◌∙◌, subst, ap}
use Rattle.std.specs.List.{list_any}
use Rattle.net_base.specs.Members.{IsIn}
use Rattle.net_base.proofs.ListLaws.{any_in, in_from_any}
use Rattle.net_base.specs.declared.ids.Place.{Place}
use Rattle.net_base.specs.declared.ids.Vlan.{Vlan}
use Rattle.path_walk.specs.declared.Outcome.{Outcome}
use Rattle.path_walk.specs.declared.Outcome.TheVariants.{Go}
use Rattle.certificates.specs.TwoPhase.{place_carrying, outcome_carrying}
use Rattle.certificates.specs.declared.Label.{Label}
use Rattle.two_phase_check.specs.Agreements.{AgreesWith}

-- some member passes a test that one value alone passes, exactly where that is a member
pub any_is_in : {A : Type 0} (p : A → Bool) (x : A) (xs : List A) (r : Bool) → r ≡ list_any p xs → ((y : A) → p y ≡ true → y ≡ x) → p x ≡ true → (IsTrue r → IsIn x xs) × (IsIn x xs → IsTrue r)
any_is_in p x xs r is only passes = (
  λ t. let (y, i, e) = in_from_any p xs (sym is ∙ t) in subst (λ z. IsIn z xs) (only y e) i,
  λ i. is ∙ any_in p x xs i passes,
)

-- an outcome that goes on agrees where it goes to the expected port with a VLAN that has the label
pub agrees_going : (expected : Outcome) (labels : List Label) (version : Bool) (user : Vlan) (next place : Place) (r : Bool) → expected ≡ Go place → (next.switch ≡ place.switch) × (next.port ≡ place.port)
    → (IsTrue r → IsIn (record { vlan = next.vlan; new = version; user = user }) labels) × (IsIn (record { vlan = next.vlan; new = version; user = user }) labels → IsTrue r)
    → (IsTrue r → AgreesWith expected labels version user (Go next)) × (AgreesWith expected labels version user (Go next) → IsTrue r)
agrees_going expected labels version user next place r is at says = (
  λ t. record {
    tag = next.vlan;
    same =
        let there : next ≡ place_carrying next.vlan place =
        ap (λ s. let p : Place = record { switch = s; port = next.port; vlan = next.vlan } in p) at.0 ∙ ap (λ q. let p : Place = record { switch = place.switch; port = q; vlan = next.vlan } in p) at.1 in
        subst (λ o. Go next ≡ outcome_carrying next.vlan o) (sym is) (ap Go there);
    labelled = says.0 t;
  },
  λ h. says.1 h.labelled,
)
