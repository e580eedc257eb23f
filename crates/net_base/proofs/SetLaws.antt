-- Sets of switches, one switch after the other.
use Rattle.std.proofs.Common.{◌≡◌, ◌≢◌, ◌↔◌, ℕ, false, IsTrue, List, [], ◌∷◌, ◌++◌, sym, ◌∙◌, ap, subst, inl, inr}
use Rattle.std.proofs.lemmas.Bool.{cases_eq, false≢true}
use Rattle.net_base.specs.Members.{IsIn}
use Rattle.net_base.specs.declared.ids.SwitchId.{SwitchId}
use Rattle.net_base.proofs.MemberLaws.{in_append_left, in_append_right, in_append_cases}
use Rattle.net_base.proofs.NameLaws.{same_switch}
use Rattle.net_base.specs.Switches.{has}

-- the set has the switches of the list
abbrev pub IsSetOf : ℕ → List SwitchId → Type 0
IsSetOf set list = (s : SwitchId) → IsTrue (has set s) ↔ IsIn s list

pub set_none : (set : ℕ) → ((s : SwitchId) → has set s ≡ false) → IsSetOf set []
set_none set none s = (λ on. absurd (false≢true (sym (none s) ∙ on)), λ i. absurd i)

-- and one more
pub set_more : (old new : ℕ) (xs : List SwitchId) (x : SwitchId) → IsTrue (has new x) → ((s : SwitchId) → s.0 ≢ x.0 → has new s ≡ has old s) → IsSetOf old xs → IsSetOf new (xs ++ x ∷ [])
set_more old new xs x there others is s =
    elim (cases_eq s.0 x.0) [
      | inl e ↦ (
          let same : s ≡ x = same_switch s x e in
          (λ _. in_append_right s xs (x ∷ []) (inl same), λ _. subst (λ (y : SwitchId). IsTrue (has new y)) (sym same) there))
      | inr ne ↦ (
        λ on. in_append_left s xs (x ∷ []) ((is s).0 (sym (others s ne) ∙ on)),
        λ i. elim (in_append_cases s xs (x ∷ []) i) [
          | inl j ↦ others s ne ∙ (is s).1 j
          | inr j ↦ elim j [ inl e ↦ absurd (ne (ap (λ (y : SwitchId). y.0) e)) | inr none ↦ absurd none ]
        ],
      )
    ]
