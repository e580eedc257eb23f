-- The least switch of those of which a fact holds.
use Rattle.std.proofs.Common.{◌⊎◌, Option, Some, None, inl, inr, arith}
use Rattle.std.specs.Prelude.{nat_lt}
use Rattle.std.proofs.lemmas.Bool.{cond_both, ltb-true, ltb-false}
use Rattle.net_base.specs.declared.ids.SwitchId.{SwitchId}
use Rattle.check_reasons.specs.Least.{IsLeastSwitch, IsLeastOf, lesser}

module _ (P Q : SwitchId → Type 0) where
  -- what holds of the same switches has the same least one
  pub least_iff : (o : Option SwitchId) → ((s : SwitchId) → P s → Q s) → ((s : SwitchId) → Q s → P s) → IsLeastOf P o → IsLeastOf Q o
  least_iff None to from p = λ s q. p s (from s q)
  least_iff (Some s) to from p = record { holds = to s p.holds; least = λ r q. p.least r (from r q) }

  -- the least of either of two facts is the lesser of their least ones
  pub least_two : (one other : Option SwitchId) → IsLeastOf P one → IsLeastOf Q other → IsLeastOf (λ s. P s ⊎ Q s) (lesser one other)
  least_two None None p q = λ s h. elim h [ inl x ↦ p s x | inr y ↦ q s y ]
  least_two None (Some t) p q = record { holds = inr q.holds; least = λ r h. elim h [ inl x ↦ absurd (p r x) | inr y ↦ q.least r y ] }
  least_two (Some s) None p q = record { holds = inl p.holds; least = λ r h. elim h [ inl x ↦ p.least r x | inr y ↦ absurd (q r y) ] }
  least_two (Some s) (Some t) p q =
      cond_both (nat_lt t.0 s.0) t s (IsLeastSwitch (λ x. P x ⊎ Q x))
      (λ e. let lt = ltb-true t.0 s.0 e in record { holds = inr q.holds; least = λ r h. elim h [ inl x ↦ (let le = p.least r x in omega arith) | inr y ↦ q.least r y ] })
      (λ e. let le = ltb-false t.0 s.0 e in record { holds = inl p.holds; least = λ r h. elim h [ inl x ↦ p.least r x | inr y ↦ (let lt = q.least r y in omega arith) ] })
