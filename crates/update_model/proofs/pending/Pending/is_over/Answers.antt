use Rattle.std.proofs.Common.{◌≡◌, false, sym, ◌∙◌, subst}
use Rattle.std.specs.List.{AllByRecursion}
use Rattle.std.proofs.lemmas.Bool.{eqb-true, eq-eqb}
use Rattle.update_model.proofs.CountLaws.{none_from_zero, zero_from_none}
use Rattle.update_model.proofs.pending.Pending.is_over.Goals as goal

pub returns : goal.returns
returns c =
    let flags = c.self.inside.flags.items in (
      λ e. subst (AllByRecursion (λ on. on ≡ false)) c.self.view_is (none_from_zero (λ on. on) flags (sym c.self.invariant ∙ eqb-true c.self.inside.count 0 e)),
      λ h. eq-eqb c.self.inside.count 0 (c.self.invariant ∙ zero_from_none (λ on. on) flags (subst (AllByRecursion (λ on. on ≡ false)) (sym c.self.view_is) h)),
    )
