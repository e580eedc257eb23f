use Rattle.std.proofs.Common.{List, ℕ, length, sym, ◌∙◌, ap, subst}
use Rattle.std.specs.Prelude.{IsSome}
use Rattle.round_mix.specs.Among.{ArePositionsBelow}
use Rattle.round_mix.specs.Prepared.{MixedState}
use Rattle.round_mix.proofs.PickedLaws.{aimed_within}
use Rattle.round_mix.proofs.Mixed.aimed.Goals as goal

pub returns-clause-within : goal.returns-clause-within
returns-clause-within c ms is =
    subst (λ (ps : List ℕ). ArePositionsBelow ps (length ms)) (sym c.candidates.ensures)
    (aimed_within c.self.inside.is_prepared c.self.inside.aimed c.self.inside.rules.items c.self.inside.index.candidates
    (subst (λ (v : MixedState). IsSome v.aimed) (sym c.self.view_is) c.requires) c.self.invariant.3 ms (ap (λ (v : MixedState). v.prepared) c.self.view_is ∙ is))
