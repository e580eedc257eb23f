use Rattle.std.proofs.Common.{◌≡◌, [], List, ◌∙◌, ap, subst, inl, inr}
use Rattle.net_base.specs.Members.{IsIn}
use Rattle.net_base.specs.declared.ids.Place.{Place}
use Rattle.mixed_walks.specs.Walks.{WalkState}
use Rattle.mixed_walks.proofs.noted.WalkNotes.start.Goals as goal

pub returns-clause-places : goal.returns-clause-places
returns-clause-places c p =
    let none : c.self.inside.reached ≡ [] = ap (λ (w : WalkState). w.places) (c.self.view_is ∙ c.clear.ensures) in (
      λ i. elim ((c.put.ensures.places p).0 i) [ inl j ↦ absurd (subst (λ (xs : List Place). IsIn p xs) none j) | inr e ↦ e ],
      λ e. (c.put.ensures.places p).1 (inr e),
    )
