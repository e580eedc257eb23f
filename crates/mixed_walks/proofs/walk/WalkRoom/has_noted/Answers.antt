use Rattle.std.proofs.Common.{rules, ◌≡◌, ◌&&◌, ◌==◌, ◌∙◌, sym}
use Rattle.std.specs.Bool.{Decides}
use Rattle.std.proofs.lemmas.Bool.{false≢true}
use Rattle.std.proofs.lemmas.Slice.Eq.{slice_eq-Decides}
use Rattle.net_base.specs.declared.ids.SwitchId.{SwitchId}
use Rattle.acyclic_numbering.specs.declared.Edge.{Edge}
use Rattle.mixed_walks.proofs.walk.WalkRoom.has_noted.Goals as goal

switch_decides : (a b : SwitchId) → Decides (a.0 == b.0) (a ≡ b)
switch_decides a b = search rules

edge_decides : (a b : Edge) → Decides ((a.from.0 == b.from.0) && (a.to.0 == b.to.0)) (a ≡ b)
edge_decides a b = search rules

pub returns-then-eq : goal.returns-then-eq
returns-then-eq c =
    let steps = slice_eq-Decides edge_decides c.steps.result.now c.args.steps.now c.eq.result c.eq.ensures in
    let leaving = slice_eq-Decides switch_decides c.leaving.result.now c.args.leaving.now c.eq-then-eq.result c.eq-then-eq.ensures in (
      λ same. (sym c.steps.ensures ∙ steps.0 c.if-eq.true, sym c.leaving.ensures ∙ leaving.0 same),
      λ both. leaving.1 (c.leaving.ensures ∙ both.1),
    )

pub returns-else-eq : goal.returns-else-eq
returns-else-eq c =
    let steps = slice_eq-Decides edge_decides c.steps.result.now c.args.steps.now c.eq.result c.eq.ensures in (
      λ no. absurd (false≢true (sym c.if-eq.false ∙ no)),
      λ both. absurd (false≢true (sym c.if-eq.false ∙ steps.1 (c.steps.ensures ∙ both.0))),
    )
