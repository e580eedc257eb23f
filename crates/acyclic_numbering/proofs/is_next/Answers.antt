use Rattle.std.proofs.Common.{◌≡◌, refl, subst}
use Rattle.net_base.specs.declared.ids.SwitchId.{SwitchId}
use Rattle.acyclic_numbering.specs.Heights.{IsEdge}
use Rattle.acyclic_numbering.specs.Numbered.{IsOpen}
use Rattle.acyclic_numbering.specs.declared.Edge.{Edge}
use Rattle.acyclic_numbering.proofs.ListLaws.{all_members, members_all}
use Rattle.acyclic_numbering.proofs.is_next.Goals as goal

pub returns-then-pending-s : goal.returns-then-pending-s
returns-then-pending-s c = (
  λ e. (
    c.if-pending-s.true,
    λ t edge. all_members (λ (x : Edge). (x.from ≡ c.args.s) → ¬ IsOpen c.args.pending.now x.to) c.args.edges.now (c.is_ready.ensures.0 e) (record { from = c.args.s; to = t }) edge refl,
  ),
  λ r. c.is_ready.ensures.1 (members_all (λ (x : Edge). (x.from ≡ c.args.s) → ¬ IsOpen c.args.pending.now x.to) c.args.edges.now
      (λ x i same. r.1 x.to (subst (λ (y : SwitchId). IsEdge c.args.edges.now y x.to) same i))),
)
