use Rattle.std.proofs.Common.{◌≡◌, ◌⊎◌, ◌↔◌, ◌<◌, List, [], ℕ, sym, subst}
use Rattle.std.specs.Option.{option_copied}
use Rattle.net_base.specs.declared.ids.SwitchId.{SwitchId}
use Rattle.acyclic_numbering.specs.Heights.{IsEdge}
use Rattle.acyclic_numbering.specs.declared.Edge.{Edge}
use Rattle.waypoint_evidence.specs.Befores.{Holds, MissesStep}
use Rattle.waypoint_evidence.specs.Grown.{IsGrown}
use Rattle.waypoint_evidence.proofs.GrowLaws.{grown_start, grown_more, not_stays, all_members}
use Rattle.waypoint_evidence.proofs.grow.Goals as goal
use Rattle.net_base.specs.Switches.{most_switches}

pub growing-init : goal.growing-init
growing-init c =
    let step = MissesStep (IsEdge c.args.edges.now) c.args.item.now (option_copied c.args.earlier) in
    let set = c.put.new.self in
    let is : (t : SwitchId) → Holds set t ↔ ((t ≡ c.args.start) ⊎ Holds [] t) = subst (λ (v : List ℕ). (t : SwitchId) → Holds set t ↔ ((t ≡ c.args.start) ⊎ Holds v t)) c.requires.empty c.put.ensures.holds in
    (subst (λ (xs : List Edge). IsGrown c.args.start step xs set) (sym c.new-steps.ensures.items) (grown_start c.args.start step set is), c.put.ensures.most)

pub put-requires-in-Some : goal.put-requires-in-Some
put-requires-in-Some c =
    (all_members (λ (e : Edge). (e.from.0 < most_switches) × (e.to.0 < most_switches)) c.args.edges.now c.requires.edges c.in-Some.edge c.in-Some.ensures.0).1

pub growing-preserved : goal.growing-preserved
growing-preserved c =
    let step = MissesStep (IsEdge c.args.edges.now) c.args.item.now (option_copied c.args.earlier) in
    let edge = c.in-Some.edge in
    let set = c.put-in-Some.new.self in
    let out = not_stays c.growing.before c.args.item.now (option_copied c.args.earlier) edge c.in-Some.ensures.1 in (
      subst (λ (xs : List Edge). IsGrown c.args.start step xs set) (sym c.in_ok-push.ensures.items)
          (grown_more c.args.start step c.growing.steps.items edge c.growing.before set c.growing.invariant.0 out.0 (c.in-Some.ensures.0, out.2) c.put-in-Some.ensures.holds),
      c.put-in-Some.ensures.most,
    )
