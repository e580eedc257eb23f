-- The layers of a two-phase plan, ranks or depths: their order, and how many there are.
use Rattle.std.proofs.Common.{◌≡◌, ℕ, ◌<◌, ◌≤◌, List, length, sum_by, refl, ◌∙◌, ap}
use Rattle.std.specs.Prelude.{reverse}
use Rattle.std.proofs.lemmas.List.{reverse-reverse}
use Rattle.topology.specs.Networks.{Network}
use Rattle.flow_rules.specs.declared.rules.Rule.{Rule}
use Rattle.update_model.specs.declared.Change.{Change}
use Rattle.certificates.specs.declared.Plan.{Plan}
use Rattle.two_phase.specs.TwoPhasePlan.{ranks}
use Rattle.two_phase.specs.Plans.{layered_plan}
use Rattle.two_phase.specs.Layers.{laying_order, taking_order, layer_count, ingress_layer, rounds_by}
use Rattle.two_phase.specs.declared.layers.Layering.{Layering}
use Rattle.two_phase.specs.declared.layers.Layering.TheVariants.{ByRank, ByDepth}
use Rattle.two_phase.proofs.LayerLaws.{IsLayering}
use Rattle.two_phase.proofs.RankLaws.{rank_layering}
use Rattle.two_phase.proofs.DepthLaws.{depth_layering, few_depths}
use Rattle.two_phase.proofs.ValidCounts.{few_ranks}

-- which of two layers is laid first
abbrev pub is_earlier : Layering → ℕ → ℕ → Type 0
is_earlier ByRank a b = b < a
is_earlier ByDepth a b = a < b

pub layering_is : (layering : Layering) (net : Network) (new : List (List Rule))
    → IsLayering net new (ingress_layer layering net new) (is_earlier layering) (layer_count layering net new) (laying_order layering net new) (taking_order layering net new)
layering_is ByRank net new = rank_layering net new
layering_is ByDepth net new = depth_layering net new

pub few_layers : (layering : Layering) (net : Network) (new : List (List Rule)) → sum_by length new ≤ 2048 → layer_count layering net new ≤ 2049
few_layers ByRank net new few = few_ranks net new few
few_layers ByDepth net new few = few_depths net new few

pub taking_reversed : (layering : Layering) (net : Network) (new : List (List Rule)) → reverse (laying_order layering net new) ≡ taking_order layering net new
taking_reversed ByRank net new = reverse-reverse (ranks net new)
taking_reversed ByDepth net new = refl

-- the plan that is made of these rounds and layers
pub plan_is : (layering : Layering) (net : Network) (old new : List (List Rule)) (tried rounds : List (List Change)) (layers : ℕ) (plan : Plan)
    → rounds ≡ rounds_by layering net old new → layers ≡ layer_count layering net new → plan ≡ layered_plan net rounds layers tried
    → plan ≡ layered_plan net (rounds_by layering net old new) (layer_count layering net new) tried
plan_is layering net old new tried rounds layers plan e f g =
    g ∙ ap (λ rs. layered_plan net rs layers tried) e ∙ ap (λ n. layered_plan net (rounds_by layering net old new) n tried) f
