-- The lines on an update for which there is no plan.
use Rattle.std.specs.Prelude.{ℕ, List, ◌++◌, codes, decimal}
use Rattle.net_base.specs.declared.ids.SwitchId.{SwitchId}
use Rattle.topology.specs.Networks.{Network}
use Rattle.update_model.specs.declared.Change.{Change}
use Rattle.plan_text.specs.PlanText.{rounds_text}
use Rattle.command_base.specs.Lines.{switch_name}

-- the rounds that were tried
abbrev pub tried_line : Network → List (List Change) → List ℕ
tried_line net tried = codes "tried: " ++ rounds_text net tried ++ codes "\n"

-- on more declared VLANs than available tags
abbrev pub too_few_lines : Network → ℕ → ℕ → List (List Change) → List ℕ
too_few_lines net need has tried = codes "too few tags: need " ++ decimal need ++ codes ", has " ++ decimal has ++ codes "\n" ++ tried_line net tried

-- on a switch at which two phases need more entries than it has room for
abbrev pub too_small_lines : Network → SwitchId → ℕ → ℕ → List (List Change) → List ℕ
too_small_lines net s need capacity tried =
    codes "too small: switch " ++ switch_name net s ++ codes " need " ++ decimal need ++ codes " capacity " ++ decimal capacity ++ codes "\n" ++ tried_line net tried
