-- How packing ends.
use Rattle.std.specs.Prelude.{List}
use Rattle.flow_rules.specs.declared.rules.Rule.{Rule}
use Rattle.table_difference.specs.Targets.{Target}
use Rattle.law_packed_rounds.specs.Packing.{PacksOrdered, PacksStuck}
use Rattle.round_packer.specs.declared.Packing.{Packing}
use Rattle.round_packer.specs.declared.Packing.TheVariants.{Ordered, Stuck}

-- the packed rounds, where packing ends ordered with them or stuck after them
abbrev pub IsPacking : Target → List (List Rule) → Packing → Type 0
IsPacking to old (Ordered rounds) = PacksOrdered to old rounds
IsPacking to old (Stuck rounds) = PacksStuck to old rounds
