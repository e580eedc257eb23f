use Rattle.std.proofs.Common.{◌∙◌}
use Rattle.std.proofs.lemmas.Map.Made.{is_some-lookup}
use Rattle.topology.specs.Networks.{stop_eq}
use Rattle.topology.proofs.ports.Ports.contains.Goals as goal

pub returns : goal.returns
returns c = rw (← c.self.view_is) (c.contains_key.ensures ∙ is_some-lookup (stop_eq c.args.stop) c.self.inside.ends.entries)
