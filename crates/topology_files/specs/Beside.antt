-- A port that is used besides those of a network.
use Rattle.std.specs.Prelude.{List, [], ◌∷◌, Option, Some, None}
use Rattle.net_base.specs.declared.ids.Stop.{Stop}

-- the port, if there is one
abbrev pub beside_list : Option Stop → List Stop
beside_list None = []
beside_list (Some stop) = stop ∷ []
