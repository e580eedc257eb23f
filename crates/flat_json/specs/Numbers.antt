-- What a number of a text means.
use Rattle.serde_json.specs.Data.{Num, unsigned, negative, float}
use Rattle.flat_json.specs.declared.number.Number.{Number}
use Rattle.flat_json.specs.declared.number.Number.TheVariants.{Whole, Negative, Float}

-- the number that it is
abbrev pub num_of : Number → Num
num_of (Whole n) = unsigned n
num_of (Negative z) = negative z
num_of (Float x) = float x
