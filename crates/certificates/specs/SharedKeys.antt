-- The use that a key stands for.
use Rattle.certificates.specs.declared.Shared.{Shared}
use Rattle.certificates.specs.declared.shared_key.SharedKey.{SharedKey}

-- its numbering and its list of before sets
abbrev pub shared_of : SharedKey → Shared
shared_of key = record { numbering = key.numbering; befores = key.befores.items }
