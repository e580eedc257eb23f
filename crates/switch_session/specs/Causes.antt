-- Why a session failed, in words.
use Rattle.std.specs.Prelude.{ℕ, List, ◌++◌, codes, decimal}
use Rattle.switch_session.specs.declared.Cause.{Cause}
use Rattle.switch_session.specs.declared.Cause.TheVariants as cause

-- a cause by its name, and behind it the numbers that the switch sent
abbrev pub cause_text : Cause → List ℕ
cause_text cause.Length = codes "Length"
cause_text cause.Version = codes "Version"
cause_text cause.NoHello = codes "NoHello"
cause_text (cause.Error kind code) = codes "Error " ++ decimal kind ++ codes " " ++ decimal code
cause_text (cause.Xid xid) = codes "Xid " ++ decimal xid
