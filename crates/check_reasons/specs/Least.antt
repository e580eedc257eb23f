-- The least of switches.
use Rattle.std.specs.Prelude.{◌≤◌, Option, Some, None, nat_lt, if◌then◌else◌}
use Rattle.net_base.specs.declared.ids.SwitchId.{SwitchId}

-- the least switch of which a fact holds
pub record IsLeastSwitch (P : SwitchId → Type 0) (s : SwitchId) : Type 0 where
  pub holds : P s
  pub least : (r : SwitchId) → P r → s.0 ≤ r.0

-- the least switch of those of which a fact holds, or none where it holds of none
abbrev pub IsLeastOf : (SwitchId → Type 0) → Option SwitchId → Type 0
IsLeastOf P None = (s : SwitchId) → ¬ P s
IsLeastOf P (Some s) = IsLeastSwitch P s

-- the lesser of two switches, where there are two
abbrev pub lesser : Option SwitchId → Option SwitchId → Option SwitchId
lesser None other = other
lesser (Some s) None = Some s
lesser (Some s) (Some t) = Some (if nat_lt t.0 s.0 then t else s)
