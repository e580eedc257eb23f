-- A row speaks for every address of its class.
use Rattle.std.specs.Prelude.{◌≡◌, ℕ, ◌<◌, ◌^◌, List, slice_get, Some}
use Rattle.net_base.specs.declared.ids.Place.{Place}
use Rattle.topology.specs.Networks.{IsEntry}
use Rattle.dest_classes.specs.Numbered.{IsClassOf}
use Rattle.path_walk.specs.Walked.{PathEndsAs}
use Rattle.config_command.specs.Configs.{ConfigMeaning}
use Rattle.config_command.specs.Verdicts.{classes_under}
use Rattle.paths_command.specs.Rows.{ClassRow, IsMark}

-- class n has this entry and the address
abbrev pub IsInClass : ConfigMeaning → ℕ → Place → ℕ → Type 0
IsInClass m n entry dst = IsClassOf (classes_under m.net m.tables m.demands) n entry dst

-- what the row says of its class holds of this address: a packet to it takes the path of the row, from the entry of the row on, and the
-- mark is the verdict on that path
pub record SpeaksFor (m : ConfigMeaning) (row : ClassRow) (dst : ℕ) : Type 0 where
  pub path : PathEndsAs m.net m.tables row.class.entry dst row.stops row.end
  pub marked : IsMark m.net m.tables m.demands (record { entry = row.class.entry; first = dst }) row.mark

-- there is a row for an entry and an address: that of their class, with this entry
pub record HasRow (m : ConfigMeaning) (rows : List ClassRow) (entry : Place) (dst : ℕ) : Type 0 where
  pub number : ℕ
  pub row : ClassRow
  pub at : slice_get rows number ≡ Some row
  pub class : IsInClass m number entry dst
  pub entry_is : row.class.entry ≡ entry

-- each row speaks for every address of its class, and there is a row for each entry and each address
pub record SpeakForAll (m : ConfigMeaning) (rows : List ClassRow) : Type 0 where
  pub each : (n : ℕ) (row : ClassRow) (dst : ℕ) → slice_get rows n ≡ Some row → dst < 2 ^ 32 → IsInClass m n row.class.entry dst → SpeaksFor m row dst
  pub every : (entry : Place) (dst : ℕ) → IsEntry m.net entry → dst < 2 ^ 32 → HasRow m rows entry dst
