-- What is known of a listing while it is made, and the answer that it is.
use Rattle.std.specs.Prelude.{◌≡◌, ℕ, List, length, flat_map, zero, suc}
use Rattle.topology.specs.Networks.{Network, switch_count}
use Rattle.flow_rules.specs.Tables.{rules_of_all}
use Rattle.demands.specs.Duties.{ClassDuties}
use Rattle.config_check.specs.Met.{IsMetPath}
use Rattle.command_base.specs.declared.status.Status.{Status}
use Rattle.command_base.specs.declared.status.Status.TheVariants as status
use Rattle.command_base.specs.Answers.{Answer}
use Rattle.command_base.specs.Judgements.{IsJudgement}
use Rattle.config_command.specs.Configs.{ConfigMeaning, config_count}
use Rattle.config_command.specs.Verdicts.{classes_under, HoldsUnder}
use Rattle.paths_command.specs.declared.marks.Counts.{Counts}
use Rattle.paths_command.specs.declared.listing.JudgedConfig as code
use Rattle.paths_command.specs.declared.listing.Rooms as room
use Rattle.paths_command.specs.Rows.{ClassRow, AreFirstRows, AreRows}
use Rattle.paths_command.specs.Lines.{row_line, paths_text, counts_of}

-- the network, the tables and the demands that are judged
abbrev pub meaning_of : code.JudgedConfig → ConfigMeaning
meaning_of judged =
    let tables = rules_of_all judged.config.now in
    record { net = judged.net.now; tables = tables; demands = judged.demands.now }

-- there is a table for each switch, and the duties are those of the classes under the demands
pub record IsJudgeable (judged : code.JudgedConfig) : Type 0 where
  pub tables : length judged.config.now ≡ switch_count judged.net.now
  pub demands : judged.duties.now.demands ≡ judged.demands.now
  pub classes : judged.duties.now.classes
      ≡ classes_under judged.net.now (rules_of_all judged.config.now) judged.demands.now

-- the rooms were made for as many switches, and what they keep of chains holds of these duties
pub record AreRooms (net : Network) (duties : ClassDuties) (rooms : room.Rooms) : Type 0 where
  pub path : rooms.path.switches ≡ switch_count net
  pub met : IsMetPath duties rooms.met

-- the lines of the first classes, and how many of them have each kind of mark
pub record IsListing (m : ConfigMeaning) (count : ℕ) (text : List ℕ) (counts : Counts)
    : Type 0 where
  pub rows : List ClassRow
  pub are : AreFirstRows m count rows
  pub text_is : text ≡ flat_map (row_line m.net) rows
  pub counts_are : counts ≡ counts_of rows

-- Done where no class breaks, otherwise Refused
abbrev pub listed_status : ℕ → Status
listed_status zero = status.Done
listed_status (suc breaks) = status.Refused

-- the text has the line of each class, and the last line
pub record IsPathsText (m : ConfigMeaning) (text : List ℕ) : Type 0 where
  pub rows : List ClassRow
  pub are : AreRows m rows
  pub text_is : text ≡ paths_text m.net rows

-- too many classes, or this text: Done where each class has a good path, otherwise Refused
abbrev pub IsPathsAnswer : ConfigMeaning → Answer → Type 0
IsPathsAnswer m answer =
    IsJudgement (config_count m) (HoldsUnder m.net m.tables m.demands)
    (IsPathsText m answer.text) answer.text (IsPathsText m) answer
