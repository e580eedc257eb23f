-- The text of a listing.
use Rattle.std.specs.Prelude.{ℕ, Bool, true, false, List, ◌++◌, length, flat_map, count_by, codes, decimal}
use Rattle.net_base.specs.Text.{vlan_text}
use Rattle.net_base.specs.declared.ids.Stop.{Stop}
use Rattle.topology.specs.Networks.{Network}
use Rattle.path_walk.specs.declared.PlacesEnd.{PlacesEnd}
use Rattle.path_walk.specs.declared.PlacesEnd.TheVariants.{Left, Dropped, Again}
use Rattle.command_base.specs.Lines.{switch_name, class_text, how_text}
use Rattle.paths_command.specs.declared.marks.Counts.{Counts}
use Rattle.paths_command.specs.declared.marks.Mark.{Mark}
use Rattle.paths_command.specs.declared.marks.Mark.TheVariants.{Good, Free, Breaks}
use Rattle.paths_command.specs.Rows.{ClassRow}

-- a port of a switch: `SWITCH:PORT`
abbrev pub stop_text : Network → Stop → List ℕ
stop_text net stop = switch_name net stop.switch ++ codes ":" ++ decimal stop.port.0

-- the stops, each after a space
abbrev pub stops_text : Network → List Stop → List ℕ
stops_text net stops = flat_map (λ stop. codes " " ++ stop_text net stop) stops

-- how the path of a class ends
abbrev pub end_text : Network → PlacesEnd → List ℕ
end_text net (Left s port vlan) =
    codes "left " ++ stop_text net (record { switch = s; port = port })
    ++ codes " " ++ vlan_text vlan
end_text net (Dropped s) = codes "dropped " ++ switch_name net s
end_text net (Again s) = codes "again " ++ switch_name net s

-- a mark; of a class that breaks the word and the switch that `config` names
abbrev pub mark_text : Network → Mark → List ℕ
mark_text net Good = codes "good"
mark_text net Free = codes "free"
mark_text net (Breaks how) = how_text net how

-- the line of a class: `CLASS: SWITCH:PORT .. END MARK`
abbrev pub row_line : Network → ClassRow → List ℕ
row_line net row =
    class_text net row.class ++ codes ":" ++ stops_text net row.stops ++ codes " "
    ++ end_text net row.end ++ codes " " ++ mark_text net row.mark ++ codes "\n"

-- whether the mark says that the path is good and some demand covers the class
abbrev pub is_good : Mark → Bool
is_good Good = true
is_good _ = false

-- whether the mark says that the path is good and no demand covers the class
abbrev pub is_free : Mark → Bool
is_free Free = true
is_free _ = false

-- whether the mark says that the path isn't good
abbrev pub is_break : Mark → Bool
is_break (Breaks how) = true
is_break _ = false

-- so many classes, and so many lines with each kind of mark
abbrev pub counts_text : ℕ → Counts → List ℕ
counts_text classes counts =
    decimal classes ++ codes " classes: " ++ decimal counts.good ++ codes " good, "
    ++ decimal counts.free ++ codes " free, " ++ decimal counts.breaks ++ codes " break\n"

-- how many rows have each kind of mark
abbrev pub counts_of : List ClassRow → Counts
counts_of rows = record {
  good = count_by (λ row. is_good row.mark) rows;
  free = count_by (λ row. is_free row.mark) rows;
  breaks = count_by (λ row. is_break row.mark) rows;
}

-- a line for each class, and the last line
abbrev pub paths_text : Network → List ClassRow → List ℕ
paths_text net rows = flat_map (row_line net) rows ++ counts_text (length rows) (counts_of rows)
