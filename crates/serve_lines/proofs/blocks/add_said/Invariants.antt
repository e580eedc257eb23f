use Rattle.std.proofs.Common.{◌≡◌, ◌++◌, map, drop}
use Rattle.net_base.specs.Lines.{text_of}
use Rattle.serve_lines.specs.Blocks.{said_line}
use Rattle.serve_lines.proofs.blocks.add_said.Given as goal

abbrev pub invariant-loop-one : goal.invariant-loop-one
invariant-loop-one l = l.text.items ++ text_of (map (said_line l.net) (drop l.one-index l.said)) ≡ l.initial.text.items ++ text_of (map (said_line l.net) l.said)
