use Rattle.serve_lines.proofs.LineLaws.{end_ends, end_begins}
use Rattle.serve_lines.proofs.laws.line_ends_end_lines.Goals as goal

pub returns : goal.returns
returns c = record {
  ended = λ bytes. end_ends bytes;
  begun = λ bytes. end_begins bytes;
}
