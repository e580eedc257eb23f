use Rattle.serve_lines.proofs.LineLaws.{byte_ends, byte_opens}
use Rattle.serve_lines.proofs.laws.bytes_lengthen_lines.Goals as goal

pub returns : goal.returns
returns c = record {
  ended = λ bytes b differs. byte_ends bytes b differs;
  longer = λ bytes b differs. byte_opens bytes b differs;
}
