use Rattle.std.proofs.Common.{refl}
use Rattle.serve_lines.proofs.KeptLaws.{kept_next, line_kept}
use Rattle.serve_lines.proofs.laws.what_is_kept_tells.Goals as goal

pub returns : goal.returns
returns c = record {
  told = λ net line. line_kept net line;
  next = λ line b. kept_next 262145 line b;
}
