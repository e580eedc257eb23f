use Rattle.std.proofs.Common.{refl}
use Rattle.flat_json.proofs.LineEnd.{tree_in-line_end}
use Rattle.flat_json.proofs.line.write_line.Goals as goal

pub returns-clause-text : goal.returns-clause-text
returns-clause-text c = rw (c.in_ok-push.ensures.items, c.in_ok-bytes.ensures.text c.requires.no_float) refl

pub returns-clause-reads_back : goal.returns-clause-reads_back
returns-clause-reads_back c = rw c.in_ok-push.ensures.items (tree_in-line_end _ _ c.in_ok-bytes.ensures.compact c.in_ok-bytes.ensures.utf8 (c.in_ok-bytes.ensures.reads_back c.requires.shallow))
