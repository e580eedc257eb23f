use Rattle.net_base.proofs.TextLines.{line_read, none_read}
use Rattle.serve_lines.specs.Lines.{text_in, spelled_in}
use Rattle.serve_lines.specs.declared.fault.LineFault.TheVariants.{Bad, Memory}
use Rattle.serve_lines.specs.declared.line.ServeLine.{ServeLine}
use Rattle.serve_lines.proofs.read.read_spelled.Goals as goal

pub returns-in-Ok-clause-read : goal.returns-in-Ok-clause-read
unfolding spelled_in
returns-in-Ok-clause-read c =
    line_read Memory Bad (λ (l : ServeLine). l) (text_in c.args.net.now) c.args.line.now c.in-Ok.text.now c.in-Ok.ensures.cases.0 c.in-Ok.ensures.cases.1 c.read_text.result c.read_text.ensures.read

pub returns-in-Err-clause-read : goal.returns-in-Err-clause-read
unfolding spelled_in
returns-in-Err-clause-read c = none_read Memory Bad (λ (l : ServeLine). l) (text_in c.args.net.now) c.args.line.now c.in-Err.ensures.cases.0
