use Rattle.net_base.proofs.TextLines.{line_read, none_read}
use Rattle.driver_input.specs.Lines.{text_in}
use Rattle.driver_input.specs.declared.fault.InputFault.TheVariants.{BadLine, Memory}
use Rattle.driver_input.specs.declared.inputs.Input.{Input}
use Rattle.driver_input.proofs.lines.read_line_input.Goals as goal

pub returns-in-Ok-clause-read : goal.returns-in-Ok-clause-read
returns-in-Ok-clause-read c =
    line_read Memory (BadLine c.args.number) (λ (i : Input). i) (text_in c.args.net.now c.args.number) c.args.line.now c.in-Ok.text.now c.in-Ok.ensures.cases.0 c.in-Ok.ensures.cases.1 c.read_text.result c.read_text.ensures.read

pub returns-in-Err-clause-read : goal.returns-in-Err-clause-read
returns-in-Err-clause-read c = none_read Memory (BadLine c.args.number) (λ (i : Input). i) (text_in c.args.net.now c.args.number) c.args.line.now c.in-Err.ensures.cases.0
