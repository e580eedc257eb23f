use Rattle.std.proofs.Common.{arith}
use Rattle.std.proofs.lemmas.Result.{IfOk-weaker}
use Rattle.serde_json.specs.View.{view}
use Rattle.flow_rules.specs.Tables.{rules_of_all}
use Rattle.config_files.proofs.Shallow.{config_flat}
use Rattle.config_files.proofs.ConfigAgain.{text_again}
use Rattle.config_files.proofs.write.config_text.Goals as goal

pub write_line-requires-clause-no_float : goal.write_line-requires-clause-no_float
write_line-requires-clause-no_float c = rw c.in_ok-config_value.ensures (config_flat c.args.net.now (rules_of_all c.args.config.now)).no_float

pub write_line-requires-clause-shallow : goal.write_line-requires-clause-shallow
write_line-requires-clause-shallow c = let h = (config_flat c.args.net.now (rules_of_all c.args.config.now)).shallow in rw c.in_ok-config_value.ensures (omega (arith, h))

pub returns-clause-again : goal.returns-clause-again
returns-clause-again c =
    IfOk-weaker c.write_line.result _ _
    (λ b. text_again c.args.net.now (rules_of_all c.args.config.now) b.items (view c.in_ok-config_value.field-0) c.keeps_rules.ensures c.requires.user c.in_ok-config_value.ensures)
    c.write_line.ensures.reads_back
