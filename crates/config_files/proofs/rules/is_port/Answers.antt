use Rattle.std.proofs.Common.{◌<◌, sym, ◌∙◌, arith}
use Rattle.std.specs.Prelude.{nat_le}
use Rattle.std.proofs.lemmas.Bool.{false_from_ne_true, leb-true}
use Rattle.config_files.proofs.Ports.{great_unused}
use Rattle.config_files.proofs.rules.is_port.Goals as goal

pub returns-else-number-le-MAX_PORT-clause-value : goal.returns-else-number-le-MAX_PORT-clause-value
returns-else-number-le-MAX_PORT-clause-value c =
    let great : 65279 < c.args.number = c.if-number-le-MAX_PORT.false in
    false_from_ne_true (nat_le c.args.number 65279) (λ e. let small = leb-true c.args.number 65279 e in omega arith)
    ∙ sym (great_unused c.args.net.now c.args.switch c.args.number c.keeps_rules.ensures great)
