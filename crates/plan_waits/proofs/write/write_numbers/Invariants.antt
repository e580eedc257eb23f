use Rattle.std.proofs.Common.{take}
use Rattle.config_files.specs.RuleTrees.{whole_tree}
use Rattle.plan_text.specs.Tokens.{all_tokens, Adds}
use Rattle.plan_waits.proofs.write.write_numbers.Given as goal

abbrev pub invariant-loop-number : goal.invariant-loop-number
invariant-loop-number l = Adds l.initial.out l.out (all_tokens whole_tree (take l.number-index l.numbers))
