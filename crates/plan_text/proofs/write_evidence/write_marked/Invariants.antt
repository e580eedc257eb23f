use Rattle.std.proofs.Common.{take}
use Rattle.config_files.specs.RuleTrees.{whole_tree}
use Rattle.waypoint_evidence.specs.Befores.{marked_from}
use Rattle.plan_text.specs.Tokens.{all_tokens, Adds}
use Rattle.plan_text.proofs.write_evidence.write_marked.Given as goal

abbrev pub invariant-loop-number : goal.invariant-loop-number
invariant-loop-number l = Adds l.initial.out l.out (all_tokens whole_tree (marked_from 0 (take l.number l.marks)))
