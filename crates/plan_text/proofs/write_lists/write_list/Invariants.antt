use Rattle.std.proofs.Common.{take}
use Rattle.plan_text.specs.Tokens.{all_tokens, Adds}
use Rattle.plan_text.proofs.write_lists.write_list.Given as goal

abbrev pub invariant-loop-item : goal.invariant-loop-item
invariant-loop-item g l = Adds l.initial.out l.out (all_tokens g.T.Written.tree (take l.item-index l.items))
