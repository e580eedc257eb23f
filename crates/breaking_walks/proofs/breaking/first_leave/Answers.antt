use Rattle.std.proofs.Common.{◌<◌, ◌≤◌, List, length, sym, ◌∙◌, subst, ap, arith}
use Rattle.std.specs.Prelude.{Some}
use Rattle.std.proofs.lemmas.List.{take_all}
use Rattle.std.proofs.lemmas.Option.{slice_get-get_or}
use Rattle.net_base.specs.Members.{IsIn}
use Rattle.net_base.proofs.ItemLaws.{in_from_get}
use Rattle.path_walk.specs.declared.Outcome.{Outcome}
use Rattle.path_walk.specs.declared.Outcome.TheVariants.{Discard, Leave}
use Rattle.breaking_walks.proofs.BreakLaws.{not_in_next}
use Rattle.breaking_walks.proofs.breaking.first_leave.Goals as goal

pub returns-in-Leave-clause-some : goal.returns-in-Leave-clause-some
returns-in-Leave-clause-some c =
    let outcomes = c.args.outcomes.now in
    let i = c.loop-outcome.outcome-index in
    let less : i < length outcomes = omega arith in
    in_from_get outcomes i (Leave c.in-Leave.port c.in-Leave.vlan) (slice_get-get_or outcomes i _ less ∙ ap Some c.in-Leave.is)

pub loop-outcome-preserved : goal.loop-outcome-preserved
loop-outcome-preserved c port vlan =
    let less : c.loop-outcome.outcome-index < length c.args.outcomes.now = omega arith in
    not_in_next (Leave port vlan) c.args.outcomes.now c.loop-outcome.outcome-index Discard less (c.loop-outcome.invariant port vlan) (c.in_default.not-Leave port vlan)

pub returns-clause-none : goal.returns-clause-none
returns-clause-none c port vlan among =
    let outcomes = c.args.outcomes.now in
    let i = c.loop-outcome.outcome-index in
    let all : length outcomes ≤ i = omega arith in
    c.loop-outcome.invariant port vlan (subst (λ (xs : List Outcome). IsIn (Leave port vlan) xs) (sym (take_all i outcomes all)) among)
