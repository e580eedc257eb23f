use Rattle.std.proofs.Common.{◌≡◌, ◌∙◌, ℕ, List, length, sum, ap, arith}
use Rattle.std.proofs.lemmas.List.{length-map}
use Rattle.schedule_pilot.specs.Agendas.{numbers_on}
use Rattle.schedule_pilot.specs.Counts.{one_if_on}
use Rattle.schedule_pilot.proofs.CountLaws.{sum_ones, few_on}
use Rattle.schedule_pilot.proofs.flag_tree.FlagTree.of.Goals as goal

pub rows_above-requires : goal.rows_above-requires
rows_above-requires c =
    let all : sum c.in_ok-ones.ones.items ≡ length (numbers_on 0 c.args.flags.now) = ap (λ (row : List ℕ). sum row) c.in_ok-ones.ensures ∙ sum_ones 0 c.args.flags.now in
    let few = few_on 0 c.args.flags.now in
    let same : length c.in_ok-ones.ones.items ≡ length c.args.flags.now = ap (λ (row : List ℕ). length row) c.in_ok-ones.ensures ∙ length-map c.args.flags.now one_if_on in
    let count = c.in_ok-ones.ones.ok in
    let small = c.in_ok-ones.ones.small in
    omega arith
