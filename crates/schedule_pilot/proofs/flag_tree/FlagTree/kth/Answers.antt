use Rattle.std.proofs.Common.{◌≡◌, ◌∙◌, ℕ, Bool, List, length, map, sum, ap, sym, subst, arith}
use Rattle.std.specs.Prelude.{slice_get}
use Rattle.schedule_pilot.specs.Agendas.{numbers_on}
use Rattle.schedule_pilot.specs.Counts.{one_if_on, last_row, IsCountedAt}
use Rattle.schedule_pilot.proofs.CountLaws.{top_counts, top_sum, sum_ones, kth_is}
use Rattle.schedule_pilot.proofs.flag_tree.FlagTree.kth.Goals as goal

pub position_of-requires-clause-top : goal.position_of-requires-clause-top
position_of-requires-clause-top c =
    let flags = c.self.inside.flags.items in
    let all : sum (last_row c.self.inside.rows) ≡ length (numbers_on 0 c.args.self.now) =
    top_sum (map one_if_on flags) c.self.inside.rows c.self.invariant.rows_are ∙ sum_ones 0 flags ∙ ap (λ (l : List Bool). length (numbers_on 0 l)) c.self.view_is in
    let less = c.requires in
    top_counts (last_row c.self.inside.rows) c.args.k c.self.invariant.top (omega arith)

pub returns : goal.returns
returns c =
    let (rest, at) = c.position_of.ensures in
    ap (λ (l : List Bool). slice_get (numbers_on 0 l) c.args.k) (sym c.self.view_is)
    ∙ kth_is c.self.inside.flags.items c.args.k c.position_of.result rest (subst (λ (row : List ℕ). IsCountedAt row c.args.k c.position_of.result rest) c.self.invariant.rows_are.lowest_is at)
