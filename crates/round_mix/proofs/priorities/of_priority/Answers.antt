use Rattle.round_mix.proofs.PriorityLaws.{rising, between}
use Rattle.round_mix.proofs.priorities.of_priority.Goals as goal

pub slice_bounds-result-count : goal.slice_bounds-result-count
slice_bounds-result-count c =
    rising c.args.marks.now c.args.priority c.first_of.result c.end_of.result c.first_of.ensures.within c.first_of.ensures.before c.first_of.ensures.behind c.end_of.ensures.before c.end_of.ensures.behind

pub slice_bounds-result-start : goal.slice_bounds-result-start
slice_bounds-result-start c =
    rising c.args.marks.now c.args.priority c.first_of.result c.end_of.result c.first_of.ensures.within c.first_of.ensures.before c.first_of.ensures.behind c.end_of.ensures.before c.end_of.ensures.behind

pub returns : goal.returns
returns c =
    between c.args.marks.now c.args.priority c.first_of.result c.end_of.result c.first_of.ensures.within c.first_of.ensures.before c.first_of.ensures.behind c.end_of.ensures.before c.end_of.ensures.behind
