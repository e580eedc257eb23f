use Rattle.std.proofs.Common.{rules, ◌≡◌}
use Rattle.std.proofs.lemmas.List.Sorted.{answers_always}
use Rattle.round_mix.proofs.OrderLaws.{all_next}
use Rattle.round_mix.proofs.RiseLaws.{is_less, distinct_from_places}
use Rattle.round_mix.proofs.sorting.are_rising.Goals as goal

pub returns : goal.returns
returns c h =
    distinct_from_places c.args.rules.now
    (all_next is_less c.args.rules.now c.is_sorted_by.result (c.is_sorted_by.ensures.cases is_less
    (answers_always _ (λ a r. r ≡ is_less a.0.now a.1.0.now) _ (λ f a r g called. search rules))) h)
