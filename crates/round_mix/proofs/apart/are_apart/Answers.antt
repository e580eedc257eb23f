use Rattle.std.proofs.Common.{rules, ◌≡◌}
use Rattle.std.proofs.lemmas.List.Sorted.{answers_always}
use Rattle.round_mix.specs.Apart.{is_apart}
use Rattle.round_mix.proofs.KindLaws.{apart_from_places}
use Rattle.round_mix.proofs.OrderLaws.{all_next}
use Rattle.round_mix.proofs.apart.are_apart.Goals as goal

pub returns : goal.returns
returns c h =
    apart_from_places c.args.rules.now c.requires
    (all_next is_apart c.args.rules.now c.is_sorted_by.result (c.is_sorted_by.ensures.cases is_apart
    (answers_always _ (λ a r. r ≡ is_apart a.0.now a.1.0.now) _ (λ f a r g called. search rules))) h)
