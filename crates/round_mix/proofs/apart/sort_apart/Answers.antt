use Rattle.std.proofs.lemmas.List.Sorted.{IsPermutation-sym, IsPermutation-trans}
use Rattle.round_mix.proofs.ApartLaws.{apart_moved}
use Rattle.round_mix.proofs.apart.sort_apart.Goals as goal

pub returns-clause-permutation : goal.returns-clause-permutation
returns-clause-permutation c =
    IsPermutation-trans c.args.marks.now.items c.are_apart_by_key.new.marks.items c.sort_by_key.new.marks.items c.are_apart_by_key.ensures.permutation
    (IsPermutation-trans c.are_apart_by_key.new.marks.items c.are_apart_by_kind-is_apart.new.marks.items c.sort_by_key.new.marks.items
    c.are_apart_by_kind-is_apart.ensures.permutation c.sort_by_key.ensures.permutation)

pub returns-clause-apart : goal.returns-clause-apart
returns-clause-apart c =
    let swept = c.are_apart_by_kind-is_apart.new.marks.items in
    let sorted = c.sort_by_key.new.marks.items in
    let moved = c.sort_by_key.ensures.permutation in (
      λ h. apart_moved swept sorted moved (c.are_apart_by_kind-is_apart.ensures.apart.0 h),
      λ apart. c.are_apart_by_kind-is_apart.ensures.apart.1 (apart_moved sorted swept (IsPermutation-sym swept sorted moved) apart),
    )
