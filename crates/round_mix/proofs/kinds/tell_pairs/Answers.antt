use Rattle.std.proofs.Common.{◌≡◌, ◌<◌, ℕ, length, get_or, refl, ◌∙◌, subst, ap, inl, inr, arith}
use Rattle.std.proofs.lemmas.Bool.{cases_lt}
use Rattle.std.proofs.lemmas.List.{get_or_default}
use Rattle.std.proofs.lemmas.List.Sorted.{IsPermutation-refl, IsPermutation-trans}
use Rattle.round_mix.specs.Kinds.{AreKindsApart}
use Rattle.round_mix.specs.declared.kinds.Kind.TheVariants as kind
use Rattle.round_mix.specs.declared.kinds.Pair.{Pair}
use Rattle.round_mix.proofs.SweepLaws.{kinds_moved, at_each}
use Rattle.round_mix.proofs.kinds.tell_pairs.Goals as goal

pub loop-pair-init : goal.loop-pair-init
loop-pair-init c = (IsPermutation-refl c.args.marks.now.items, λ j d less. absurd (omega arith), refl)

pub returns-in-Clash-clause-permutation : goal.returns-in-Clash-clause-permutation
returns-in-Clash-clause-permutation c =
    IsPermutation-trans c.args.marks.now.items c.loop-pair.marks.items c.tell_pair.new.marks.items c.loop-pair.invariant.0 c.tell_pair.ensures.permutation

pub returns-in-Nothing-clause-permutation : goal.returns-in-Nothing-clause-permutation
returns-in-Nothing-clause-permutation c =
    IsPermutation-trans c.args.marks.now.items c.loop-pair.marks.items c.tell_pair.new.marks.items c.loop-pair.invariant.0 c.tell_pair.ensures.permutation

pub loop-pair-preserved : goal.loop-pair-preserved
loop-pair-preserved c =
    let (moved, apart, room) = c.loop-pair.invariant in
    let pairs = c.args.pairs.now in
    let i = c.loop-pair.pair-index in
    let within : i < length pairs = c.loop-pair-test.true in
    let start : Pair = record { one = kind.Address; two = kind.Address } in
    let old = c.loop-pair.marks.items in
    let new = c.tell_pair.new.marks.items in (
      IsPermutation-trans c.args.marks.now.items old new moved c.tell_pair.ensures.permutation,
      λ j d less. elim (cases_lt j i) [
        | inl below ↦ kinds_moved (get_or pairs j d) old new c.tell_pair.ensures.permutation (apart j d below)
        | inr from ↦ (
            let at : i ≡ j = omega arith in
            subst (λ (p : Pair). AreKindsApart p new) (get_or_default pairs i start d within ∙ ap (λ (n : ℕ). get_or pairs n d) at)
            (c.tell_pair.ensures.apart c.in-Apart.is))
      ],
      c.tell_pair.ensures.room ∙ room,
    )

pub returns-clause-apart : goal.returns-clause-apart
returns-clause-apart c pair h i =
    let (moved, apart, room) = c.loop-pair.invariant in
    at_each (λ (p : Pair). AreKindsApart p c.loop-pair.marks.items) c.args.pairs.now pair (λ j d less. let end = c.loop-pair-test.false in apart j d (omega arith)) i
