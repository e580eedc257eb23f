use Rattle.std.proofs.Common.{◌≡◌, ℕ, ap, ◌∙◌, subst}
use Rattle.std.specs.Prelude.{slice_set, Option, IfSome}
use Rattle.std.proofs.lemmas.Option.{get_or_from_slice_get}
use Rattle.round_mix.specs.Named.{IsPlaceOf, with_mark}
use Rattle.round_mix.specs.declared.Mark.{Mark}
use Rattle.round_mix.specs.declared.Mark.TheVariants.{Sure}
use Rattle.round_mix.specs.declared.MarkedRule.{MarkedRule}
use Rattle.round_mix.proofs.named.mark_at.Goals as goal

pub returns-clause-marked : goal.returns-clause-marked
returns-clause-marked c _ =
    let old = c.args.marks.now.items in
    let i = c.in-Some.i in
    let found = subst (λ (place : Option ℕ). IfSome place (IsPlaceOf c.args.change.now old)) c.in-Some.is c.requires in
    let here : c.index_mut.result.now ≡ with_mark found.rule Sure =
    c.index_mut.ensures.value ∙ get_or_from_slice_get old i (with_mark found.rule Sure) c.index_mut.result.now found.at in
    record {
      place = i;
      rule = found.rule;
      at = found.at;
      named = found.named;
      is = ap (λ (m : MarkedRule). slice_set old i (with_mark m.rule c.mark_by.result)) here
          ∙ ap (λ (b : Mark). slice_set old i (with_mark found.rule b)) c.mark_by.ensures;
    }
