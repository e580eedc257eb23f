use Rattle.std.proofs.Common.{◌∙◌, sym, inl, inr, arith}
use Rattle.std.proofs.lemmas.Bool.{false≢true}
use Rattle.std.proofs.lemmas.Option.{slice_get_cases}
use Rattle.round_tables.proofs.OutsideLaws.{outside_next, outside_same}
use Rattle.round_tables.proofs.loading.next_outside.Goals as goal

pub returns-then-is_outside_below : goal.returns-then-is_outside_below
returns-then-is_outside_below c =
    elim (slice_get_cases c.args.round.now c.args.i).1 [
      | inl w ↦ outside_next c.args.count c.args.round.now c.args.i w.0 w.2 c.args.found c.requires.so_far ((c.is_outside_below.ensures w.0 w.2).0 c.if-is_outside_below.true)
      | inr past ↦ absurd (let less = c.requires.within in let beyond = past.0 in omega arith)
    ]

pub returns : goal.returns
returns c =
    elim (slice_get_cases c.args.round.now c.args.i).1 [
      | inl w ↦ outside_same c.args.count c.args.round.now c.args.i w.0 w.2 c.args.found c.requires.so_far
          (λ below. false≢true (sym c.if-is_outside_below.false ∙ (c.is_outside_below.ensures w.0 w.2).1 below))
      | inr past ↦ absurd (let less = c.requires.within in let beyond = past.0 in omega arith)
    ]
