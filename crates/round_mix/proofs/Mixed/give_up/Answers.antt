use Rattle.std.proofs.Common.{◌≤◌, ◌∷◌, [], ◌++◌, cond, List, length, sym, ◌∙◌, ap, subst, arith}
use Rattle.std.specs.Prelude.{Some, None, reverse, IfSome, IsSomeAnd}
use Rattle.round_mix.specs.Nearest.{patterns_in}
use Rattle.round_mix.specs.Prepared.{IsFalling, MixedState, IsPrepared}
use Rattle.round_mix.specs.declared.MarkedRule.{MarkedRule}
use Rattle.round_mix.proofs.BackLaws.{returned}
use Rattle.round_mix.proofs.TriedLaws.{given_falling, given_few, given_patterns, carried, carried_few}
use Rattle.round_mix.proofs.Mixed.give_up.Goals as goal

pub returns-clause-before : goal.returns-clause-before
returns-clause-before c table changes is_table prepared =
    let change = c.args.change.now in
    let marks = c.self.inside.rules.items in
    carried c.self.inside.is_prepared marks c.take_back.new.marks.items (IsPrepared table (changes ++ change ∷ [])) (IsPrepared table changes)
    (subst (λ (v : MixedState). IsSomeAnd v.prepared (IsPrepared table (changes ++ change ∷ []))) (sym c.self.view_is) prepared)
    (λ p. subst (IsPrepared table changes) (sym c.take_back.ensures.items) (returned table changes change marks is_table p))

pub returns-clause-few : goal.returns-clause-few
returns-clause-few c =
    let marks = c.self.inside.rules.items in
    let new = c.take_back.new.marks.items in
    let less : length new ≤ length marks = subst (λ (ms : List MarkedRule). length ms ≤ length marks) (sym c.take_back.ensures.items) (given_few c.args.change.now marks) in
    subst (λ (v : MixedState). IfSome v.prepared (λ old. IsSomeAnd (cond c.self.inside.is_prepared (Some new) None) (λ ms. length ms ≤ length old))) c.self.view_is
    (carried_few c.self.inside.is_prepared marks new (λ n. n) less)

pub invariant_of-self : goal.invariant_of-self
invariant_of-self c =
    let marks = c.self.inside.rules.items in
    let less : length c.take_back.new.marks.items ≤ length marks = subst (λ (ms : List MarkedRule). length ms ≤ length marks) (sym c.take_back.ensures.items) (given_few c.args.change.now marks) in (
      omega (arith, c.self.invariant.0, c.take_back.ensures.room),
      c.self.invariant.1,
      λ on. let fits = c.self.invariant.2 on in omega (arith, fits, less, c.self.inside.rules.ok, c.take_back.new.marks.ok),
      tt,
      λ on. c.self.invariant.4 (c.stays_indexed-self-inside.ensures.was on) ∙ ap reverse (sym (ap patterns_in c.take_back.ensures.items ∙ given_patterns c.args.change.now marks (sym c.is_insert.ensures ∙ c.stays_indexed-self-inside.ensures.unmoved on))),
      subst IsFalling (sym c.take_back.ensures.items) (given_falling c.args.change.now marks c.self.invariant.5),
    )
