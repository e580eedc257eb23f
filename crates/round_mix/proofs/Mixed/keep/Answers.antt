use Rattle.std.proofs.Common.{◌≤◌, ◌∷◌, [], cond, List, length, sym, ◌∙◌, ap, subst, arith}
use Rattle.std.specs.Prelude.{Some, None, reverse, IfSome, IsSomeAnd}
use Rattle.update_model.specs.Changes.{rules_after_change}
use Rattle.round_mix.specs.Nearest.{patterns_in}
use Rattle.round_mix.specs.Prepared.{IsFalling, MixedState, IsPrepared}
use Rattle.round_mix.specs.declared.MarkedRule.{MarkedRule}
use Rattle.round_mix.proofs.MadeLaws.{made_first}
use Rattle.round_mix.proofs.TriedLaws.{kept_falling, kept_few, kept_patterns, carried, carried_few}
use Rattle.round_mix.proofs.Mixed.keep.Goals as goal

pub returns-clause-after : goal.returns-clause-after
returns-clause-after c table is_table prepared =
    let change = c.args.change.now in
    let marks = c.self.inside.rules.items in
    carried c.self.inside.is_prepared marks c.make.new.marks.items (IsPrepared table (change ∷ [])) (IsPrepared (rules_after_change change table) [])
    (subst (λ (v : MixedState). IsSomeAnd v.prepared (IsPrepared table (change ∷ []))) (sym c.self.view_is) prepared)
    (λ p. subst (IsPrepared (rules_after_change change table) []) (sym c.make.ensures.items) (made_first table [] marks is_table change p))

pub returns-clause-first : goal.returns-clause-first
returns-clause-first c table changes is_table prepared =
    let change = c.args.change.now in
    let marks = c.self.inside.rules.items in
    carried c.self.inside.is_prepared marks c.make.new.marks.items (IsPrepared table (change ∷ changes)) (IsPrepared (rules_after_change change table) changes)
    (subst (λ (v : MixedState). IsSomeAnd v.prepared (IsPrepared table (change ∷ changes))) (sym c.self.view_is) prepared)
    (λ p. subst (IsPrepared (rules_after_change change table) changes) (sym c.make.ensures.items) (made_first table changes marks is_table change p))

pub returns-clause-few : goal.returns-clause-few
returns-clause-few c =
    let marks = c.self.inside.rules.items in
    let new = c.make.new.marks.items in
    let less : length new ≤ length marks = subst (λ (ms : List MarkedRule). length ms ≤ length marks) (sym c.make.ensures.items) (kept_few c.args.change.now marks) in
    subst (λ (v : MixedState). IfSome v.prepared (λ old. IsSomeAnd (cond c.self.inside.is_prepared (Some new) None) (λ ms. length ms ≤ length old))) c.self.view_is
    (carried_few c.self.inside.is_prepared marks new (λ n. n) less)

pub invariant_of-self : goal.invariant_of-self
invariant_of-self c =
    let marks = c.self.inside.rules.items in
    let less : length c.make.new.marks.items ≤ length marks = subst (λ (ms : List MarkedRule). length ms ≤ length marks) (sym c.make.ensures.items) (kept_few c.args.change.now marks) in (
      omega (arith, c.self.invariant.0, c.make.ensures.room),
      c.self.invariant.1,
      λ on. let fits = c.self.invariant.2 on in omega (arith, fits, less, c.self.inside.rules.ok, c.make.new.marks.ok),
      tt,
      λ on. c.self.invariant.4 (c.stays_indexed-self-inside.ensures.was on) ∙ ap reverse (sym (ap patterns_in c.make.ensures.items ∙ kept_patterns c.args.change.now marks (sym c.is_delete.ensures ∙ c.stays_indexed-self-inside.ensures.unmoved on))),
      subst IsFalling (sym c.make.ensures.items) (kept_falling c.args.change.now marks c.self.invariant.5),
    )
