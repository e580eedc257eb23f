use Rattle.std.proofs.Common.{ap, ◌≤◌, ◌<◌, ◌+◌, ◌∷◌, [], ◌++◌, cond, length, sym, ◌∙◌, subst, arith}
use Rattle.std.specs.Prelude.{Some, None, reverse, IfSome, IsSomeAnd}
use Rattle.round_mix.specs.Prepared.{MixedState, IsPrepared}
use Rattle.round_mix.proofs.BackLaws.{refused}
use Rattle.round_mix.proofs.ScanLaws.{prepared_at}
use Rattle.round_mix.proofs.NextLaws.{next_prepared, begun_next_falling, begun_next_few, begun_next_still}
use Rattle.round_mix.proofs.TriedLaws.{carried, carried_few}
use Rattle.round_mix.proofs.Mixed.begin.Goals as goal

pub returns-clause-yes : goal.returns-clause-yes
returns-clause-yes c table changes is_table prepared said =
    let change = c.args.change.now in
    let marks = c.self.inside.rules.items in
    carried c.self.inside.is_prepared marks c.try_next.new.marks.items (IsPrepared table changes) (IsPrepared table (changes ++ change ∷ []))
    (subst (λ (v : MixedState). IsSomeAnd v.prepared (IsPrepared table changes)) (sym c.self.view_is) prepared)
    (λ p. next_prepared table changes marks is_table p change c.try_next.new.marks.items (c.try_next.ensures.yes said))

pub returns-clause-no : goal.returns-clause-no
returns-clause-no c table changes prepared off =
    let marks = c.self.inside.rules.items in
    refused table changes marks
    (prepared_at c.self.inside.is_prepared marks (IsPrepared table changes) (subst (λ (v : MixedState). IsSomeAnd v.prepared (IsPrepared table changes)) (sym c.self.view_is) prepared))
    c.args.change.now (c.try_next.ensures.never off)

pub returns-clause-few : goal.returns-clause-few
returns-clause-few c =
    subst (λ (v : MixedState). IfSome v.prepared (λ old. IsSomeAnd (cond c.self.inside.is_prepared (Some c.try_next.new.marks.items) None) (λ marks. length marks ≤ length old + 1))) c.self.view_is
    (carried_few c.self.inside.is_prepared c.self.inside.rules.items c.try_next.new.marks.items (λ n. n + 1)
    (begun_next_few c.args.change.now c.self.inside.rules.items c.try_next.new.marks.items c.try_next.result c.try_next.ensures.yes c.try_next.ensures.no))

pub invariant_of-self : goal.invariant_of-self
invariant_of-self c =
    let marks = c.self.inside.rules.items in
    let few = begun_next_few c.args.change.now marks c.try_next.new.marks.items c.try_next.result c.try_next.ensures.yes c.try_next.ensures.no in
    let free : length marks < c.self.inside.room =
    prepared_at c.self.inside.is_prepared marks (λ ms. length ms < c.self.inside.room) (subst (λ (v : MixedState). IsSomeAnd v.prepared (λ ms. length ms < v.room)) (sym c.self.view_is) c.requires) in (
      omega (arith, c.self.invariant.0, c.try_next.ensures.room),
      c.self.invariant.1,
      λ _. omega (arith, few, free, c.try_next.new.marks.ok),
      tt,
      λ on. c.self.invariant.4 (c.stays_indexed-self-inside.ensures.was on)
          ∙ ap reverse (sym (begun_next_still c.args.change.now marks c.try_next.new.marks.items c.try_next.result c.try_next.ensures.yes c.try_next.ensures.no (sym c.is_insert.ensures ∙ c.stays_indexed-self-inside.ensures.unmoved on))),
      begun_next_falling c.args.change.now marks c.try_next.new.marks.items c.try_next.result c.try_next.ensures.yes c.try_next.ensures.no c.self.invariant.5,
    )
