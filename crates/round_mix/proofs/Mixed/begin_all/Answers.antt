use Rattle.std.proofs.Common.{◌≡◌, ◌+◌, ◌≤◌, ◌∷◌, [], ◌++◌, ℕ, List, length, take, sym, ◌∙◌, ap, subst, arith}
use Rattle.std.specs.Prelude.{IfSome, IsSomeAnd}
use Rattle.std.proofs.lemmas.List.{take_more, take_all}
use Rattle.update_model.specs.declared.Change.{Change}
use Rattle.round_mix.specs.Prepared.{IsPrepared}
use Rattle.round_mix.proofs.NextLaws.{few_start, few_more, room_next}
use Rattle.round_mix.proofs.Mixed.begin_all.Goals as goal

pub loop-change-init : goal.loop-change-init
loop-change-init c = record { so_far = λ table is_table prepared. prepared; few = few_start c.args.self.now.prepared 0; room = omega arith }

pub begin-requires : goal.begin-requires
begin-requires c =
    room_next c.args.self.now.prepared c.loop-change.self.prepared (length c.args.changes.now) c.args.self.now.room c.loop-change.self.room c.loop-change.change-index
    (omega (arith, c.loop-change-test.true)) c.loop-change.invariant.room c.requires c.loop-change.invariant.few

pub loop-change-preserved : goal.loop-change-preserved
loop-change-preserved c =
    let changes = c.args.changes.now in
    let i = c.loop-change.change-index in
    let this = c.change-item.result in
    let old = c.loop-change.self in
    let new = c.begin.new.self in
    let inv = c.loop-change.invariant in
    record {
      so_far = λ table is_table prepared.
          subst (λ (cs : List Change). IsSomeAnd new.prepared (IsPrepared table cs))
          (sym (take_more changes i this c.loop-change-test.true ∙ ap (λ (x : Change). take i changes ++ x ∷ []) (sym c.change-item.is)))
          (c.begin.ensures.yes table (take i changes) is_table (inv.so_far table is_table prepared) c.if-not-begin.false);
      few = few_more c.args.self.now.prepared old.prepared new.prepared i 1 inv.few c.begin.ensures.few;
      room = omega (arith, inv.room, c.begin.ensures.room);
    }

pub returns-clause-yes : goal.returns-clause-yes
returns-clause-yes c table is_table prepared said =
    subst (λ (cs : List Change). IsSomeAnd c.loop-change.self.prepared (IsPrepared table cs)) (take_all c.loop-change.change-index c.args.changes.now c.loop-change-test.false)
    (c.loop-change.invariant.so_far table is_table prepared)

pub returns-clause-few : goal.returns-clause-few
returns-clause-few c said =
    let all : c.loop-change.change-index ≡ length c.args.changes.now = omega (arith, c.loop-change-test.false, c.loop-change.auto.change-index-end) in
    subst (λ (n : ℕ). IfSome c.args.self.now.prepared (λ old. IsSomeAnd c.loop-change.self.prepared (λ marks. length marks ≤ length old + n))) all c.loop-change.invariant.few
