use Rattle.std.proofs.Common.{◌<◌, ◌∷◌, [], ◌++◌, length, refl, sym, ap, ◌∙◌, subst, arith}
use Rattle.std.specs.List.{AllByRecursion}
use Rattle.topology.specs.Networks.{Network}
use Rattle.path_walk.specs.UserConfigs.{IsUserConfig}
use Rattle.dest_classes.specs.Classes.{class_count}
use Rattle.round_tables.specs.Trials.{IsBetweenTrials}
use Rattle.round_judge.specs.declared.judging.FoundEvidence.{FoundEvidence as FoundOf}
use Rattle.table_difference.specs.Targets.{Target}
use Rattle.round_planner.specs.Search.{update_by}
use Rattle.round_judge.specs.Judged.{AreSafeBelow}
use Rattle.round_planner.specs.Searching.{SearchState, IsTryingAt}
use Rattle.round_planner.proofs.SearchingLaws.{round_number, made_few, made_at, picks_before}
use Rattle.round_planner.proofs.searching.Search.take.Goals as goal

pub overflow_cast-round : goal.overflow_cast-round
overflow_cast-round c =
    let (old, changes, user, at, safe) = c.requires in
    let new_user = subst (λ (a : Target). IsUserConfig a.net a.new) c.goal.view_is c.goal.invariant.user in
    let here = subst (IsTryingAt c.args.goal.now old changes c.args.change.now) (sym c.self.view_is) at in
    let few = made_few c.args.goal.now old user new_user changes c.self.inside.store.evidence here.stands in
    let number = c.count-round.ensures ∙ ap length c.in_ok-keep_change.ensures.rounds ∙ round_number c.self.inside.rounds changes c.args.change.now here.rounds in
    omega arith

pub put_picks-requires-clause-few_rounds : goal.put_picks-requires-clause-few_rounds
put_picks-requires-clause-few_rounds c =
    let (old, changes, user, at, safe) = c.requires in
    let new_user = subst (λ (a : Target). IsUserConfig a.net a.new) c.goal.view_is c.goal.invariant.user in
    let here = subst (IsTryingAt c.args.goal.now old changes c.args.change.now) (sym c.self.view_is) at in
    let few = made_few c.args.goal.now old user new_user changes c.self.inside.store.evidence here.stands in
    let number = c.count-round.ensures ∙ ap length c.in_ok-keep_change.ensures.rounds ∙ round_number c.self.inside.rounds changes c.args.change.now here.rounds in
    omega arith

pub put_picks-requires-clause-behind : goal.put_picks-requires-clause-behind
put_picks-requires-clause-behind c =
    let (old, changes, user, at, safe) = c.requires in
    let here = subst (IsTryingAt c.args.goal.now old changes c.args.change.now) (sym c.self.view_is) at in
    picks_before c.args.goal.now old changes c.args.change.now _ c.count-round.result _ c.keep_change.new.rounds here refl c.in_ok-keep_change.ensures.rounds c.count-round.ensures

pub put_picks-requires-clause-classes : goal.put_picks-requires-clause-classes
put_picks-requires-clause-classes c =
    let (old, changes, user, at, safe) = c.requires in
    let here = subst (IsTryingAt c.args.goal.now old changes c.args.change.now) (sym c.self.view_is) at in
    subst (λ n. AllByRecursion (λ (f : FoundOf). f.class < n) c.args.found.items) (sym here.classes) safe.within

pub returns : goal.returns
returns c old changes user at safe first =
    let to = c.args.goal.now in
    let new_user = subst (λ (a : Target). IsUserConfig a.net a.new) c.goal.view_is c.goal.invariant.user in
    let here = subst (IsTryingAt to old changes c.args.change.now) (sym c.self.view_is) at in
    let safe_here = subst (λ (s : SearchState). AreSafeBelow to (update_by to old (changes ++ c.args.change.now ∷ [])) s.store.evidence (length changes) (class_count to.classes) c.args.found.items) (sym c.self.view_is) safe in
    let settled = subst (λ (n : Network). IsBetweenTrials n c.keep_change.new.trial) (ap (λ (a : Target). a.net) c.goal.view_is) c.in_ok-keep_change.ensures.settled in
    let picked = c.in_ok-put_picks.ensures in
    made_at to old user new_user changes c.args.change.now _ _ c.args.found.items c.count-round.result _ here safe_here first refl c.in_ok-keep_change.ensures.rounds
    c.count-round.ensures c.in_ok-keep_change.ensures.tables settled picked.picks picked.classes picked.stored_before picked.stored refl refl
