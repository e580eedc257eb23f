use Rattle.std.proofs.Common.{◌≡◌, ◌+◌, ◌≤◌, ◌<◌, List, Option, length, get_or, take, drop, set, Some, subst, sym, ap, ◌∙◌, arith, refl}
use Rattle.std.specs.List.{AllByRecursion}
use Rattle.std.proofs.lemmas.List.{drop_all, length-set}
use Rattle.net_base.proofs.MemberLaws.{each_weaker}
use Rattle.certificates.specs.declared.OrderedPick.{OrderedPick}
use Rattle.check_reasons.proofs.AtomMarkLaws.{written_back}
use Rattle.ordered_check.specs.Picks.{PicksState, PicksStand}
use Rattle.ordered_check.proofs.PickLaws.{AreTaken, taken_more, latest_from_kept, kept_from_latest, back_later}
use Rattle.ordered_check.proofs.picks.PicksInForce.advance.Goals as goal

pub taking-init : goal.taking-init
taking-init c =
    let (before, le, was) = c.requires.stands in
    let picks = c.args.picks.now in
    let next = c.self.inside.next in
    let stands = subst (λ (s : PicksState). PicksStand picks before s) (sym c.self.view_is) was in
    record {
      taken = record {
        within = stands.within;
        begun = each_weaker (λ (p : OrderedPick). p.round ≤ before) (λ (p : OrderedPick). p.round ≤ c.args.round) (λ p h. omega arith) (take next picks) stands.begun;
        kept = λ n kept is. latest_from_kept picks before next stands.begun stands.later n kept (stands.each n kept is);
      };
      classes = ap (λ (s : PicksState). length s.of_class) c.self.view_is;
    }

pub taking-preserved : goal.taking-preserved
taking-preserved c =
    let picks = c.args.picks.now in
    let round = c.args.round in
    let inside = c.taking.self-inside in
    let none : OrderedPick = record { round = 0; class = 0; shared = 0 } in
    let pick = get_or picks inside.next none in
    let noted : c.note.new.of_class ≡ set inside.of_class.items pick.class (Some pick) =
    c.note.ensures ∙ ap (λ (xs : List (Option OrderedPick)). set xs pick.class (Some pick)) c.deref_mut.ensures.value in
    let same : length c.note.new.of_class ≡ length inside.of_class.items = ap (λ (xs : List (Option OrderedPick)). length xs) noted ∙ length-set inside.of_class.items pick.class (Some pick) in
    let back = written_back inside.of_class.len c.note.new.of_class inside.of_class.items same (sym inside.of_class.ok.0) in
    record {
      taken = subst (λ (xs : List (Option OrderedPick)). AreTaken picks round (inside.next + 1) xs) (sym (back ∙ noted))
          (taken_more picks round inside.next inside.of_class.items pick none c.requires.ascending c.taking-test.true refl c.if-picks-self.true c.taking.invariant.taken);
      classes = ap (λ (xs : List (Option OrderedPick)). length xs) back ∙ same ∙ c.taking.invariant.classes;
    }

pub returns-else-picks-self-clause-stands : goal.returns-else-picks-self-clause-stands
returns-else-picks-self-clause-stands c =
    let taken = c.taking.invariant.taken in
    let picks = c.args.picks.now in
    let next = c.taking.self-inside.next in
    let later = back_later c.args.round picks next (record { round = 0; class = 0; shared = 0 }) c.taking-test.true c.requires.ascending c.if-picks-self.false in
    record {
      within = taken.within;
      begun = taken.begun;
      later = later;
      each = λ n kept is. kept_from_latest picks c.args.round next taken.begun later n kept (taken.kept n kept is);
    }

pub returns-after-taking-clause-stands : goal.returns-after-taking-clause-stands
returns-after-taking-clause-stands c =
    let taken = c.taking.invariant.taken in
    let end = c.taking-test.false in
    let picks = c.args.picks.now in
    let next = c.taking.self-inside.next in
    let later : AllByRecursion (λ (p : OrderedPick). c.args.round < p.round) (drop next picks) =
    subst (AllByRecursion (λ (p : OrderedPick). c.args.round < p.round)) (sym (drop_all next picks (omega arith))) tt in
    record {
      within = taken.within;
      begun = taken.begun;
      later = later;
      each = λ n kept is. kept_from_latest picks c.args.round next taken.begun later n kept (taken.kept n kept is);
    }
