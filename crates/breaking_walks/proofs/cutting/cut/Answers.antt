use Rattle.std.proofs.Common.{◌≡◌, ℕ, suc, ◌+◌, List, take, sym, ◌∙◌, subst, ap, add-one}
use Rattle.std.specs.Prelude.{None}
use Rattle.net_base.specs.Members.{IsDistinct}
use Rattle.net_base.specs.declared.ids.Place.{Place}
use Rattle.certificates.specs.Steps.{switches_along}
use Rattle.breaking_walks.specs.Breaking.{IsBreakingWalk}
use Rattle.breaking_walks.specs.Broken.{IsFirstRepeat}
use Rattle.breaking_walks.proofs.CutLaws.{breaks_cut, breaks_whole}
use Rattle.breaking_walks.proofs.cutting.cut.Goals as goal

pub returns-in_ok-rest-in-Some : goal.returns-in_ok-rest-in-Some
returns-in_ok-rest-in-Some c u k dst duties broken =
    let entry = c.args.entry in
    let rest = c.args.walk.rest in
    let i = c.in-Some.i in
    let first : IsFirstRepeat entry rest i = subst (λ (xs : List Place). IsFirstRepeat entry xs i) c.list.ensures c.in-Some.ensures in
    let is : take (suc i) rest ≡ c.in_ok-rest-in-Some.rest =
    ap (λ (n : ℕ). take n rest) (sym (add-one i)) ∙ ap (λ (xs : List Place). take (i + 1) xs) (sym c.list-in-Some.ensures) ∙ sym c.in_ok-rest-in-Some.ensures in
    subst (λ (xs : List Place). IsBreakingWalk u k dst entry duties xs None) is (breaks_cut u k dst entry duties rest i broken.walk first)

pub returns-in-None : goal.returns-in-None
returns-in-None c u k dst duties broken =
    let entry = c.args.entry in
    breaks_whole u k dst entry duties c.args.walk.rest c.args.walk.end broken (subst (λ (xs : List Place). IsDistinct (switches_along entry xs)) c.list.ensures c.in-None.ensures)
