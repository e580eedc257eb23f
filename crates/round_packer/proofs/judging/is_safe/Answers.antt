use Rattle.std.proofs.Common.{ℕ, List, refl, sym, ◌∙◌, ap, subst, arith, get_or-set_same}
use Rattle.certificates.specs.Rounds.{one_round_of}
use Rattle.round_judge.specs.Visits.{marks_at}
use Rattle.round_packer.specs.Kept.{HoldsClass}
use Rattle.round_packer.proofs.JudgeLaws.{found_decides}
use Rattle.round_packer.proofs.judging.is_safe.Goals as goal

pub walk-requires-clause-round : goal.walk-requires-clause-round
walk-requires-clause-round c =
    let (tables, changes, prepared) = c.requires.prepared in
    (one_round_of c.args.goal.now.net tables changes, 0, prepared)

pub find_evidence-requires-clause-walked : goal.find_evidence-requires-clause-walked
find_evidence-requires-clause-walked c =
    let (tables, changes, prepared) = c.requires.prepared in
    let u = one_round_of c.args.goal.now.net tables changes in
    (u, 0, refl, c.walk.ensures.walked u 0 prepared)

pub returns-clause-safe : goal.returns-clause-safe
returns-clause-safe c = λ tables changes prepared.
    let u = one_round_of c.args.goal.now.net tables changes in
    let found = c.in_ok-found.ensures.found u 0 refl (c.walk.ensures.walked u 0 prepared) in
    let decides = found_decides c.args.goal.now.net c.args.goal.now.demands tables changes c.args.class.class c.in_ok-found.found found in
    (λ on. decides.0 (c.is_found.ensures.0 on), λ by. c.is_found.ensures.1 (decides.1 by))

pub returns-clause-held : goal.returns-clause-held
returns-clause-held c = λ tables changes prepared.
    let net = c.args.goal.now.net in
    let number = c.requires.number in
    let count = c.requires.came in
    subst (HoldsClass net tables changes c.args.class.class)
    (sym (ap (λ (ms : List ℕ). marks_at ms c.args.class.number) c.walk.ensures.noted ∙ get_or-set_same c.args.watch.now.came.items c.args.class.number c.walk.result 0 (omega arith)))
    (c.walk.ensures.held (one_round_of net tables changes) 0 prepared)
