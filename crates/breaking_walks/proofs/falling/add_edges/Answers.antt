use Rattle.std.proofs.Common.{List, [], ◌∷◌, ◌++◌, take, get_or, sym, ◌∙◌, subst, ap, Vec, Global}
use Rattle.std.proofs.lemmas.List.{take_more}
use Rattle.path_walk.specs.declared.Outcome.{Outcome}
use Rattle.path_walk.specs.declared.Outcome.TheVariants.{Discard, Go}
use Rattle.acyclic_numbering.specs.declared.Edge.{Edge}
use Rattle.breaking_walks.specs.Surveys.{AreAdded}
use Rattle.breaking_walks.proofs.SurveyLaws.{edges_more, edges_same}
use Rattle.breaking_walks.proofs.falling.add_edges.Goals as goal
use Rattle.breaking_walks.proofs.falling.add_edges.Goals.{in-Go+in_ok-push, in_default}

pub loop-outcome-preserved : goal.loop-outcome-preserved
loop-outcome-preserved c =
    let old = c.args.edges.now.items in
    let from = c.args.from in
    let all = c.args.found.now in
    let i = c.loop-outcome.outcome-index in
    let outcome : Outcome = get_or all i Discard in
    let mid = c.loop-outcome.edges.items in
    subst (λ (xs : List Outcome). AreAdded old from xs c.match-outcome.edges.items) (sym (take_more all i Discard c.loop-outcome-test.true))
    (elim c.match-outcome.branch [
      | in-Go+in_ok-push w ↦
          subst (λ (o : Outcome). AreAdded old from (take i all ++ o ∷ []) c.match-outcome.edges.items) (sym w.in-Go.is)
          (subst (AreAdded old from (take i all ++ Go w.in-Go.place ∷ [])) (sym (ap (λ (v : Vec Edge Global). v.items) w.edges-is ∙ w.in_ok-push.ensures.items))
          (edges_more old mid from (take i all) c.loop-outcome.invariant w.in-Go.place))
      | in_default w ↦
          subst (AreAdded old from (take i all ++ outcome ∷ [])) (sym (ap (λ (v : Vec Edge Global). v.items) w.edges-is))
          (edges_same old mid from (take i all) c.loop-outcome.invariant outcome (λ place e. w.in_default.not-Go place e))
    ])
