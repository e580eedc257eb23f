use Rattle.std.proofs.Common.{ℕ, List, [], ◌∷◌, ◌++◌, take, get_or, sym, subst}
use Rattle.std.proofs.lemmas.List.{take_more}
use Rattle.path_walk.specs.declared.Outcome.{Outcome}
use Rattle.path_walk.specs.declared.Outcome.TheVariants.{Discard}
use Rattle.breaking_walks.specs.Trails.{IsPut, ArePut}
use Rattle.breaking_walks.specs.declared.trail.Node.{Node}
use Rattle.breaking_walks.proofs.PutLaws.{put_same, put_more}
use Rattle.breaking_walks.proofs.TrailLaws.{node_at}
use Rattle.breaking_walks.proofs.search.put_next.Goals as goal
use Rattle.breaking_walks.proofs.search.put_next.Goals.{in-Go+in_ok-put, in_default}

pub loop-outcome-preserved : goal.loop-outcome-preserved
loop-outcome-preserved c =
    let old = c.args.trail.now in
    let chain = c.args.chain.now in
    let all = c.args.found.now in
    let i = c.loop-outcome.outcome-index in
    let outcome : Outcome = get_or all i Discard in
    let mid = c.loop-outcome.trail in
    subst (λ (xs : List Outcome). ArePut old chain c.args.node c.args.number xs c.match-outcome.trail) (sym (take_more all i Discard c.loop-outcome-test.true))
    (elim c.match-outcome.branch [
      | in-Go+in_ok-put w ↦
          subst (λ (trail : List (Node × ℕ)). ArePut old chain c.args.node c.args.number (take i all ++ outcome ∷ []) trail) (sym w.trail-is)
          (put_more old chain c.args.node c.args.number (take i all) outcome mid c.loop-outcome.invariant w.in-Go.place w.in-Go.is w.put.new.self
          (subst (λ (met : ℕ). IsPut mid (node_at w.in-Go.place met) c.args.number w.put.new.self) w.met_after-met.ensures w.in_ok-put.ensures))
      | in_default w ↦
          subst (λ (trail : List (Node × ℕ)). ArePut old chain c.args.node c.args.number (take i all ++ outcome ∷ []) trail) (sym w.trail-is)
          (put_same old chain c.args.node c.args.number (take i all) outcome mid c.loop-outcome.invariant (λ place e. w.in_default.not-Go place (sym e)))
    ])
