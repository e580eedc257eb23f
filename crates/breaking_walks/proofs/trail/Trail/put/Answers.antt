use Rattle.std.proofs.Common.{◌≡◌, ◌<◌, ◌++◌, ◌∷◌, [], ℕ, List, length, sym, ◌∙◌, subst, inr}
use Rattle.std.proofs.lemmas.Bool.{false≢true}
use Rattle.net_base.specs.Members.{IsIn}
use Rattle.breaking_walks.specs.Trails.{nodes_of, AreLedByEarlier, IsPut}
use Rattle.breaking_walks.specs.declared.trail.Node.{Node}
use Rattle.breaking_walks.proofs.NodeLaws.{put_last, earlier_push}
use Rattle.breaking_walks.proofs.trail.Trail.put.Goals as goal

pub invariant_of-self : goal.invariant_of-self
invariant_of-self c =
    let old : List (Node × ℕ) = c.self.inside.nodes.entries in
    let node = c.args.node in
    let from = c.args.from in
    let absent : ¬ IsIn node (nodes_of old) = λ i. false≢true (sym c.if-not-has.true ∙ c.has.ensures.1 (subst (λ (xs : List (Node × ℕ)). IsIn node (nodes_of xs)) c.self.view_is i)) in
    let behind : c.insert.new.self.entries ≡ old ++ (node, from) ∷ [] = c.in_ok-insert.ensures.entries ∙ put_last c.self.inside.nodes node from absent in
    let within : from < length old = subst (λ (xs : List (Node × ℕ)). from < length xs) (sym c.self.view_is) c.requires in
    subst AreLedByEarlier (sym behind) (earlier_push old node from c.self.invariant within)

pub returns-in_ok-insert : goal.returns-in_ok-insert
returns-in_ok-insert c =
    let old : List (Node × ℕ) = c.self.inside.nodes.entries in
    let node = c.args.node in
    let from = c.args.from in
    let absent : ¬ IsIn node (nodes_of old) = λ i. false≢true (sym c.if-not-has.true ∙ c.has.ensures.1 (subst (λ (xs : List (Node × ℕ)). IsIn node (nodes_of xs)) c.self.view_is i)) in
    let behind : c.insert.new.self.entries ≡ old ++ (node, from) ∷ [] = c.in_ok-insert.ensures.entries ∙ put_last c.self.inside.nodes node from absent in
    subst (λ (xs : List (Node × ℕ)). IsPut xs node from c.insert.new.self.entries) c.self.view_is (inr (absent, behind))
