use Rattle.std.proofs.Common.{ℕ, ◌<◌, List, Some, length, sym, ap, ◌∙◌, subst, arith}
use Rattle.net_base.specs.Members.{IsIn}
use Rattle.net_base.proofs.ItemLaws.{in_at}
use Rattle.demands.specs.Duties.{duties_of}
use Rattle.evidence_store.specs.Guards.{AreGuardsFound}
use Rattle.evidence_store.specs.Last.{SetsState}
use Rattle.evidence_store.proofs.LastLaws.{guards_of_same}
use Rattle.evidence_store.proofs.last_sets.LastSets.sets_of.Goals as goal

pub are_for-requires-clause-known : goal.are_for-requires-clause-known
are_for-requires-clause-known c =
    let kept = c.self.inside.kept in
    let s : SetsState = c.index-sets.result.now in
    let within : c.loop-i.i < length kept.items = let t = c.loop-i-test.true in let e = c.len-i-end.ensures in let len = kept.ok.0 in omega arith in
    let there : IsIn s c.args.self.now =
    subst (λ (xs : List SetsState). IsIn s xs) c.self.view_is (subst (λ (x : SetsState). IsIn x kept.items) (sym c.index-sets.ensures) (in_at kept.items c.loop-i.i s within))
    in
    (c.requires.held.1 s there).class

pub returns-then-have_walks : goal.returns-then-have_walks
returns-then-have_walks c net held =
    let d = c.args.duties.now in
    let of = c.args.numbered in
    let chains = (duties_of d.demands of.class.entry of.class.first).chains in
    let kept = c.self.inside.kept in
    let s : SetsState = c.index-sets.result.now in
    let within : c.loop-i.i < length kept.items = let t = c.loop-i-test.true in let e = c.len-i-end.ensures in let len = kept.ok.0 in omega arith in
    let there : IsIn s c.args.self.now =
    subst (λ (xs : List SetsState). IsIn s xs) c.self.view_is (subst (λ (x : SetsState). IsIn x kept.items) (sym c.index-sets.ensures) (in_at kept.items c.loop-i.i s within))
    in
    let copies = c.in_ok-all_copied.ensures ∙ c.list.ensures ∙ ap (λ (x : SetsState). x.sets) c.sets.view_is in
    subst (λ (xs : List (List ℕ)). AreGuardsFound net of.class.entry.switch c.args.walk.now chains (Some xs)) (sym copies)
    (guards_of_same net d s of c.args.walk.now (held s there) c.requires.class (c.are_for.ensures.start c.if-are_for.true) (c.are_for.ensures.duties c.if-are_for.true)
    (c.have_walks.ensures.steps c.if-have_walks.true) (c.have_walks.ensures.leaving c.if-have_walks.true))
