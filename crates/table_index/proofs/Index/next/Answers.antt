use Rattle.std.proofs.Common.{ℕ, ◌∷◌, [], ◌++◌, sym, ◌∙◌, ap, subst}
use Rattle.table_index.specs.Candidates.{IndexState, AreCandidates}
use Rattle.table_index.proofs.PushLaws.{push_held, push_missed}
use Rattle.table_index.proofs.Index.next.Goals as goal

pub returns-then-has-clause-next : goal.returns-then-has-clause-next
returns-then-has-clause-next c blocks count are =
    let block = c.args.prefix.now in
    let positions = c.args.self.now.candidates in
    subst (AreCandidates (blocks ++ block ∷ []) c.args.dst)
    (ap (λ (n : ℕ). positions ++ n ∷ []) count ∙ sym (c.push_reserved.ensures.items ∙ ap (λ (s : IndexState). s.candidates ++ c.args.position ∷ []) c.self.view_is))
    (push_held blocks block c.args.dst positions are (sym c.has.ensures ∙ c.if-has.true))

pub returns-else-has-clause-next : goal.returns-else-has-clause-next
returns-else-has-clause-next c blocks count are =
    push_missed blocks c.args.prefix.now c.args.dst c.args.self.now.candidates are (sym c.has.ensures ∙ c.if-has.false)
