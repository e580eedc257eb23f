use Rattle.std.proofs.Common.{◌++◌, ◌∷◌, [], List, ℕ, take, ap, sym, ◌∙◌}
use Rattle.std.proofs.lemmas.List.{take_more}
use Rattle.evidence_store.proofs.NumberLaws.{are_numbered_more}
use Rattle.evidence_store.proofs.uses.add_befores.Goals as goal

pub loop-set-preserved : goal.loop-set-preserved
loop-set-preserved c =
    let sets = c.args.sets.now in
    let i = c.loop-set.set-index in
    let more = take_more sets i c.set-item.result c.loop-set-test.true ∙ ap (λ (x : List ℕ). take i sets ++ x ∷ []) (sym c.set-item.is) in
    let numbers = are_numbered_more c.args.befores.now c.loop-set.befores c.add_before.new.befores (take i sets) c.loop-set.numbers c.set-item.result c.in_ok-number.number c.loop-set.invariant.numbers c.in_ok-number.ensures.number in
    record {
      numbers = rw (more, c.in_ok-add.ensures.ok) numbers;
      keys = c.in_ok-number.ensures.keys;
    }
