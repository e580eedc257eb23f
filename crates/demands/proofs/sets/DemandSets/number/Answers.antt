use Rattle.std.proofs.Common.{ℕ, List, sym, ap, ◌∙◌}
use Rattle.std.specs.Prelude.{Some, option_map}
use Rattle.std.specs.Cmp.{unsigned_Decides}
use Rattle.std.specs.Cmp.Lexicographic.{pointwise_decides}
use Rattle.std.proofs.lemmas.Option.{slice_get-map}
use Rattle.demands.specs.declared.sets.DemandSet.{DemandSet}
use Rattle.demands.proofs.sets.DemandSets.number.Goals as goal

pub returns-clause-stands : goal.returns-clause-stands
returns-clause-stands c =
    let (key, at, same) = c.in_ok-insert_full.ensures.stored in
    let words : DemandSet → List ℕ = λ s. s.words in
    slice_get-map words c.insert_full.new.self.keys c.in_ok-insert_full.field-0.0 ∙ ap (option_map words) at
    ∙ ap (λ (s : List ℕ). Some s) (sym ((pointwise_decides unsigned_Decides c.args.set.words key.words).0 same))
