use Rattle.std.proofs.Common.{◌≡◌, ◌↔◌, ℕ, IsTrue, List, Some, sym, ap, subst, ◌∙◌}
use Rattle.std.specs.Prelude.{slice_get}
use Rattle.std.specs.List.{AllZip}
use Rattle.demands.specs.Duties.{DemandView, duties_of}
use Rattle.certificates.specs.Ordered.{IsSafe}
use Rattle.table_difference.specs.Targets.{Target}
use Rattle.round_judge.specs.Goals.{duties_in}
use Rattle.round_judge.proofs.JudgingLaws.{means_use, numbered_within}
use Rattle.round_judge.proofs.judging.use_keeps.Goals as goal

pub keeps_safe-requires-clause-entry : goal.keeps_safe-requires-clause-entry
keeps_safe-requires-clause-entry c =
    numbered_within c.goal.inside.net.now c.keeps_rules.ensures c.args.goal.now.classes c.goal.inside.classes.now (ap (λ (a : Target). a.classes) c.goal.view_is) c.goal.invariant.hosts c.args.numbered c.requires.class

pub returns : goal.returns
returns c u k pick numbers sets net walked is meant =
    let e = c.args.evidence.now in
    let class = c.args.numbered.class in
    let named = c.use_at-shared.result.now in
    let numbering = c.numbering_of.result.now in
    let (same, zipped) = means_use e pick numbers sets meant c.args.use_ named numbering is c.use_at-shared.ensures c.numbering_of.ensures in
    let here : AllZip (λ i set. slice_get c.list.result.now i ≡ Some set) c.list-2.result.now sets =
    subst (λ (is_ : List ℕ). AllZip (λ i set. slice_get c.list.result.now i ≡ Some set) is_ sets) (sym c.list-2.ensures)
    (subst (λ (bs : List (List ℕ)). AllZip (λ i set. slice_get bs i ≡ Some set) named.befores sets) (sym c.list.ensures) zipped) in
    let told = c.keeps_safe.ensures u k sets (net ∙ sym (ap (λ (a : Target). a.net) c.goal.view_is)) walked here in
    subst (λ (ns : List ℕ). IsTrue c.keeps_safe.result ↔ IsSafe u k class.first class.entry (duties_in c.args.goal.now class) ns sets) (sym same)
    (subst (λ (ds : List DemandView). IsTrue c.keeps_safe.result ↔ IsSafe u k class.first class.entry (duties_of ds class.entry class.first) numbering sets) (ap (λ (a : Target). a.demands) c.goal.view_is) told)
