use Rattle.std.proofs.Common.{◌≡◌, ◌∙◌, subst, IfOk, rules}
use Rattle.std.specs.List.Sorted.{IsPermutation}
use Rattle.std.proofs.lemmas.List.Sorted.{IsNonDecreasingBy-from_sort_by_key}
use Rattle.certificates.specs.declared.Label.{Label}
use Rattle.std.proofs.Common.{List}
use Rattle.two_phase.specs.TwoPhasePlan.{label_table}
use Rattle.two_phase.proofs.TagLaws.{tagging}
use Rattle.two_phase.proofs.LabelOrderLaws.{number_of, table_sorted}
use Rattle.two_phase.proofs.labels.make_labels.Goals as goal

pub returns : goal.returns
returns c =
    let net = c.args.net.now in
    let sorted = IsNonDecreasingBy-from_sort_by_key number_of c.sort_unstable_by_key.new.self.items c.sort_unstable_by_key.ensures.sorted (λ a r f called. search rules) in
    let moved = subst (λ (xs : List Label). IsPermutation xs c.sort_unstable_by_key.new.self.items) c.in_ok-list.ensures c.sort_unstable_by_key.ensures.permutation in
    let made : c.deref.result.now ≡ label_table net c.args.version = c.deref.ensures.value ∙ table_sorted net c.args.version (tagging net c.keeps_rules.ensures c.requires.enough) c.sort_unstable_by_key.new.self.items moved sorted in
    subst (λ (ys : List Label). IfOk c.table_with.result (λ labels. labels ≡ ys)) made c.table_with.ensures
