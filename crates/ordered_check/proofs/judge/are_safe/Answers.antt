use Rattle.std.proofs.Common.{◌<◌, not, List, length, ap, sym, subst, ◌∙◌, arith}
use Rattle.std.proofs.lemmas.List.{nil_from_length}
use Rattle.std.proofs.lemmas.Bool.{false≢true, eqb-true}
use Rattle.std.specs.List.{AllByRecursion}
use Rattle.std.proofs.lemmas.List.Elements.{All-from_recursion}
use Rattle.net_base.specs.Members.{IsIn}
use Rattle.net_base.specs.declared.ids.SwitchId.{SwitchId}
use Rattle.net_base.proofs.MemberLaws.{each_weaker}
use Rattle.topology.specs.Networks.{switch_count}
use Rattle.acyclic_numbering.specs.declared.Edge.{Edge}
use Rattle.certificates.specs.Valid.{IsValidUse, IsValidNumbering}
use Rattle.ordered_check.specs.Judged.{HasEdgeUp}
use Rattle.certificates.proofs.PickLaws.{at_place}
use Rattle.ordered_check.proofs.judge.are_safe.Goals as goal

pub numbering-numbering-requires : goal.numbering-numbering-requires
numbering-numbering-requires c =
    let e = c.args.of.now.evidence in
    (at_place (IsValidUse (length e.numberings) (length e.befores)) e.uses c.args.group.shared c.shared-shared.result.now c.keeps_valid.ensures.valid.uses c.shared-shared.ensures).0

pub least_not_lower-requires : goal.least_not_lower-requires
least_not_lower-requires c =
    let net = c.args.of.now.task.update.net in
    let numbers = c.numbering-numbering.result.now in
    let count = (at_place (IsValidNumbering net) c.args.of.now.evidence.numberings c.shared-shared.result.now.numbering numbers c.keeps_valid.ensures.valid.numberings c.numbering-numbering.ensures).0 in
    All-from_recursion (λ (e : Edge). (e.from.0 < length numbers) × (e.to.0 < length numbers)) c.steps-steps.result.now
    (each_weaker (λ (e : Edge). (e.from.0 < switch_count net) × (e.to.0 < switch_count net)) (λ (e : Edge). (e.from.0 < length numbers) × (e.to.0 < length numbers))
    (λ e h. let a = h.0 in let b = h.1 in (omega arith, omega arith)) c.steps-steps.result.now
    (subst (AllByRecursion (λ (e : Edge). (e.from.0 < switch_count net) × (e.to.0 < switch_count net))) (sym c.steps-steps.ensures) c.requires.within))

pub returns-then-is_empty : goal.returns-then-is_empty
returns-then-is_empty c safe =
    let numbers = c.numbering-numbering.result.now in
    let none = sym c.dropping.ensures ∙ nil_from_length c.dropping.result.now (eqb-true (length c.dropping.result.now) 0 (sym c.is_empty.ensures ∙ c.if-is_empty.true)) in
    record {
      numbers = numbers;
      use_ = c.shared-shared.result.now;
      use_is = c.shared-shared.ensures;
      numbers_are = c.numbering-numbering.ensures;
      falls = subst (λ (es : List Edge). (x : SwitchId) → ¬ HasEdgeUp es numbers x) c.steps-steps.ensures c.in_default.ensures;
      arrives = λ arrive s i. absurd (subst (λ (xs : List SwitchId). IsIn s xs) none i);
    }

pub returns-else-is_empty : goal.returns-else-is_empty
returns-else-is_empty c safe =
    let numbers = c.numbering-numbering.result.now in
    record {
      numbers = numbers;
      use_ = c.shared-shared.result.now;
      use_is = c.shared-shared.ensures;
      numbers_are = c.numbering-numbering.ensures;
      falls = subst (λ (es : List Edge). (x : SwitchId) → ¬ HasEdgeUp es numbers x) c.steps-steps.ensures c.in_default.ensures;
      arrives = λ arrive s i. absurd (false≢true (sym (ap not arrive) ∙ safe));
    }
