use Rattle.std.proofs.Common.{◌≡◌, ◌+◌, ◌-◌, ◌++◌, ◌∷◌, [], List, length, take, sym, ◌∙◌, subst, ap, inl, inr}
use Rattle.std.proofs.lemmas.List.{take_more, take_all}
use Rattle.net_base.specs.Members.{IsIn}
use Rattle.net_base.proofs.MemberLaws.{in_append_cases}
use Rattle.path_walk.specs.Outcomes.{header_at}
use Rattle.flow_rules.specs.Tuples.{pattern_around, slot_of}
use Rattle.flow_rules.specs.declared.rules.Pattern.{Pattern}
use Rattle.round_mix.proofs.NearestLaws.{all_near}
use Rattle.round_mix.proofs.nearest.nearest.Goals as goal

pub loop-kind-preserved : goal.loop-kind-preserved
loop-kind-preserved c =
    let h = header_at c.args.packet.place c.args.packet.dst in
    let kinds = c.args.space.now.kinds in
    let n = c.loop-kind.kind-index in
    let k : Pattern = c.kind-item.result in
    let more : take (n + 1) kinds ≡ take n kinds ++ k ∷ [] =
    subst (λ (xs : List Pattern). take (n + 1) xs ≡ take n xs ++ k ∷ []) c.kinds-kind-items.ensures.value
    (take_more c.kinds-kind-items.result.now n k c.loop-kind-test.true ∙ ap (λ x. take n c.kinds-kind-items.result.now ++ x ∷ []) (sym c.kind-item.is)) in
    record {
      met = c.nearest_of_kind-best.ensures.met;
      seen = λ q i j less e. elim (in_append_cases q (take n kinds) (k ∷ []) (subst (λ qs. IsIn q qs) more i)) [
        | inl l ↦ c.nearest_of_kind-best.ensures.kept (length c.args.rules.now - 1 - j) (c.loop-kind.invariant.seen q l j less e)
        | inr l ↦ elim l [ inl is ↦ c.nearest_of_kind-best.ensures.slot j less (e ∙ ap (λ (x : Pattern). slot_of c.args.space.now.count (pattern_around x h)) is) | inr o ↦ absurd o ]
      ];
    }

pub returns-clause-first : goal.returns-clause-first
returns-clause-first c =
    let h = header_at c.args.packet.place c.args.packet.dst in
    let space = c.args.space.now in
    let all : take c.loop-kind.kind-index space.kinds ≡ space.kinds =
    subst (λ (xs : List Pattern). take c.loop-kind.kind-index xs ≡ xs) c.kinds-kind-items.ensures.value (take_all c.loop-kind.kind-index c.kinds-kind-items.result.now c.loop-kind-test.false) in
    all_near h c.args.rules.now c.args.from c.loop-kind.best space.kinds space.patterns space.count c.requires c.kinds-kind-items.ensures.complete
    (λ k l i less e. c.loop-kind.invariant.seen k (subst (λ xs. IsIn k xs) (sym all) l) i less e)
