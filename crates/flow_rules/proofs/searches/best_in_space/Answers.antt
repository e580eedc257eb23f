use Rattle.std.proofs.Common.{◌≡◌, ◌+◌, ◌<◌, ◌++◌, ◌∷◌, [], ℕ, List, take, length, sym, ◌∙◌, subst, ap, inl, inr, rules, true}
use Rattle.std.specs.Prelude.{Option, IfSome}
use Rattle.std.proofs.lemmas.List.{take_more, take_all}
use Rattle.net_base.specs.Members.{IsIn}
use Rattle.net_base.proofs.MemberLaws.{in_append_cases}
use Rattle.flow_rules.specs.Patterns.{Header}
use Rattle.flow_rules.specs.Scan.{covers_at, IsBeaten}
use Rattle.flow_rules.specs.Tuples.{pattern_around, slot_of}
use Rattle.flow_rules.specs.declared.rules.Pattern.{Pattern}
use Rattle.flow_rules.proofs.ClashLaws.{rule_at}
use Rattle.flow_rules.proofs.SearchLaws.{covers_of, hit_within, all_beaten, best_matched, none_matched}
use Rattle.flow_rules.proofs.searches.best_in_space.Goals as goal

pub loop-kind-preserved : goal.loop-kind-preserved
loop-kind-preserved c =
    let h : Header = record { port = c.args.packet.port; vlan = c.args.packet.vlan; dst = c.args.packet.dst } in
    let kinds = c.args.space.now.kinds in
    let n = c.loop-kind.kind-index in
    let k : Pattern = c.kind-item.result in
    let more : take (n + 1) kinds ≡ take n kinds ++ k ∷ [] =
    subst (λ (xs : List Pattern). take (n + 1) xs ≡ take n xs ++ k ∷ []) c.kinds-kind-items.ensures.value
    (take_more c.kinds-kind-items.result.now n k c.loop-kind-test.true ∙ ap (λ x. take n c.kinds-kind-items.result.now ++ x ∷ []) (sym c.kind-item.is)) in
    record {
      hit = c.best_of_kind-best.ensures.hit;
      seen = λ q i j e. elim (in_append_cases q (take n kinds) (k ∷ []) (subst (λ qs. IsIn q qs) more i)) [
        | inl l ↦ c.best_of_kind-best.ensures.kept j (c.loop-kind.invariant.seen q l j e)
        | inr l ↦ elim l [ inl is ↦ c.best_of_kind-best.ensures.slot j (e ∙ ap (λ (x : Pattern). slot_of c.args.space.now.count (pattern_around x h)) is) | inr o ↦ absurd o ]
      ];
    }

pub bounds-rules-position : goal.bounds-rules-position
bounds-rules-position c =
    let h : Header = record { port = c.args.packet.port; vlan = c.args.packet.vlan; dst = c.args.packet.dst } in
    hit_within h c.args.rules.now c.in-Some.position (subst (λ (o : Option ℕ). IfSome o (λ i. covers_at h c.args.rules.now i ≡ true)) c.in-Some.is c.loop-kind.invariant.hit)

pub offset_bounds-rules-position : goal.offset_bounds-rules-position
offset_bounds-rules-position c =
    let less : c.in-Some.position < length c.args.rules.now = bounds-rules-position c in
    search rules

pub returns-in-Some : goal.returns-in-Some
returns-in-Some c =
    let h : Header = record { port = c.args.packet.port; vlan = c.args.packet.vlan; dst = c.args.packet.dst } in
    let entries = c.args.rules.now in
    let i = c.in-Some.position in
    let hit : covers_at h entries i ≡ true = subst (λ (o : Option ℕ). IfSome o (λ i. covers_at h entries i ≡ true)) c.in-Some.is c.loop-kind.invariant.hit in
    let space = c.args.space.now in
    let all : take c.loop-kind.kind-index space.kinds ≡ space.kinds =
    subst (λ (xs : List Pattern). take c.loop-kind.kind-index xs ≡ xs) c.kinds-kind-items.ensures.value (take_all c.loop-kind.kind-index c.kinds-kind-items.result.now c.loop-kind-test.false) in
    let beaten : (j : ℕ) → IsBeaten h entries c.loop-kind.best j =
    all_beaten h entries c.loop-kind.best space.kinds space.patterns space.count c.requires c.kinds-kind-items.ensures.complete
    (λ k l j e. c.loop-kind.invariant.seen k (subst (λ xs. IsIn k xs) (sym all) l) j e) in
    let at = rule_at entries i c.index-rules-position.result (hit_within h entries i hit) c.index-rules-position.is in
    sym (best_matched h entries i c.index-rules-position.result at (subst (λ (o : Option ℕ). (j : ℕ) → IsBeaten h entries o j) c.in-Some.is beaten) (sym (covers_of h entries i c.index-rules-position.result at) ∙ hit))

pub returns-in-None : goal.returns-in-None
returns-in-None c =
    let h : Header = record { port = c.args.packet.port; vlan = c.args.packet.vlan; dst = c.args.packet.dst } in
    let entries = c.args.rules.now in
    let space = c.args.space.now in
    let all : take c.loop-kind.kind-index space.kinds ≡ space.kinds =
    subst (λ (xs : List Pattern). take c.loop-kind.kind-index xs ≡ xs) c.kinds-kind-items.ensures.value (take_all c.loop-kind.kind-index c.kinds-kind-items.result.now c.loop-kind-test.false) in
    let beaten : (j : ℕ) → IsBeaten h entries c.loop-kind.best j =
    all_beaten h entries c.loop-kind.best space.kinds space.patterns space.count c.requires c.kinds-kind-items.ensures.complete
    (λ k l j e. c.loop-kind.invariant.seen k (subst (λ xs. IsIn k xs) (sym all) l) j e) in
    sym (none_matched h entries (subst (λ (o : Option ℕ). (j : ℕ) → IsBeaten h entries o j) c.in-None.is beaten))
