use Rattle.std.proofs.Common.{◌≡◌, ◌-◌, ℕ, List, [], ◌∷◌, length, get_or, refl, sym, ◌∙◌, ap, subst, inl, arith}
use Rattle.std.specs.Prelude.{vec_len}
use Rattle.std.proofs.lemmas.Option.{same_Some, slice_get-get_or}
use Rattle.net_base.specs.Members.{IsIn}
use Rattle.net_base.proofs.MemberLaws.{in_append_left, in_append_right}
use Rattle.round_judge.specs.declared.judging.FoundEvidence.{FoundEvidence}
use Rattle.round_judge.proofs.judging.take_last.Goals as goal

pub returns-clause-some : goal.returns-clause-some
returns-clause-some c =
    let x : FoundEvidence = c.in_ok-pop.field-0 in
    let y : FoundEvidence = c.in_ok-last.field-0.now in
    let old = c.args.found.now in
    let xs = c.deref.result.now in
    let some = c.in_ok-pop.ensures.variant.0 refl in
    let len = c.deref.ensures.len in
    let last : y ≡ get_or xs (length xs - 1) x = same_Some y (get_or xs (length xs - 1) x) (c.in_ok-last.ensures.value ∙ slice_get-get_or xs (length xs - 1) x (omega arith)) in
    let taken : x ≡ get_or old.items (vec_len old - 1) x = same_Some x (get_or old.items (vec_len old - 1) x) (c.in_ok-pop.ensures.value x some) in
    let same : y ≡ x = last ∙ ap (λ (zs : List FoundEvidence). get_or zs (length xs - 1) x) c.deref.ensures.value ∙ ap (λ (n : ℕ). get_or old.items (n - 1) x) len ∙ sym taken in
    let number : x.class ≡ c.args.number = sym (ap (λ (z : FoundEvidence). z.class) same) ∙ c.if-branch-number.false in
    subst (IsIn {A = FoundEvidence} (record { class = c.args.number; evidence = x.evidence })) (sym c.in_ok-pop.ensures.items)
    (in_append_right (record { class = c.args.number; evidence = x.evidence }) c.pop.new.self.items (x ∷ [])
    (inl (subst (λ (n : ℕ). let z : FoundEvidence = record { class = n; evidence = x.evidence } in z ≡ x) number refl)))

pub returns-clause-rest : goal.returns-clause-rest
returns-clause-rest c f i = subst (IsIn f) (sym c.in_ok-pop.ensures.items) (in_append_left f c.pop.new.self.items (c.in_ok-pop.field-0 ∷ []) i)
