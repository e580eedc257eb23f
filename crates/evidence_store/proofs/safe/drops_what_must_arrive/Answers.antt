use Rattle.std.proofs.Common.{◌↔◌, Bool, IsTrue, not, suc, List, [], ◌∷◌, length, refl, sym, ap, subst, ◌∙◌, inl, arith}
use Rattle.std.specs.Bool.{◌==◌}
use Rattle.std.proofs.lemmas.Bool.{false≢true, ne_eqb}
use Rattle.net_base.specs.Members.{IsIn}
use Rattle.net_base.specs.declared.ids.SwitchId.{SwitchId}
use Rattle.evidence_store.proofs.safe.drops_what_must_arrive.Goals as goal

-- a list that isn't empty has a member
some_in : (xs : List SwitchId) → IsTrue (not (length xs == 0)) ↔ ((s : SwitchId) × IsIn s xs)
some_in [] = (λ e. absurd (false≢true e), λ w. absurd w.1)
some_in (x ∷ xs) = (λ e. (x, inl refl), λ w. ap not (ne_eqb (suc (length xs)) 0 (λ e. omega arith)))

pub returns-then-must_arrive : goal.returns-then-must_arrive
returns-then-must_arrive c =
    let arrive = sym (c.must_arrive.ensures.arrive c.args.numbered.class c.requires.class) ∙ c.if-must_arrive.true in
    let told = subst (λ (xs : List SwitchId). IsTrue (not (length c.dropping.result.now == 0)) ↔ ((s : SwitchId) × IsIn s xs)) c.dropping.ensures (some_in c.dropping.result.now) in
    let some = subst (λ (b : Bool). IsTrue (not b) ↔ ((s : SwitchId) × IsIn s c.args.walk.now.dropping)) (sym c.is_empty.ensures) told in
    (λ e. (arrive, some.0 e), λ w. some.1 w.1)
