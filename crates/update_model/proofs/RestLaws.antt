-- The rest of a good round after its first change.
use Rattle.std.proofs.Common.{◌≡◌, ◌<◌, List, ◌∷◌, map, sym, ◌∙◌, subst, ap, inl, inr, length-set}
use Rattle.std.specs.Prelude.{ℕ, ◌==◌}
use Rattle.std.proofs.lemmas.Bool.{eq-eqb, ne_eqb, cases_eq, cond-true, cond-false}
use Rattle.net_base.specs.Members.{IsIn}
use Rattle.net_base.proofs.MemberLaws.{in_map, each_from_in, each_at}
use Rattle.net_base.specs.declared.ids.SwitchId.{SwitchId}
use Rattle.flow_rules.specs.Tables.{rules_at}
use Rattle.flow_rules.specs.declared.rules.Rule.{Rule}
use Rattle.update_model.specs.Changes.{switch_of, Applies, AppliesTo, entry_named, tables_after_change, IsGoodRound}
use Rattle.update_model.specs.declared.Change.{Change}
use Rattle.update_model.proofs.ChangeLaws.{applies_kept, rules_at-after_change}
use Rattle.update_model.proofs.MadeLaws.{same_entry}

-- a change still applies to the tables after one that names another entry
applies_next : (tables : List (List Rule)) (c d : Change) → Applies tables c → Applies tables d → ¬ (entry_named d ≡ entry_named c) → Applies (tables_after_change c tables) d
applies_next tables c d first second differ =
    let table = rules_at-after_change c tables (switch_of d) first.0 in (
      subst (λ (n : ℕ). (switch_of d).0 < n) (sym (length-set tables (switch_of c).0 _)) second.0,
      elim (cases_eq (switch_of c).0 (switch_of d).0) [
        | inl e ↦ (
            let same : switch_of c ≡ switch_of d = ap (λ (n : ℕ). let x : SwitchId = record { 0 = n } in x) e in
            subst (λ (rs : List Rule). AppliesTo rs d) (sym (table ∙ cond-true ((switch_of c).0 == (switch_of d).0) _ _ (eq-eqb _ _ e)))
            (applies_kept (rules_at tables (switch_of d)) c d (subst (λ (x : SwitchId). AppliesTo (rules_at tables x) c) same first.1) second.1
            (λ k. differ (same_entry d c (sym e) k))))
        | inr ne ↦ subst (λ (rs : List Rule). AppliesTo rs d) (sym (table ∙ cond-false ((switch_of c).0 == (switch_of d).0) _ _ (ne_eqb _ _ ne))) second.1
      ],
    )

-- the rest of a good round is good after its first change
pub good_rest : (tables : List (List Rule)) (c : Change) (cs : List Change) → IsGoodRound tables (c ∷ cs) → IsGoodRound (tables_after_change c tables) cs
good_rest tables c cs good = record {
  applies = each_from_in (Applies (tables_after_change c tables)) cs (λ d i. applies_next tables c d good.applies.0 (each_at (Applies tables) cs d good.applies.1 i)
      (λ e. good.distinct.0 (subst (λ n. IsIn n (map entry_named cs)) e (in_map entry_named d cs i))));
  distinct = good.distinct.1;
}
