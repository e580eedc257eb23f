-- Tables with their room, by switches.
use Rattle.std.proofs.Common.{◌≡◌, ℕ, zero, suc, ◌<◌, ◌≤◌, true, List, [], ◌∷◌, length, take, set, get_or, get_or-set_same, get_or-set_other, refl, sym, ◌∙◌, subst, ap, inl, inr, arith}
use Rattle.std.proofs.Math.ListN.{get_or-map}
use Rattle.std.proofs.lemmas.Bool.{cases_eq, both_ways}
use Rattle.net_base.specs.Members.{IsIn}
use Rattle.net_base.specs.declared.ids.SwitchId.{SwitchId}
use Rattle.flow_rules.specs.Tables.{TableState, IsTable, keys_of, rules_at, rules_of_all}
use Rattle.flow_rules.specs.declared.rules.Rule.{Rule}
use Rattle.update_model.proofs.RoundLaws.{settled_start}
use Rattle.update_model.specs.Mixtures.{Rollout}
use Rattle.round_tables.specs.PreparedTables.{PreparedState, StandsBefore, is_touched, limit_at, table_at}

-- a rule of a table has another key than those before it
pub key_fresh : (rules : List Rule) (i : ℕ) (r : Rule) → IsTable rules → i < length rules → r ≡ get_or rules i r → ¬ IsIn r.key (keys_of (take i rules))
key_fresh [] i r table less is j = absurd (omega arith)
key_fresh (x ∷ rules) zero r table less is j = j
key_fresh (x ∷ rules) (suc i) r table less is (inl e) = table.0 (subst (λ k. IsIn k (keys_of rules)) e (key_at rules i r (omega arith) is))
  where
    key_at : (rules : List Rule) (i : ℕ) (r : Rule) → i < length rules → r ≡ get_or rules i r → IsIn r.key (keys_of rules)
    key_at [] i r less is = absurd (omega arith)
    key_at (x ∷ rules) zero r less is = inl (ap (λ (y : Rule). y.key) is)
    key_at (x ∷ rules) (suc i) r less is = inr (key_at rules i r (omega arith) is)
key_fresh (x ∷ rules) (suc i) r table less is (inr j) = key_fresh rules i r table.1 (omega arith) is j

-- the rules of a switch are those of its table
pub rules_in : (tables : List TableState) (s : SwitchId) → rules_at (rules_of_all tables) s ≡ (table_at tables s).rules
rules_in tables s = get_or-map (λ (t : TableState). t.rules) tables s.0 (record { rules = []; spare = 0 })

-- tables with the same rules at each switch
pub rules_same : (tables sources : List TableState) → length tables ≡ length sources
    → ((s : SwitchId) → s.0 < length tables → (table_at tables s).rules ≡ rules_at (rules_of_all sources) s) → rules_of_all tables ≡ rules_of_all sources
rules_same [] [] same each = refl
rules_same [] (y ∷ sources) same each = absurd (omega arith)
rules_same (x ∷ tables) [] same each = absurd (omega arith)
rules_same (x ∷ tables) (y ∷ sources) same each =
    let first : x.rules ≡ y.rules = each (record { 0 = 0 }) (omega arith) in
    let rest : rules_of_all tables ≡ rules_of_all sources = rules_same tables sources (omega arith) (λ s less. each (record { 0 = suc s.0 }) (omega arith)) in
    ap (λ (r : List Rule). r ∷ rules_of_all tables) first ∙ ap (λ (l : List (List Rule)). y.rules ∷ l) rest

-- a switch by its number
abbrev pub switch_n : ℕ → SwitchId
switch_n n = record { 0 = n }

-- what holds of the new member and of the others holds of each, after one is set
pub set_each : {X : Type 0} (xs : List X) (i : ℕ) (x d : X) (P : ℕ → X → Type 0) → i < length xs → P i x → (j : ℕ) → (¬ (j ≡ i) → P j (get_or xs j d))
    → P j (get_or (set xs i x) j d)
set_each xs i x d P less here j others =
    elim (cases_eq j i) [
      | inl e ↦ subst (λ (k : ℕ). P k (get_or (set xs i x) k d)) (sym e) (subst (P i) (sym (get_or-set_same xs i x d less)) here)
      | inr ne ↦ subst (P j) (sym (get_or-set_other xs i j x d ne)) (others ne)
    ]

-- the old tables stand before the first round
pub started : (u : Rollout) (p : PreparedState) → ((s : SwitchId) → s.0 < length u.old → length (rules_at u.old s) ≤ limit_at p.limits s)
    → rules_of_all p.tables ≡ u.old → ((i : ℕ) → get_or p.touched i true ≡ true) → StandsBefore u 0 p
started u p fit same on = record {
  tables = same ∙ sym (settled_start u.rounds u.old);
  fit = λ s less. subst (λ (ts : List (List Rule)). length (rules_at ts s) ≤ limit_at p.limits s) (sym (settled_start u.rounds u.old)) (fit s less);
  same = λ s off. absurd (both_ways (is_touched p.touched s) off (on s.0));
}
