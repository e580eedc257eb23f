-- What is left of a good round when a change of it was made.
use Rattle.std.proofs.Common.{◌≡◌, ℕ, zero, suc, ◌+◌, ◌<◌, List, [], ◌∷◌, ◌++◌, length, map, drop, get_or, sym, ap, ◌∙◌, subst, add-one, drop-cons, arith}
use Rattle.std.specs.Prelude.{slice_get, Some, None}
use Rattle.std.specs.List.{AllByRecursion}
use Rattle.flow_rules.specs.Tables.{rules_at, TableState}
use Rattle.flow_rules.specs.declared.rules.Rule.{Rule}
use Rattle.update_model.specs.Changes.{switch_of, Applies, round_after}
use Rattle.update_model.specs.declared.Change.{Change}
use Rattle.law_two_way_runs.specs.Inverse.{inverse_of, inverse_round}

pub front : {A : Type 0} (xs : List A) (i : ℕ) (x : A) → i < length xs → x ≡ get_or xs i x → drop i xs ≡ x ∷ drop (i + 1) xs
front {A} xs i x less at = drop-cons xs i x less ∙ ap (λ (y : A). y ∷ drop (suc i) xs) (sym at) ∙ ap (λ (n : ℕ). x ∷ drop n xs) (sym (add-one i))

-- each change of a good round is at a switch that there is
pub at_switch : (tables : List (List Rule)) (round : List Change) (i : ℕ) (c : Change) → AllByRecursion (Applies tables) round → i < length round → c ≡ get_or round i c → (switch_of c).0 < length tables
at_switch tables [] i c all less at = absurd (omega arith)
at_switch tables (d ∷ round) zero c all less at = subst (λ x. (switch_of x).0 < length tables) (sym at) all.0.0
at_switch tables (d ∷ round) (suc i) c all less at = at_switch tables round i c all.1 (omega arith) at

pub inverse_split : (tables : List (List Rule)) (round : List Change) (i : ℕ) (c : Change) → i < length round → c ≡ get_or round i c
    → inverse_round tables (drop i round) ≡ inverse_round tables (drop (i + 1) round) ++ inverse_of (rules_at tables (switch_of c)) c ∷ []
inverse_split tables round i c less at = ap (inverse_round tables) (front round i c less at)

-- the rules of a table at its place
pub rules_got : (tables : List TableState) (i : ℕ) (t : TableState) → slice_get tables i ≡ Some t → get_or (map (λ (x : TableState). x.rules) tables) i [] ≡ t.rules
rules_got [] i t at = absurd (let f : None ≡ Some t = at in cc)
rules_got (x ∷ tables) zero t at = let f : Some x ≡ Some t = at in let g : x ≡ t = cc in ap (λ (y : TableState). y.rules) g
rules_got (x ∷ tables) (suc i) t at = rules_got tables i t at
