-- The inverses of rounds, one by one.
use Rattle.std.proofs.Common.{◌≡◌, ℕ, zero, suc, ◌<◌, Bool, true, false, ◌||◌, eqb, List, [], ◌∷◌, length, refl, ap, ◌∙◌, arith}
use Rattle.std.proofs.lemmas.List.Folds.{list_any-append}
use Rattle.net_base.specs.declared.ids.SwitchId.{SwitchId}
use Rattle.flow_rules.specs.Tables.{rules_at}
use Rattle.flow_rules.specs.declared.rules.Rule.{Rule}
use Rattle.update_model.specs.Changes.{switch_of, round_after, settled_tables, tables_after, IsGoodRound}
use Rattle.update_model.specs.declared.Change.{Change}
use Rattle.update_model.specs.declared.Change.TheVariants.{Insert, Delete, Replace}
use Rattle.round_messages.specs.Requests.{is_changed}
use Rattle.law_two_way_runs.specs.Inverse.{inverse_of, inverse_round}
use Rattle.round_inverses.specs.Rounds.{AreGoodFrom, inverse_rounds}

pub inverse_count : (tables : List (List Rule)) (rounds : List (List Change)) → length (inverse_rounds tables rounds) ≡ length rounds
inverse_count tables [] = refl
inverse_count tables (round ∷ rounds) = ap suc (inverse_count (tables_after round tables) rounds)

pub inverse_at : (tables : List (List Rule)) (rounds : List (List Change)) (k : ℕ) → k < length rounds → round_after k (inverse_rounds tables rounds) ≡ inverse_round (settled_tables rounds k tables) (round_after k rounds)
inverse_at tables [] k less = absurd (omega arith)
inverse_at tables (round ∷ rounds) zero less = refl
inverse_at tables (round ∷ rounds) (suc k) less = inverse_at (tables_after round tables) rounds k (omega arith)

same_switch : (before : List Rule) (c : Change) → switch_of (inverse_of before c) ≡ switch_of c
same_switch before (Insert s r) = refl
same_switch before (Delete s r) = refl
same_switch before (Replace s r) = refl

or_turned : (a b : Bool) → (b || (a || false)) ≡ (a || b)
or_turned true true = refl
or_turned true false = refl
or_turned false true = refl
or_turned false false = refl

inverse_changed : (tables : List (List Rule)) (round : List Change) (s : SwitchId) → is_changed (inverse_round tables round) s ≡ is_changed round s
inverse_changed tables [] s = refl
inverse_changed tables (c ∷ round) s =
    let p : Change → Bool = λ x. eqb (switch_of x).0 s.0 in
    let before = rules_at tables (switch_of c) in
    list_any-append p (inverse_round tables round) (inverse_of before c ∷ []) ∙ ap (λ b. b || (p (inverse_of before c) || false)) (inverse_changed tables round s)
    ∙ ap (λ (t : SwitchId). is_changed round s || (eqb t.0 s.0 || false)) (same_switch before c) ∙ or_turned (eqb (switch_of c).0 s.0) (is_changed round s)

pub same_changed : (tables : List (List Rule)) (rounds : List (List Change)) (k : ℕ) (s : SwitchId) → is_changed (round_after k (inverse_rounds tables rounds)) s ≡ is_changed (round_after k rounds) s
same_changed tables [] k s = refl
same_changed tables (round ∷ rounds) zero s = inverse_changed tables round s
same_changed tables (round ∷ rounds) (suc k) s = same_changed (tables_after round tables) rounds k s

pub good_from : (tables : List (List Rule)) (rounds : List (List Change)) → ((k : ℕ) → k < length rounds → IsGoodRound (settled_tables rounds k tables) (round_after k rounds)) → AreGoodFrom tables rounds
good_from tables [] h = tt
good_from tables (round ∷ rounds) h = (h 0 (omega arith), good_from (tables_after round tables) rounds (λ k less. h (suc k) (omega arith)))
