-- The numbers of the marked places, one place after the other.
use Rattle.std.proofs.Common.{◌≡◌, ℕ, ◌+◌, ◌<◌, ◌≤◌, Bool, true, false, List, [], ◌∷◌, ◌++◌, length, take, get_or, sym, ap, subst, ◌∙◌}
use Rattle.std.proofs.lemmas.Grind.{flat_map-append}
use Rattle.std.proofs.lemmas.List.{take_all}
use Rattle.json.specs.Token.{begin_array, end_array}
use Rattle.json.specs.Written.{Written}
use Rattle.config_files.specs.RuleTrees.{whole_tree}
use Rattle.waypoint_evidence.specs.Befores.{marked_from}
use Rattle.waypoint_evidence.proofs.MarkLaws.{marked_on, marked_off}
use Rattle.plan_text.specs.PlanText.{numbers_tree}
use Rattle.plan_text.specs.Tokens.{tokens_of, all_tokens, Adds}
use Rattle.plan_text.proofs.Adding.{and_more, list_added}

pub marked_added : (i : ℕ) (marks : List Bool) (a b c : Written) → i < length marks → get_or marks i false ≡ true → Adds a b (all_tokens whole_tree (marked_from 0 (take i marks)))
    → Adds b c (tokens_of (whole_tree i)) → Adds a c (all_tokens whole_tree (marked_from 0 (take (i + 1) marks)))
marked_added i marks a b c lt on before more =
    let before_it : List ℕ = marked_from 0 (take i marks) in
    let whole : all_tokens whole_tree (before_it ++ i ∷ []) ≡ all_tokens whole_tree before_it ++ tokens_of (whole_tree i) = flat_map-append (λ n. tokens_of (whole_tree n)) before_it (i ∷ []) in
    subst (Adds a c) (sym (ap (all_tokens whole_tree) (marked_on marks i lt on) ∙ whole)) (and_more before more)

pub unmarked_added : (i : ℕ) (marks : List Bool) (a b : Written) → i < length marks → get_or marks i false ≡ false → Adds a b (all_tokens whole_tree (marked_from 0 (take i marks)))
    → Adds a b (all_tokens whole_tree (marked_from 0 (take (i + 1) marks)))
unmarked_added i marks a b lt off before =
    subst (Adds a b) (sym (ap (all_tokens whole_tree) (marked_off marks i lt off))) before

-- at the end of the marks
pub marks_added : (marks : List Bool) (i : ℕ) (a b c d : Written) → length marks ≤ i → Adds a b (begin_array ∷ []) → Adds b c (all_tokens whole_tree (marked_from 0 (take i marks))) → Adds c d (end_array ∷ [])
    → Adds a d (tokens_of (numbers_tree (marked_from 0 marks)))
marks_added marks i a b c d over first items last =
    list_added whole_tree (marked_from 0 marks) a b c d first (subst (λ (ms : List Bool). Adds b c (all_tokens whole_tree (marked_from 0 ms))) (take_all i marks over) items) last
