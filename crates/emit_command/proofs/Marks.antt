-- The barrier requests of a round.
use Rattle.std.proofs.Common.{◌≡◌, ℕ, ◌+◌, Bool, true, false, cond, List, [], ◌∷◌, ◌++◌, map, sym, ap, ◌∙◌, subst, append-nil, arith}
use Rattle.std.specs.Prelude.{filter}
use Rattle.std.specs.List.{range_with_len}
use Rattle.std.proofs.lemmas.List.{map-append}
use Rattle.std.proofs.lemmas.List.FromFn.{filter_of_map_range_with_len_more}
use Rattle.net_base.specs.declared.ids.SwitchId.{SwitchId}
use Rattle.net_base.specs.Switches.{has}
use Rattle.topology.specs.Networks.{Network, switch_count}
use Rattle.update_model.specs.declared.Change.{Change}
use Rattle.emit_command.specs.declared.lines.Lines.{Lines}
use Rattle.round_messages.specs.Requests.{is_changed, switch_numbered, switches_of, switches_changed, barrier_request}
use Rattle.emit_command.specs.Written.{AddsLines}
use Rattle.round_messages.proofs.Marking.{HasChanged, same_passed}
use Rattle.emit_command.proofs.Adding.{added_then}

module _ (net : Network) (k n : ℕ) (p : SwitchId → Bool) (a b : Lines) (so_far : AddsLines net (map (barrier_request k) (filter p (map switch_numbered (range_with_len 0 n)))) a b) where
  -- a switch of the set
  pub barrier_added : (d : Lines) → p (switch_numbered n) ≡ true → AddsLines net (barrier_request k (switch_numbered n) ∷ []) b d
      → AddsLines net (map (barrier_request k) (filter p (map switch_numbered (range_with_len 0 (n + 1))))) a d
  barrier_added d on q =
      let s = switch_numbered n in
      let xs = filter p (map switch_numbered (range_with_len 0 n)) in
      let more : filter p (map switch_numbered (range_with_len 0 (n + 1))) ≡ xs ++ s ∷ [] =
      filter_of_map_range_with_len_more p switch_numbered 0 n n (omega arith) ∙ ap (λ t. xs ++ cond t (s ∷ []) []) on in
      subst (λ rs. AddsLines net rs a d) (sym (ap (map (barrier_request k)) more ∙ map-append (barrier_request k) xs (s ∷ [])))
      (added_then net (map (barrier_request k) xs) (barrier_request k s ∷ []) a b d so_far q)

  -- one that isn't
  pub none_passed : p (switch_numbered n) ≡ false → AddsLines net (map (barrier_request k) (filter p (map switch_numbered (range_with_len 0 (n + 1))))) a b
  none_passed off =
      let s = switch_numbered n in
      let xs = filter p (map switch_numbered (range_with_len 0 n)) in
      let more : filter p (map switch_numbered (range_with_len 0 (n + 1))) ≡ xs =
      filter_of_map_range_with_len_more p switch_numbered 0 n n (omega arith) ∙ ap (λ t. xs ++ cond t (s ∷ []) []) off ∙ append-nil xs in
      subst (λ ss. AddsLines net (map (barrier_request k) ss) a b) (sym more) so_far

-- the switches of the set are those with a change
pub changed_added : (net : Network) (k : ℕ) (changed : ℕ) (changes : List Change) (a b : Lines) → HasChanged changed changes
    → AddsLines net (map (barrier_request k) (filter (has changed) (switches_of net))) a b → AddsLines net (map (barrier_request k) (switches_changed net changes)) a b
changed_added net k changed changes a b are h =
    subst (λ ss. AddsLines net (map (barrier_request k) ss) a b)
    (same_passed (has changed) (is_changed changes) 0 (switch_count net) (λ s ge lt. are (switch_numbered s))) h
