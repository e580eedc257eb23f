-- Nodes of a tree read one after the other, as a loop does.
use Rattle.std.proofs.Common.{◌≡◌, ℕ, ◌+◌, ◌<◌, List, length, get_or, drop, map, Result, Ok, sym, subst, ap, ◌∙◌}
use Rattle.std.proofs.lemmas.List.{get_or_default}
use Rattle.serde_json.specs.Data.{Data}
use Rattle.net_base.specs.Reading.{in_turn, place_of, Fails}
use Rattle.net_base.proofs.Turns as turns
use Rattle.flat_json.specs.Trees.{data_of}
use Rattle.flat_json.specs.declared.node.Node.{Node}
use Rattle.flat_json.specs.declared.tree.Tree.{Tree}

module _ {S E : Type 0} (tree : Tree) (step : ℕ → S → Data → Result S E) (items : List Node) (i n : ℕ) (s : S) (d : Node) (total : Result S E) (lt : i < length items) where
  abbrev node : Node
  node = get_or items i d

  pub goes_on : (t : S) → step (place_of n) s (data_of tree (get_or items i d)) ≡ Ok t → in_turn step n s (map (data_of tree) (drop i items)) ≡ total → in_turn step (n + 1) t (map (data_of tree) (drop (i + 1) items)) ≡ total
  goes_on = turns.goes_on (data_of tree) step items i n s node total lt (get_or_default items i d node lt)

  pub ends : (memory e : E) → Fails memory e (step (place_of n) s (data_of tree (get_or items i d))) → in_turn step n s (map (data_of tree) (drop i items)) ≡ total → Fails memory e total
  ends = turns.ends (data_of tree) step items i n s node total lt (get_or_default items i d node lt)

  -- the same where the code holds the place in a variable
  pub goes_on_at : (place : ℕ) → place ≡ place_of n → (t : S) → step place s (data_of tree (get_or items i d)) ≡ Ok t → in_turn step n s (map (data_of tree) (drop i items)) ≡ total
      → in_turn step (n + 1) t (map (data_of tree) (drop (i + 1) items)) ≡ total
  goes_on_at place is t h so_far = goes_on t (ap (λ p. step p s (data_of tree (get_or items i d))) (sym is) ∙ h) so_far

  pub ends_at : (place : ℕ) → place ≡ place_of n → (memory e : E) → Fails memory e (step place s (data_of tree (get_or items i d))) → in_turn step n s (map (data_of tree) (drop i items)) ≡ total → Fails memory e total
  ends_at place is memory e h so_far = ends memory e (subst (λ p. Fails memory e (step p s (data_of tree (get_or items i d)))) is h) so_far
