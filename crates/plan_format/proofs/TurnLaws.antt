-- Items of a list read one after the other, as the loop of a reader does.
use Rattle.std.proofs.Common.{◌≡◌, ℕ, ◌+◌, ◌<◌, List, length, get_or, drop, map, Result, Ok}
use Rattle.std.specs.Prelude.{MatchResult}
use Rattle.std.specs.Result.{IsErr, IsErrAnd}
use Rattle.std.proofs.lemmas.Result.{err_from_is_err_and}
use Rattle.serde_json.specs.Data.{Data}
use Rattle.net_base.specs.Reading.{in_turn, place_of, Fails}
use Rattle.net_base.proofs.Turns.{is_done}
use Rattle.flat_json.specs.Trees.{data_of}
use Rattle.flat_json.specs.declared.node.Node.{Node}
use Rattle.flat_json.specs.declared.tree.Tree.{Tree}
use Rattle.flat_json.proofs.NodeTurns.{goes_on, goes_on_at, ends, ends_at}
use Rattle.plan_format.specs.declared.fault.PlanFault.{PlanFault}
use Rattle.plan_format.specs.declared.fault.PlanFault.TheVariants.{Memory}

module _ {S : Type 0} (tree : Tree) (step : ℕ → S → Data → Result S PlanFault) (items : List Node) (n : ℕ) (s : S) (d : Node) {i : ℕ} {total : Result S PlanFault} where
  -- an item that is read leaves the rest to be read
  pub goes_further : {t : S} → in_turn step n s (map (data_of tree) (drop i items)) ≡ total → i < length items → step (place_of n) s (data_of tree (get_or items i d)) ≡ Ok t
      → in_turn step (n + 1) t (map (data_of tree) (drop (i + 1) items)) ≡ total
  goes_further {t} so_far lt h = goes_on tree step items i n s d total lt t h so_far

  -- an item that fails ends the reading
  pub fails : {X : Type 0} (P : X → Type 0) (r : Result X PlanFault) {e : PlanFault} → in_turn step n s (map (data_of tree) (drop i items)) ≡ total → i < length items → Fails Memory e (step (place_of n) s (data_of tree (get_or items i d)))
      → IsErr r × IsErrAnd r (λ y. y ≡ e) → MatchResult r P (λ e. Fails Memory e total)
  fails {X} P r {e} so_far lt fault is =
      let p = err_from_is_err_and r is.1 in
      rw (p.1, p.2) (ends tree step items i n s d total lt Memory e fault so_far)

  -- the same where the code holds the place in a variable
  pub fails_at : {X : Type 0} (P : X → Type 0) (r : Result X PlanFault) {e : PlanFault} {place : ℕ} → in_turn step n s (map (data_of tree) (drop i items)) ≡ total → i < length items → place ≡ place_of n → Fails Memory e (step place s (data_of tree (get_or items i d)))
      → IsErr r × IsErrAnd r (λ y. y ≡ e) → MatchResult r P (λ e. Fails Memory e total)
  fails_at {X} P r {e} {place} so_far lt same fault is =
      let p = err_from_is_err_and r is.1 in
      rw (p.1, p.2) (ends_at tree step items i n s d total lt place same Memory e fault so_far)

pub ruleset turns = (goes_on_at, is_done)
