-- Waits read one after the other, as the loop of the reader does.
use Rattle.std.proofs.Common.{◌≡◌, ℕ, ◌<◌, List, length, get_or, drop, map, Result}
use Rattle.std.specs.Prelude.{MatchResult}
use Rattle.std.specs.Result.{IsErr, IsErrAnd}
use Rattle.std.proofs.lemmas.Result.{err_from_is_err_and}
use Rattle.serde_json.specs.Data.{Data}
use Rattle.net_base.specs.Reading.{in_turn, place_of, Fails}
use Rattle.net_base.proofs.Turns.{is_done}
use Rattle.flat_json.specs.Trees.{data_of}
use Rattle.flat_json.specs.declared.node.Node.{Node}
use Rattle.flat_json.specs.declared.tree.Tree.{Tree}
use Rattle.flat_json.proofs.NodeTurns.{goes_on_at, ends_at}
use Rattle.plan_waits.specs.declared.fault.WaitsFault.{WaitsFault}
use Rattle.plan_waits.specs.declared.fault.WaitsFault.TheVariants.{Memory}

-- an item that fails ends the reading
pub fails_at : {S X : Type 0} (tree : Tree) (step : ℕ → S → Data → Result S WaitsFault) (items : List Node) (n : ℕ) (s : S) (d : Node) {i : ℕ} {total : Result S WaitsFault} (P : X → Type 0) (r : Result X WaitsFault) {e : WaitsFault} {place : ℕ}
    → in_turn step n s (map (data_of tree) (drop i items)) ≡ total → i < length items → place ≡ place_of n → Fails Memory e (step place s (data_of tree (get_or items i d))) → IsErr r × IsErrAnd r (λ y. y ≡ e)
    → MatchResult r P (λ e. Fails Memory e total)
fails_at tree step items n s d {i} {total} P r {e} {place} so_far lt same fault is =
    let p = err_from_is_err_and r is.1 in
    rw (p.1, p.2) (ends_at tree step items i n s d total lt place same Memory e fault so_far)

pub ruleset turns = (goes_on_at, is_done)
