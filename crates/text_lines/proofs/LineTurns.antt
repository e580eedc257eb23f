-- The lines of a text and their numbers, as a loop over them meets them.
use Rattle.std.proofs.Common.{◌≡◌, ℕ, ◌<◌, ◌≤◌, List, length, get_or, Option, None, Some, arith}
use Rattle.std.specs.Iterator.{Yields}
use Rattle.std.specs.Iterator.Adapters.{enumerate_source, enumerate_count, enumerate_steps}
use Rattle.std.proofs.lemmas.Iterator.{YieldsList}
use Rattle.std.proofs.lemmas.Iterator.Consumers.{YieldsList-turn, YieldsList-end, YieldsList-from_enumerate, YieldsList-at}
use Rattle.std.proofs.lemmas.List.FromFn.{length-enumerate_from}
use Rattle.net_base.specs.Lines.{lines_of}
use Rattle.net_base.proofs.ItemTurns.{numbered_turn}

module _ {S A : Type 0} {steps : S → Option A → S → Type 0} {v : A → List ℕ} {pieces : S} {e i : _} (bytes : List ℕ) (yielded : List (ℕ × A)) (t u : _) (so_far : Yields (enumerate_steps steps) i yielded t) (made : i ≡ e) (source : enumerate_source e ≡ pieces)
    (count : enumerate_count e ≡ 0) where
  -- the line of a turn, and its number from 0
  pub line_turn : {r : Option (ℕ × A)} (n : ℕ) (line : A) → r ≡ Some (n, line) → enumerate_steps steps t r u → YieldsList steps v pieces (lines_of bytes) → (length yielded < length (lines_of bytes)) × (n ≡ length yielded) × (v line ≡ get_or (lines_of bytes) (length yielded) (v line))
  line_turn n line is step lines =
      let turn = YieldsList-turn (YieldsList-at made (YieldsList-from_enumerate (YieldsList-at source lines) count)) yielded t so_far _ u (n, line) is step in
      numbered_turn (lines_of bytes) (length yielded) n (v line) turn.0 turn.1

  -- the end of the loop, when all lines were met
  pub lines_end : {r : Option (ℕ × A)} → r ≡ None → enumerate_steps steps t r u → YieldsList steps v pieces (lines_of bytes) → length (lines_of bytes) ≤ length yielded
  lines_end is step lines =
      let all = YieldsList-end (YieldsList-at made (YieldsList-from_enumerate (YieldsList-at source lines) count)) yielded t so_far _ u is step in
      let same = length-enumerate_from 0 (lines_of bytes) in
      omega (arith, all.1, same)
