-- Lines on a switch: what was sent to it, and why the session with it failed.
use Rattle.std.specs.Prelude.{ℕ, List, ◌++◌, codes}
use Rattle.hex.specs.Hex.{encode_lower}
use Rattle.switch_session.specs.Causes.{cause_text}
use Rattle.switch_session.specs.declared.Cause.{Cause}

-- bytes that were sent to a switch of this name, behind this word: `WORD SWITCH HEX`
abbrev pub bytes_line : List ℕ → List ℕ → List ℕ → List ℕ
bytes_line word name bytes = word ++ name ++ codes " " ++ encode_lower bytes

-- why the session with a switch of this name failed, behind this word: `WORD SWITCH CAUSE`
abbrev pub cause_line : List ℕ → List ℕ → Cause → List ℕ
cause_line word name c = word ++ name ++ codes " " ++ cause_text c
