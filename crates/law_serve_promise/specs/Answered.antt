-- What the blocks that answer lines say of the answers of switches, of turning, and of failures.
use Rattle.std.specs.Prelude.{◌≡◌, ◌<◌, ℕ, false, List, [], ◌∷◌, Option, Some, None}
use Rattle.std.specs.List.{AllByRecursion}
use Rattle.net_base.specs.declared.ids.SwitchId.{SwitchId}
use Rattle.topology.specs.Networks.{switch_count}
use Rattle.two_way_driver.specs.Laws.{Call, Feed}
use Rattle.two_way_driver.specs.declared.DriverOutput.{DriverOutput}
use Rattle.law_wire_answers.specs.Exchanges.{SwitchTalk, is_reopened, traffic_behind}
use Rattle.law_wire_answers.specs.Answering.{stage_in, IsAnsweredWord}
use Rattle.law_wire_answers.specs.Turning.{goes_back, TurnsAsAsked}
use Rattle.law_wire_answers.specs.Failing.{FailsByRules, FailureWasSaid, IsQuietTo}
use Rattle.check_base.specs.Checks.{CheckMeaning}
use Rattle.law_serve_promise.specs.Told.{told_line, driver_of, driver_behind, call_in, calls_in}
use Rattle.law_serve_promise.specs.Running.{state_on}

-- what was exchanged with a switch by lines
abbrev pub talk_on : CheckMeaning → List (List ℕ) → SwitchId → SwitchTalk
talk_on m lines s = traffic_behind (driver_of m []) s (calls_in m.update.net lines)

-- what the block of the line behind others says
abbrev pub said_on : CheckMeaning → List (List ℕ) → List ℕ → List DriverOutput
said_on m lines line = (told_line (driver_behind m lines) line).said

-- each event stands behind the answers for which it waits, by the call for which a line asks; where it asks for none nothing is said
abbrev pub SaysBehindAnswers : CheckMeaning → List (List ℕ) → Option Call → List DriverOutput → Type 0
SaysBehindAnswers m lines None said = said ≡ []
SaysBehindAnswers m lines (Some c) said =
    AllByRecursion (IsAnsweredWord (driver_of m []) (calls_in m.update.net lines) c (stage_in (driver_behind m lines).state.stage c)) said

abbrev pub IsAnsweredBlock : CheckMeaning → List (List ℕ) → List ℕ → Type 0
IsAnsweredBlock m lines line = SaysBehindAnswers m lines (call_in m.update.net line) (said_on m lines line)

-- behind lines the update goes the way that was asked last, and turns wherever that makes sense
abbrev pub TurnsAsLinesAsk : CheckMeaning → List (List ℕ) → Type 0
TurnsAsLinesAsk m lines = TurnsAsAsked (driver_behind m lines) (state_on m lines).phase (goes_back (driver_of m []) (calls_in m.update.net lines))

-- the block of a line that feeds one byte of a switch says that the session fails exactly where the byte breaks the rules
abbrev pub TellsOfByte : CheckMeaning → List (List ℕ) → List ℕ → SwitchId → ℕ → Type 0
TellsOfByte m lines line s byte =
    call_in m.update.net line ≡ Some (Feed s (byte ∷ [])) → s.0 < switch_count m.update.net
    → FailsByRules (talk_on m lines s) s byte (said_on m lines line)

-- a line doesn't end the session with a switch
abbrev pub KeepsSession : SwitchId → Option Call → Type 0
KeepsSession s None = Unit {0}
KeepsSession s (Some c) = is_reopened s c ≡ false

-- once a failure was said the block sends nothing to the switch, and says no other one
abbrev pub IsQuietBlock : CheckMeaning → List (List ℕ) → List ℕ → SwitchId → Type 0
IsQuietBlock m lines line s =
    s.0 < switch_count m.update.net → FailureWasSaid (talk_on m lines s) → KeepsSession s (call_in m.update.net line)
    → IsQuietTo s (said_on m lines line)
