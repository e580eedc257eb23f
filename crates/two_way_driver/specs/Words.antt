-- What is said, whether a caller forgets it in between or not.
use Rattle.std.specs.Prelude.{List, [], ◌∷◌, ◌++◌, flat_map}
use Rattle.two_way_driver.specs.Drivers.{DriverState}
use Rattle.two_way_driver.specs.Calls.{DriverView, with_state, silent_view}
use Rattle.two_way_driver.specs.Laws.{Call, after_call}
use Rattle.two_way_driver.specs.declared.DriverOutput.{DriverOutput}

-- a driver that said these words before all others
abbrev pub said_first : List DriverOutput → DriverState → DriverState
said_first words d = record d { said = words ++ d.said }

abbrev pub with_words : List DriverOutput → DriverView → DriverView
with_words words v = with_state (said_first words v.state) v

-- a driver after a call before which all was forgotten
abbrev pub after_call_anew : DriverView → Call → DriverView
after_call_anew v c = after_call (silent_view v) c

-- a driver after calls, before each of which all was forgotten
abbrev pub after_calls_anew : DriverView → List Call → DriverView
after_calls_anew v [] = v
after_calls_anew v (c ∷ calls) = after_calls_anew (after_call_anew v c) calls

-- what each of these calls says
abbrev pub said_by_each : DriverView → List Call → List (List DriverOutput)
said_by_each v [] = []
said_by_each v (c ∷ calls) = (after_call_anew v c).state.said ∷ said_by_each (after_call_anew v c) calls

-- what was said in pieces, in a row
abbrev pub joined_words : List (List DriverOutput) → List DriverOutput
joined_words pieces = flat_map (λ words. words) pieces
