-- The inputs that a file spells come from switches of the network.
use Rattle.std.proofs.Common.{◌≡◌, ℕ, Bool, true, false, cond, Ok, Err, List, [], ◌∷◌, ◌++◌, length, codes, subst}
use Rattle.std.specs.Prelude.{nat_lt}
use Rattle.std.specs.Str.{bytes_eq, is_utf8}
use Rattle.net_base.specs.Lines.{lines_of, is_comment}
use Rattle.net_base.specs.Text.{cut_first}
use Rattle.net_base.proofs.MemberLaws.{each_append}
use Rattle.net_base.proofs.Turns.{bind_ok, ok_is, in_turn-keeps}
use Rattle.config_files.proofs.Steps.{need_passed, check_passed}
use Rattle.text_lines.specs.Words.{bytes_in}
use Rattle.topology.specs.Networks.{Network, switch_named}
use Rattle.topology.proofs.NamedLaws.{named_within}
use Rattle.driver_input.specs.Inputs.{input_at, line_at, inputs_in, AreInputs}
use Rattle.driver_input.specs.Lines.{fed_in, worded_in, text_in, input_in, IsInput}
use Rattle.driver_input.specs.declared.fault.InputFault.{InputFault}
use Rattle.driver_input.specs.declared.fault.InputFault.TheVariants.{BadLine, TooMany}
use Rattle.driver_input.specs.declared.inputs.Input.{Input}
use Rattle.driver_input.specs.declared.inputs.Input.TheVariants.{Start, Feed}
use Rattle.driver_input.specs.declared.inputs.InputLine.{InputLine}

module _ (net : Network) where
  fed_within : (number : ℕ) (text : List ℕ) (i : Input) → fed_in net number text ≡ Ok i → IsInput net i
  unfolding fed_in
  fed_within number text i e =
      let (parts, cut, e1) = need_passed (cut_first 32 text) (BadLine number) _ i e in
      let (switch, named, e2) = need_passed (switch_named net.names parts.0) (BadLine number) _ i e1 in
      let (bytes, read, e3) = need_passed (bytes_in parts.1) (BadLine number) _ i e2 in
      subst (IsInput net) (ok_is {E = InputFault} (Feed (record { 0 = switch }) bytes) i e3) (named_within net.names parts.0 switch named)

  worded_within : (number : ℕ) (text : List ℕ) (i : Input) → worded_in net number text ≡ Ok i → IsInput net i
  unfolding worded_in
  worded_within number text i e =
      let (parts, cut, e1) = need_passed (cut_first 32 text) (BadLine number) _ i e in
      by parts.1 (bytes_eq parts.0 (codes "feed")) e1
    where
      by : (rest : List ℕ) (b : Bool) → cond b (fed_in net number rest) (Err (BadLine number)) ≡ Ok i → IsInput net i
      by rest true f = fed_within number rest i f
      by rest false f = absurd (let g : Err (BadLine number) ≡ Ok i = f in cc)

  text_within : (number : ℕ) (text : List ℕ) (i : Input) → text_in net number text ≡ Ok i → IsInput net i
  text_within number text i e = by (bytes_eq text (codes "start")) e
    where
      by : (b : Bool) → cond b (Ok Start) (worded_in net number text) ≡ Ok i → IsInput net i
      by true f = subst (IsInput net) (ok_is {E = InputFault} Start i f) tt
      by false f = worded_within number text i f

  input_within : (number : ℕ) (line : List ℕ) (i : Input) → input_in net number line ≡ Ok i → IsInput net i
  input_within number line i e = by (is_utf8 line) e
    where
      by : (b : Bool) → cond b (text_in net number line) (Err (BadLine number)) ≡ Ok i → IsInput net i
      by true f = text_within number line i f
      by false f = absurd (let g : Err (BadLine number) ≡ Ok i = f in cc)

  one_more : (number : ℕ) (before after : List InputLine) (line : List ℕ) → AreInputs net before → input_at net number before line ≡ Ok after → AreInputs net after
  unfolding input_at
  one_more number before after line are e =
      let (input, read, e1) = bind_ok (input_in net number line) _ after e in
      let (few, e2) = check_passed (nat_lt (length before) 1000000) TooMany _ after e1 in
      let next : InputLine = record { line = number; input = input } in
      subst (AreInputs net) (ok_is {E = InputFault} (before ++ next ∷ []) after e2)
      (each_append (λ (l : InputLine). IsInput net l.input) before (next ∷ []) are (input_within number line input read, tt))

  line_keeps : (number : ℕ) (before after : List InputLine) (line : List ℕ) → AreInputs net before → line_at net number before line ≡ Ok after → AreInputs net after
  line_keeps number before after line are e = by (is_comment line) e
    where
      by : (b : Bool) → cond b (Ok before) (input_at net number before line) ≡ Ok after → AreInputs net after
      by true f = subst (AreInputs net) (ok_is {E = InputFault} before after f) are
      by false f = one_more number before after line are f

  pub inputs_within : (bytes : List ℕ) (inputs : List InputLine) → inputs_in net bytes ≡ Ok inputs → AreInputs net inputs
  inputs_within bytes inputs e =
      in_turn-keeps (line_at net) (AreInputs net) (λ number before after line are read. line_keeps number before after line are read) 1 [] inputs (lines_of bytes) tt e
