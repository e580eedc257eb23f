-- Inputs as calls of a driver: what they make of it, and that only their bytes matter.
use Rattle.std.proofs.Common.{◌≡◌, ℕ, Bool, true, false, cond, eqb, List, [], ◌∷◌, ◌++◌, map, refl, sym, ap, ◌∙◌, subst, inl, inr}
use Rattle.std.specs.Prelude.{is_none, Result, Ok, Err}
use Rattle.std.specs.List.{AllByRecursion}
use Rattle.std.proofs.lemmas.Bool.{cases_Bool, cond-true, cond-false, cond_both}
use Rattle.std.proofs.lemmas.Grind.{flat_map-append}
use Rattle.net_base.specs.Reading.{◌>>=◌}
use Rattle.net_base.specs.declared.ids.SwitchId.{SwitchId}
use Rattle.topology.specs.Networks.{Network}
use Rattle.update_model.specs.declared.Change.{Change}
use Rattle.driver_input.specs.Inputs.{AreInputs}
use Rattle.driver_input.specs.Lines.{IsInput}
use Rattle.driver_input.specs.declared.inputs.Input.{Input}
use Rattle.driver_input.specs.declared.inputs.Input.TheVariants.{Start, Feed}
use Rattle.driver_input.specs.declared.inputs.InputLine.{InputLine}
use Rattle.update_driver.specs.Drivers.{DriverState, first_driver, driver_after_bytes, started_driver, start_fault}
use Rattle.update_driver.specs.Calls as call
use Rattle.update_driver.specs.Calls.{Call, IsCall, after_call, after_calls, driver_after, bytes_in, bytes_from, each_byte, byte_by_byte}
use Rattle.update_driver.specs.Laws.{BeginsAnswered}
use Rattle.update_driver.proofs.PieceLaws.{each_after, bytewise}
use Rattle.update_driver.proofs.SoundLaws.{begins_answered}
use Rattle.drive_command.specs.declared.driving.DriveFault.{DriveFault}
use Rattle.drive_command.specs.declared.driving.DriveFault.TheVariants.{NotARun}
use Rattle.drive_command.specs.Driving.{after_input, after_inputs, driven_by, IsStep, call_of, calls_of, DifferInPieces}

pub are_calls : (net : Network) (inputs : List InputLine) → AreInputs net inputs → AllByRecursion (IsCall net) (calls_of inputs)
are_calls net [] h = tt
are_calls net (l ∷ inputs) h = (is_call l.input h.0, are_calls net inputs h.1)
  where
    is_call : (i : Input) → IsInput net i → IsCall net (call_of i)
    is_call Start h = tt
    is_call (Feed s bytes) h = h

module _ (net : Network) (rounds : List (List Change)) where
  -- ---- calls none of which is refused

  abbrev MayCall : DriverState → Call → Type 0
  MayCall d call.Start = is_none (start_fault net rounds d) ≡ true
  MayCall d (call.Feed s bytes) = Unit {0}

  abbrev MayCallAll : DriverState → List Call → Type 0
  MayCallAll d [] = Unit {0}
  MayCallAll d (c ∷ calls) = MayCall d c × MayCallAll (after_call net rounds d c) calls

  -- an input that is taken is a call that isn't refused
  pub taken_input : (line : ℕ) (i : Input) (d e : DriverState) → after_input net rounds line i d ≡ Ok e → MayCall d (call_of i) × (e ≡ after_call net rounds d (call_of i))
  taken_input line Start d e is =
      let test = is_none (start_fault net rounds d) in
      elim (cases_Bool test) [
        | inl may ↦ (
            let same : Ok (started_driver net rounds d) ≡ Ok e = sym (cond-true test (Ok (started_driver net rounds d)) (Err (NotARun line)) may) ∙ is in
            let one : e ≡ started_driver net rounds d = cc in
            (may, one ∙ sym (cond-true test (started_driver net rounds d) d may)))
        | inr refused ↦ absurd (let f : Err (NotARun line) ≡ Ok e = sym (cond-false test (Ok (started_driver net rounds d)) (Err (NotARun line)) refused) ∙ is in cc)
      ]
  taken_input line (Feed s bytes) d e is = (tt, (let f : Ok (driver_after_bytes rounds s bytes d) ≡ Ok e = is in cc))

  take_input : (line : ℕ) (i : Input) (d : DriverState) → MayCall d (call_of i) → after_input net rounds line i d ≡ Ok (after_call net rounds d (call_of i))
  take_input line Start d may =
      let test = is_none (start_fault net rounds d) in
      cond-true test (Ok (started_driver net rounds d)) (Err (NotARun line)) may ∙ ap Ok (sym (cond-true test (started_driver net rounds d) d may))
  take_input line (Feed s bytes) d may = refl

  -- the first of inputs that are all taken is, and then the rest are
  first_taken : (r : Result DriverState DriveFault) (inputs : List InputLine) (e : DriverState) → (r >>= λ next. after_inputs net rounds next inputs) ≡ Ok e
      → (next : DriverState) × (r ≡ Ok next) × (after_inputs net rounds next inputs ≡ Ok e)
  first_taken (Ok next) inputs e is = (next, refl, is)
  first_taken (Err f) inputs e is = absurd (let g : Err f ≡ Ok e = is in cc)

  taken_inputs : (d : DriverState) (inputs : List InputLine) (e : DriverState) → after_inputs net rounds d inputs ≡ Ok e → MayCallAll d (calls_of inputs) × (e ≡ after_calls net rounds d (calls_of inputs))
  taken_inputs d [] e is = (tt, (let f : Ok d ≡ Ok e = is in cc))
  taken_inputs d (l ∷ inputs) e is =
      let (next, first, rest) = first_taken (after_input net rounds l.line l.input d) inputs e is in
      let (may, next_is) = taken_input l.line l.input d next first in
      let (all, e_is) = taken_inputs next inputs e rest in
      let c = call_of l.input in (
        (may, subst (λ (n : DriverState). MayCallAll n (calls_of inputs)) next_is all),
        e_is ∙ ap (λ (n : DriverState). after_calls net rounds n (calls_of inputs)) next_is,
      )

  take_inputs : (d : DriverState) (inputs : List InputLine) → MayCallAll d (calls_of inputs) → after_inputs net rounds d inputs ≡ Ok (after_calls net rounds d (calls_of inputs))
  take_inputs d [] may = refl
  take_inputs d (l ∷ inputs) may =
      ap (λ (r : Result DriverState DriveFault). r >>= λ next. after_inputs net rounds next inputs) (take_input l.line l.input d may.0)
      ∙ take_inputs (after_call net rounds d (call_of l.input)) inputs may.1

  -- the driver that is given the inputs is the one after their calls
  pub driven_calls : (inputs : List InputLine) (e : DriverState) → driven_by net rounds inputs ≡ Ok e → e ≡ driver_after net rounds (calls_of inputs)
  driven_calls inputs e is = (taken_inputs (first_driver net) inputs e is).1

  -- ---- what an input begins

  pub steps_begin : (inputs : List InputLine) (before after : DriverState) → IsStep net rounds inputs before after → BeginsAnswered before after
  steps_begin inputs before after step =
      let d = driver_after net rounds (calls_of step.front) in
      let c = call_of step.next.input in
      let before_is : before ≡ d = driven_calls step.front before step.before_is in
      let after_is : after ≡ after_call net rounds before c = (taken_input step.next.line step.next.input before after step.after_is).1 in
      subst (λ (b : DriverState). BeginsAnswered b after) (sym before_is)
      (subst (BeginsAnswered d) (sym (after_is ∙ ap (λ (b : DriverState). after_call net rounds b c) before_is)) (begins_answered net rounds (calls_of step.front) c))

  -- ---- byte by byte

  may_split : (d : DriverState) (xs ys : List Call) → MayCallAll d (xs ++ ys) → MayCallAll d xs × MayCallAll (after_calls net rounds d xs) ys
  may_split d [] ys may = (tt, may)
  may_split d (c ∷ xs) ys may = let (left, right) = may_split (after_call net rounds d c) xs ys may.1 in ((may.0, left), right)

  may_join : (d : DriverState) (xs ys : List Call) → MayCallAll d xs → MayCallAll (after_calls net rounds d xs) ys → MayCallAll d (xs ++ ys)
  may_join d [] ys left right = right
  may_join d (c ∷ xs) ys left right = (left.0, may_join (after_call net rounds d c) xs ys left.1 right)

  may_feed : (s : SwitchId) (bytes : List ℕ) (d : DriverState) → MayCallAll d (map (λ b. call.Feed s (b ∷ [])) bytes)
  may_feed s [] d = tt
  may_feed s (b ∷ bytes) d = (tt, may_feed s bytes (driver_after_bytes rounds s (b ∷ []) d))

  may_each : (d : DriverState) (c : Call) → MayCall d c → MayCallAll d (each_byte c)
  may_each d call.Start may = (may, tt)
  may_each d (call.Feed s bytes) may = may_feed s bytes d

  each_may : (d : DriverState) (c : Call) → MayCallAll d (each_byte c) → MayCall d c
  each_may d call.Start may = may.0
  each_may d (call.Feed s bytes) may = tt

  may_bytewise : (d : DriverState) (calls : List Call) → MayCallAll d calls → MayCallAll d (byte_by_byte calls)
  may_bytewise d [] may = tt
  may_bytewise d (c ∷ calls) may =
      may_join d (each_byte c) (byte_by_byte calls) (may_each d c may.0)
      (subst (λ (e : DriverState). MayCallAll e (byte_by_byte calls)) (sym (each_after net rounds d c)) (may_bytewise (after_call net rounds d c) calls may.1))

  bytewise_may : (d : DriverState) (calls : List Call) → MayCallAll d (byte_by_byte calls) → MayCallAll d calls
  bytewise_may d [] may = tt
  bytewise_may d (c ∷ calls) may =
      let (left, right) = may_split d (each_byte c) (byte_by_byte calls) may in (
        each_may d c left,
        bytewise_may (after_call net rounds d c) calls (subst (λ (e : DriverState). MayCallAll e (byte_by_byte calls)) (each_after net rounds d c) right),
      )

  -- inputs that differ in pieces make the same driver
  pub driven_pieces : (a b : List InputLine) (e : DriverState) → DifferInPieces a b → driven_by net rounds a ≡ Ok e → driven_by net rounds b ≡ Ok e
  driven_pieces a b e same is =
      let first = first_driver net in
      let (may, e_is) = taken_inputs first a e is in
      let may_b : MayCallAll first (calls_of b) = bytewise_may first (calls_of b) (subst (MayCallAll first) same (may_bytewise first (calls_of a) may)) in
      let ends : driver_after net rounds (calls_of b) ≡ e =
      sym (bytewise net rounds (calls_of b)) ∙ ap (driver_after net rounds) (sym same) ∙ bytewise net rounds (calls_of a) ∙ sym e_is in
      take_inputs first b may_b ∙ ap Ok ends

-- ---- the bytes of a switch

bytes_append : (s : SwitchId) (xs ys : List Call) → bytes_from s (xs ++ ys) ≡ bytes_from s xs ++ bytes_from s ys
bytes_append s xs ys = flat_map-append (bytes_in s) xs ys

module _ (s t : SwitchId) where
  abbrev here : Bool
  here = eqb t.0 s.0

  bytes_each : (bytes : List ℕ) → bytes_from s (map (λ b. call.Feed t (b ∷ [])) bytes) ≡ cond here bytes []
  bytes_each [] = cond_both here [] [] (λ (l : List ℕ). [] ≡ l) (λ e. refl) (λ e. refl)
  bytes_each (b ∷ bytes) =
      elim (cases_Bool here) [
        | inl hit ↦ (
            ap (λ (l : List ℕ). cond here (b ∷ []) [] ++ l) (bytes_each bytes ∙ cond-true here bytes [] hit) ∙ ap (λ (l : List ℕ). l ++ bytes) (cond-true here (b ∷ []) [] hit)
            ∙ sym (cond-true here (b ∷ bytes) [] hit))
        | inr miss ↦ (
            ap (λ (l : List ℕ). cond here (b ∷ []) [] ++ l) (bytes_each bytes ∙ cond-false here bytes [] miss) ∙ ap (λ (l : List ℕ). l ++ []) (cond-false here (b ∷ []) [] miss)
            ∙ sym (cond-false here (b ∷ bytes) [] miss))
      ]

bytes_bytewise : (s : SwitchId) (calls : List Call) → bytes_from s (byte_by_byte calls) ≡ bytes_from s calls
bytes_bytewise s [] = refl
bytes_bytewise s (c ∷ calls) =
    bytes_append s (each_byte c) (byte_by_byte calls) ∙ ap (λ (l : List ℕ). l ++ bytes_from s (byte_by_byte calls)) (one c) ∙ ap (λ (l : List ℕ). bytes_in s c ++ l) (bytes_bytewise s calls)
  where
    one : (c : Call) → bytes_from s (each_byte c) ≡ bytes_in s c
    one call.Start = refl
    one (call.Feed t bytes) = bytes_each s t bytes

-- inputs that differ in pieces have the same bytes from each switch
pub bytes_pieces : (s : SwitchId) (a b : List InputLine) → DifferInPieces a b → bytes_from s (calls_of a) ≡ bytes_from s (calls_of b)
bytes_pieces s a b same = sym (bytes_bytewise s (calls_of a)) ∙ ap (bytes_from s) same ∙ bytes_bytewise s (calls_of b)
