-- What reading answers, from what it refuses and what the fields name.
use Rattle.std.proofs.Common.{◌≡◌, ℕ, sym, subst, ◌∙◌, List, [], ◌∷◌, ◌++◌}
use Rattle.std.specs.Prelude.{Option, Some, None, Result, Ok, Err, IfOk, is_some}
use Rattle.std.specs.Result.{result_err}
use Rattle.openflow10.specs.Layout.{number_at}
use Rattle.openflow10.specs.Messages.{BeginsWith}
use Rattle.openflow10.specs.Reading.{Names}
use Rattle.openflow10.specs.Actions.{verb_in}
use Rattle.openflow10.specs.Refusals.{first_failed, match_tests, command_tests, flow_tests, header_tests, body_tests, profile, refusal_of}
use Rattle.openflow10.specs.declared.WireField.TheVariants as field
use Rattle.openflow10.specs.declared.ofp_flow_mod.FlowModFields.{FlowModFields}
use Rattle.openflow10.specs.declared.ofp_action.ActionFields.{ActionFields}
use Rattle.openflow10.specs.declared.Message.{Message}
use Rattle.openflow10.specs.declared.WireFault.{WireFault}
use Rattle.openflow10.proofs.NumberLaws.{IsBytes}
use Rattle.openflow10.proofs.TestLaws.{first_failed-none, first_failed-some}
use Rattle.openflow10.proofs.MessageLaws.{passed_begins, none_refuses, text_names, text_size, one_named}

-- an answer that refuses by the tests, and else is what the fields name
abbrev pub Answers : List ℕ → Result (Message × ℕ) WireFault → Type 0
Answers bytes r = (result_err r ≡ refusal_of bytes) × IfOk r (λ found. Names bytes found.0 × (found.1 ≡ number_at 2 2 bytes))

pub found_begins : (bytes : List ℕ) (r : Result (Message × ℕ) WireFault) → IsBytes bytes → Answers bytes r → IfOk r (λ found. BeginsWith bytes found.0 found.1)
found_begins bytes (Ok found) fits h = subst (BeginsWith bytes found.0) (sym h.1.1) (passed_begins bytes found.0 fits (sym h.0) h.1.0)
found_begins bytes (Err e) fits h = tt

pub only_found : (bytes : List ℕ) (r : Result (Message × ℕ) WireFault) → Answers bytes r → (m : Message) (n : ℕ) → BeginsWith bytes m n → r ≡ Ok (m, n)
only_found bytes (Ok found) h m n begins =
    let message : found.0 ≡ m = one_named bytes found.0 m h.1.0 (text_names bytes m n begins) in
    let size : found.1 ≡ n = h.1.1 ∙ text_size bytes m n begins in
    λ i. Ok (message i, size i)
only_found bytes (Err e) h m n begins =
    let refused : Some e ≡ refusal_of bytes = h.0 in
    let none = none_refuses bytes m n begins in
    absurd cc

-- ---- the tests, part by part

pub flow_refused : (f : FlowModFields) (actions : List ActionFields) (e : WireFault) → None ≡ first_failed (match_tests f.pattern) → Some e ≡ first_failed (command_tests f)
    → Some e ≡ first_failed (flow_tests f actions)
flow_refused f actions e passed refused =
    let last = profile field.Actions (is_some (verb_in f.command actions)) ∷ [] in
    sym (first_failed-none (match_tests f.pattern) (command_tests f ++ last) (sym passed) ∙ first_failed-some (command_tests f) last e (sym refused))

pub refused_by_header : (bytes : List ℕ) (e : WireFault) → Some e ≡ first_failed (header_tests bytes) → Some e ≡ refusal_of bytes
unfolding refusal_of
refused_by_header bytes e refused = sym (first_failed-some (header_tests bytes) (body_tests bytes) e (sym refused))

pub refused_by_body : (bytes : List ℕ) (o : Option WireFault) → None ≡ first_failed (header_tests bytes) → o ≡ first_failed (body_tests bytes) → o ≡ refusal_of bytes
unfolding refusal_of
refused_by_body bytes o passed refused = refused ∙ sym (first_failed-none (header_tests bytes) (body_tests bytes) (sym passed))
