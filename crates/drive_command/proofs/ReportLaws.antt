-- A report is read as the log: its other lines are comments.
use Rattle.std.proofs.Common.{◌≡◌, ◌≢◌, ℕ, suc, ◌+◌, ◌/◌, ◌%◌, ◌≤◌, true, List, [], ◌∷◌, ◌++◌, length, map, get_or, codes, decimal, Ok, refl, sym, ap, ◌∙◌, inl, inr, append-nil, length-append, arith}
use Rattle.std.specs.Prelude.{slice_index, flat_map}
use Rattle.std.specs.List.{AllByRecursion}
use Rattle.std.proofs.Math.ListN.{get_or-eq_default}
use Rattle.std.proofs.lemmas.Bool.{cases_lt}
use Rattle.std.proofs.lemmas.Grind.{flat_map-append}
use Rattle.hex.specs.Hex.{encode_with, encode_lower, lower_digits}
use Rattle.net_base.proofs.Cuts.{Lacks, Lacks-append, Lacks-cons}
use Rattle.net_base.proofs.MemberLaws.{each_append}
use Rattle.topology.specs.Networks.{Network, IsNetwork, IsName}
use Rattle.update_model.specs.declared.Change.{Change}
use Rattle.schedule_replay.specs.EventTexts.{event_text, HasLine}
use Rattle.net_base.specs.Lines.{text_of, is_comment}
use Rattle.schedule_replay.specs.Schedules.{schedule_in, numbered_lines}
use Rattle.schedule_replay.specs.Traces.{phase_line}
use Rattle.schedule_replay.proofs.EventsAgain.{lines_between}
use Rattle.schedule_replay.proofs.Printed.{Lacks-from, decimal_from, name_from}
use Rattle.schedule_replay.proofs.TracesAgain.{phase_from}
use Rattle.round_messages.specs.Requests.{switch_numbered}
use Rattle.switch_session.specs.declared.Cause.{Cause}
use Rattle.switch_session.specs.declared.Cause.TheVariants as cause
use Rattle.switch_session.specs.declared.Session.{Session}
use Rattle.switch_session.specs.declared.Session.TheVariants.{Waiting, Open, Failed}
use Rattle.update_driver.specs.Drivers.{DriverState, channel_at}
use Rattle.switch_session.specs.Causes.{cause_text}
use Rattle.drive_command.specs.Reports.{session_lines, by_switch, sent_to, session_of, front_lines, last_line, log_text, report_text}
use Rattle.net_base.specs.Switches.{most_switches}

-- ---- the lines on the switches

-- what holds of the lines on each switch holds of all
each_switch : (P : List ℕ → Type 0) (lines : ℕ → List ℕ → List (List ℕ)) → ((i : ℕ) (name : List ℕ) → IsName name → AllByRecursion P (lines i name))
    → (i : ℕ) (names : List (List ℕ)) → AllByRecursion IsName names → AllByRecursion P (by_switch lines i names)
each_switch P lines each i [] are = tt
each_switch P lines each i (name ∷ names) are = each_append P (lines i name) (by_switch lines (suc i) names) (each i name are.0) (each_switch P lines each (suc i) names are.1)

-- there is at most one line on each switch
count_switch : (lines : ℕ → List ℕ → List (List ℕ)) → ((i : ℕ) (name : List ℕ) → length (lines i name) ≤ 1) → (i : ℕ) (names : List (List ℕ)) → length (by_switch lines i names) ≤ length names
count_switch lines each i [] = omega arith
count_switch lines each i (name ∷ names) =
    let one = each i name in
    let rest = count_switch lines each (suc i) names in
    let all = length-append (lines i name) (by_switch lines (suc i) names) in
    omega arith

-- ---- they are comments without a line end

lacks_name : (name : List ℕ) → IsName name → Lacks 10 name
lacks_name name is = Lacks-from 45 10 name (omega arith) (name_from (name ∷ []) 0 (is, tt))

lacks_decimal : (n : ℕ) → Lacks 10 (decimal n)
lacks_decimal n = Lacks-from 48 10 (decimal n) (omega arith) (decimal_from n)

digit_differs : (i : ℕ) → slice_index lower_digits i ≢ 10
digit_differs i = elim (cases_lt i 16) [
  | inl lt ↦ Lacks-from 48 10 lower_digits (omega arith) refl i lt
  | inr past ↦ (λ e. let zero_there : get_or lower_digits i 0 ≡ 0 = get_or-eq_default lower_digits 0 past in omega (arith, e, zero_there))
]

lacks_hex : (bytes : List ℕ) → Lacks 10 (encode_lower bytes)
unfolding encode_with
lacks_hex [] = λ i lt. absurd (omega arith)
lacks_hex (b ∷ bytes) =
    Lacks-cons 10 (slice_index lower_digits (b / 16)) (slice_index lower_digits (b % 16) ∷ encode_lower bytes) (digit_differs (b / 16))
    (Lacks-cons 10 (slice_index lower_digits (b % 16)) (encode_lower bytes) (digit_differs (b % 16)) (lacks_hex bytes))

lacks_cause : (c : Cause) → Lacks 10 (cause_text c)
lacks_cause cause.Length = Lacks-from 32 10 (codes "Length") (omega arith) refl
lacks_cause cause.Version = Lacks-from 32 10 (codes "Version") (omega arith) refl
lacks_cause cause.NoHello = Lacks-from 32 10 (codes "NoHello") (omega arith) refl
lacks_cause (cause.Error kind code) =
    Lacks-append 10 (codes "Error " ++ decimal kind ++ codes " ") (decimal code)
    (Lacks-append 10 (codes "Error " ++ decimal kind) (codes " ") (Lacks-append 10 (codes "Error ") (decimal kind) (Lacks-from 32 10 (codes "Error ") (omega arith) refl) (lacks_decimal kind)) (Lacks-from 32 10 (codes " ") (omega arith) refl))
    (lacks_decimal code)
lacks_cause (cause.Xid xid) = Lacks-append 10 (codes "Xid ") (decimal xid) (Lacks-from 32 10 (codes "Xid ") (omega arith) refl) (lacks_decimal xid)

-- a mark, a name, a space and what stands behind
lacks_words : (mark name rest : List ℕ) → Lacks 10 mark → IsName name → Lacks 10 rest → Lacks 10 (mark ++ name ++ codes " " ++ rest)
lacks_words mark name rest m is r =
    Lacks-append 10 (mark ++ name ++ codes " ") rest
    (Lacks-append 10 (mark ++ name) (codes " ") (Lacks-append 10 mark name m (lacks_name name is)) (Lacks-from 32 10 (codes " ") (omega arith) refl)) r

abbrev IsComment : List ℕ → Type 0
IsComment line = is_comment line ≡ true

module _ (d : DriverState) where
  sent_comment : (i : ℕ) (name : List ℕ) → IsName name → AllByRecursion IsComment (sent_to d i name)
  sent_comment i name is = (refl, tt)

  sent_lacks : (i : ℕ) (name : List ℕ) → IsName name → AllByRecursion (Lacks 10) (sent_to d i name)
  sent_lacks i name is =
      (lacks_words (codes "# sent ") name (encode_lower (channel_at d (switch_numbered i)).sent) (Lacks-from 32 10 (codes "# sent ") (omega arith) refl) is (lacks_hex (channel_at d (switch_numbered i)).sent), tt)

  session_comment : (name : List ℕ) (s : Session) → AllByRecursion IsComment (session_lines name s)
  session_comment name Waiting = tt
  session_comment name Open = tt
  session_comment name (Failed c) = (refl, tt)

  session_lacks : (name : List ℕ) (s : Session) → IsName name → AllByRecursion (Lacks 10) (session_lines name s)
  session_lacks name Waiting is = tt
  session_lacks name Open is = tt
  session_lacks name (Failed c) is = (lacks_words (codes "# failed ") name (cause_text c) (Lacks-from 32 10 (codes "# failed ") (omega arith) refl) is (lacks_cause c), tt)

  session_one : (name : List ℕ) (s : Session) → length (session_lines name s) ≤ 1
  session_one name Waiting = omega arith
  session_one name Open = omega arith
  session_one name (Failed c) = omega arith

  module _ (net : Network) (keeps : IsNetwork net) where
    front_comments : AllByRecursion IsComment (front_lines net d)
    front_comments =
        each_append IsComment (by_switch (sent_to d) 0 net.names) (by_switch (session_of d) 0 net.names)
        (each_switch IsComment (sent_to d) sent_comment 0 net.names keeps.name_forms)
        (each_switch IsComment (session_of d) (λ i name is. session_comment name (channel_at d (switch_numbered i)).session) 0 net.names keeps.name_forms)

    front_lacks : AllByRecursion (Lacks 10) (front_lines net d)
    front_lacks =
        each_append (Lacks 10) (by_switch (sent_to d) 0 net.names) (by_switch (session_of d) 0 net.names)
        (each_switch (Lacks 10) (sent_to d) sent_lacks 0 net.names keeps.name_forms)
        (each_switch (Lacks 10) (session_of d) (λ i name is. session_lacks name (channel_at d (switch_numbered i)).session is) 0 net.names keeps.name_forms)

    front_short : length net.names ≤ most_switches → length (front_lines net d) ≤ 1000000
    front_short few =
        let sent = count_switch (sent_to d) (λ i name. let one : length (sent_to d i name) ≤ 1 = omega arith in one) 0 net.names in
        let sessions = count_switch (session_of d) (λ i name. session_one name (channel_at d (switch_numbered i)).session) 0 net.names in
        let all = length-append (by_switch (sent_to d) 0 net.names) (by_switch (session_of d) 0 net.names) in
        omega arith

    last_lacks : (rounds : ℕ) → Lacks 10 (last_line d rounds)
    last_lacks rounds = Lacks-append 10 (codes "# ") (phase_line d.phase rounds) (Lacks-from 32 10 (codes "# ") (omega arith) refl) (Lacks-from 32 10 (phase_line d.phase rounds) (omega arith) (phase_from d.phase rounds))

    -- read as a schedule, the report is the log
    pub report_read : (rounds : List (List Change)) → length net.names ≤ most_switches → AllByRecursion (HasLine net) d.log → length d.log ≤ 4000000
        → schedule_in net (report_text net rounds d) ≡ Ok (numbered_lines (1 + length (front_lines net d)) d.log)
    unfolding report_text
    report_read rounds few lines short =
        lines_between net keeps (front_lines net d) d.log (last_line d (length rounds) ∷ []) front_comments front_lacks lines short (front_short few) (refl, tt) (last_lacks (length rounds), tt)

-- ---- the parts of a report

-- the text of lines is made of the texts of parts of them
pub text_append : (xs ys : List (List ℕ)) → text_of (xs ++ ys) ≡ text_of xs ++ text_of ys
text_append xs ys = flat_map-append (λ (line : List ℕ). line ++ 10 ∷ []) xs ys

pub report_parts : (net : Network) (rounds : List (List Change)) (d : DriverState)
    → text_of (by_switch (sent_to d) 0 net.names) ++ text_of (by_switch (session_of d) 0 net.names) ++ log_text net d (length rounds) ≡ report_text net rounds d
unfolding report_text
report_parts net rounds d =
    let sent = by_switch (sent_to d) 0 net.names in
    let sessions = by_switch (session_of d) 0 net.names in
    let events = map (event_text net) d.log in
    let last = last_line d (length rounds) in
    let one : text_of (last ∷ []) ≡ last ++ 10 ∷ [] = append-nil (last ++ 10 ∷ []) in
    ap (λ (t : List ℕ). t ++ log_text net d (length rounds)) (sym (text_append sent sessions))
    ∙ ap (λ (t : List ℕ). text_of (sent ++ sessions) ++ (text_of events ++ t)) (sym one)
    ∙ ap (λ (t : List ℕ). text_of (sent ++ sessions) ++ t) (sym (text_append events (last ∷ [])))
    ∙ sym (text_append (sent ++ sessions) (events ++ (last ∷ [])))
