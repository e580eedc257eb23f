-- What blocks tell of lines, by the calls of the driver for which the lines ask.
use Rattle.std.proofs.Common.{◌≡◌, ℕ, Bool, true, false, cond, Result, Ok, Err, List, [], ◌∷◌, ◌++◌, length, refl, sym, ap, ◌∙◌}
use Rattle.std.specs.Prelude.{Option, Some, None, is_none, nat_lt, flat_map, IfOk, codes}
use Rattle.std.specs.List.{AllByRecursion, cons_option}
use Rattle.std.specs.Str.{bytes_eq, is_utf8}
use Rattle.std.proofs.lemmas.Bool.{cond_both}
use Rattle.net_base.specs.Lines.{is_comment}
use Rattle.net_base.specs.Reading.{◌>>=◌, need}
use Rattle.net_base.specs.Text.{cut_first}
use Rattle.topology.specs.Networks.{Network, switch_named}
use Rattle.topology.proofs.NamedLaws.{named_within}
use Rattle.update_model.specs.declared.Change.{Change}
use Rattle.text_lines.specs.Words.{bytes_in}
use Rattle.two_way_driver.specs.Calls.{DriverView, silent_view, start_fault, back_fault, started_view, turned_view}
use Rattle.two_way_driver.specs.Laws.{Call, IsCall}
use Rattle.two_way_driver.specs.Laws as call
use Rattle.two_way_driver.specs.Words.{after_call_anew, after_calls_anew, said_by_each, joined_words}
use Rattle.two_way_driver.specs.declared.DriverOutput.{DriverOutput}
use Rattle.two_way_driver.proofs.WordLaws.{calls_said, calls_kept}
use Rattle.serve_lines.specs.Lines.{reopened_in, dead_in, fed_in, worded_in, text_in, spelled_in, line_in, IsLineOf}
use Rattle.serve_lines.specs.declared.fault.LineFault.{LineFault}
use Rattle.serve_lines.specs.declared.fault.LineFault.TheVariants.{Bad}
use Rattle.serve_lines.specs.declared.line.ServeLine.{ServeLine}
use Rattle.serve_lines.specs.declared.line.ServeLine.TheVariants.{Comment, Start, Back, Reopen, Feed, Dead}
use Rattle.serve_command.specs.Served.{after_read, after_line, line_block, after_lines, blocks, first_block, served_text}
use Rattle.serve_command.specs.Serving.{text_on}
use Rattle.check_base.specs.Checks.{CheckMeaning}
use Rattle.law_serve_promise.specs.Told.{BlockContent, block_of, told_first, told_line, told_lines, said_in, driver_of, driver_behind, told_on, call_read, call_in, calls_in}

-- ---- a line keeps the network and the rounds

pub record KeepsPlan (v w : DriverView) : Type 0 where
  pub net : w.net ≡ v.net
  pub rounds : w.rounds ≡ v.rounds

keeps_read : (v : DriverView) (r : Result ServeLine LineFault) → KeepsPlan v (after_read v r)
keeps_read v (Ok Comment) = record { net = refl; rounds = refl }
keeps_read v (Ok Start) = cond_both (is_none (start_fault v)) (started_view v) v (λ (w : DriverView). KeepsPlan v w) (λ b. record { net = refl; rounds = refl }) (λ b. record { net = refl; rounds = refl })
keeps_read v (Ok Back) = cond_both (is_none (back_fault v)) (turned_view v) v (λ (w : DriverView). KeepsPlan v w) (λ b. record { net = refl; rounds = refl }) (λ b. record { net = refl; rounds = refl })
keeps_read v (Ok (Reopen s)) = record { net = refl; rounds = refl }
keeps_read v (Ok (Feed s bytes)) = record { net = refl; rounds = refl }
keeps_read v (Ok (Dead s)) = record { net = refl; rounds = refl }
keeps_read v (Err bad) = record { net = refl; rounds = refl }

pub keeps_line : (v : DriverView) (line : List ℕ) → KeepsPlan v (after_line v line)
unfolding after_line
keeps_line v line = let k = keeps_read v (line_in v.net line) in record { net = k.net; rounds = k.rounds }

pub keeps_lines : (v : DriverView) (lines : List (List ℕ)) → KeepsPlan v (after_lines v lines)
keeps_lines v [] = record { net = refl; rounds = refl }
keeps_lines v (line ∷ lines) =
    let one = keeps_line v line in
    let rest = keeps_lines (after_line v line) lines in
    record { net = rest.net ∙ one.net; rounds = rest.rounds ∙ one.rounds }

-- ---- the blocks in a row

block_is : (v : DriverView) (line : List ℕ) → line_block v line ≡ block_of v.net (length v.rounds) (told_line v line)
unfolding line_block
block_is v line = refl

blocks_are : (net : Network) (rounds : List (List Change)) (v : DriverView) (lines : List (List ℕ)) → v.net ≡ net → v.rounds ≡ rounds → blocks v lines ≡ flat_map (block_of net (length rounds)) (told_lines v lines)
blocks_are net rounds v [] net_is rounds_is = refl
blocks_are net rounds v (line ∷ lines) net_is rounds_is =
    let k = keeps_line v line in
    let rest = blocks_are net rounds (after_line v line) lines (k.net ∙ net_is) (k.rounds ∙ rounds_is) in
    ap (λ (t : List ℕ). line_block v line ++ t) rest
    ∙ ap (λ (t : List ℕ). t ++ flat_map (block_of net (length rounds)) (told_lines (after_line v line) lines))
    (block_is v line ∙ ap (λ (n : Network). block_of n (length v.rounds) (told_line v line)) net_is ∙ ap (λ (rs : List (List Change)). block_of net (length rs) (told_line v line)) rounds_is)

pub text_is : (m : CheckMeaning) (lines : List (List ℕ)) → text_on m lines ≡ flat_map (block_of m.update.net (length m.plan.rounds)) (told_on m lines)
unfolding served_text
text_is m lines = ap (λ (t : List ℕ). first_block (driver_of m []) ++ t) (blocks_are m.update.net m.plan.rounds (silent_view (driver_of m [])) lines refl refl)

-- ---- lines behind others

told-append : (v : DriverView) (lines more : List (List ℕ)) → told_lines v (lines ++ more) ≡ told_lines v lines ++ told_lines (after_lines v lines) more
told-append v [] more = refl
told-append v (line ∷ lines) more = ap (λ (ts : List BlockContent). told_line v line ∷ ts) (told-append (after_line v line) lines more)

pub told_behind : (m : CheckMeaning) (lines more : List (List ℕ)) → told_on m (lines ++ more) ≡ told_on m lines ++ told_lines (driver_behind m lines) more
told_behind m lines more = ap (λ (ts : List BlockContent). told_first (driver_of m []) ∷ ts) (told-append (silent_view (driver_of m [])) lines more)

after_lines-append : (v : DriverView) (lines more : List (List ℕ)) → after_lines v (lines ++ more) ≡ after_lines (after_lines v lines) more
after_lines-append v [] more = refl
after_lines-append v (line ∷ lines) more = after_lines-append (after_line v line) lines more

pub behind-append : (m : CheckMeaning) (lines more : List (List ℕ)) → driver_behind m (lines ++ more) ≡ after_lines (driver_behind m lines) more
behind-append m lines more = after_lines-append (silent_view (driver_of m [])) lines more

-- ---- what is said, call by call

-- what a call says, if there is one, to a driver that forgot, and the driver behind it
abbrev pub said_given : DriverView → Option Call → List DriverOutput
said_given w None = []
said_given w (Some c) = (after_call_anew w c).state.said

abbrev pub given : DriverView → Option Call → DriverView
given w None = w
given w (Some c) = after_call_anew w c

pub read_said : (w : DriverView) (r : Result ServeLine LineFault) → (after_read (silent_view w) r).state.said ≡ said_given w (call_read r)
read_said w (Ok Comment) = refl
read_said w (Ok Start) = refl
read_said w (Ok Back) = refl
read_said w (Ok (Reopen s)) = refl
read_said w (Ok (Feed s bytes)) = refl
read_said w (Ok (Dead s)) = refl
read_said w (Err bad) = refl

read_behind : (w : DriverView) (r : Result ServeLine LineFault) → silent_view (after_read (silent_view w) r) ≡ silent_view (given w (call_read r))
read_behind w (Ok Comment) = refl
read_behind w (Ok Start) = refl
read_behind w (Ok Back) = refl
read_behind w (Ok (Reopen s)) = refl
read_behind w (Ok (Feed s bytes)) = refl
read_behind w (Ok (Dead s)) = refl
read_behind w (Err bad) = refl

pub line_behind : (w : DriverView) (line : List ℕ) → after_line (silent_view w) line ≡ silent_view (given w (call_in w.net line))
unfolding after_line
line_behind w line = read_behind w (line_in w.net line)

pub given_net : (w : DriverView) (o : Option Call) → (given w o).net ≡ w.net
given_net w None = refl
given_net w (Some call.Start) = cond_both (is_none (start_fault (silent_view w))) (started_view (silent_view w)) (silent_view w) (λ (x : DriverView). x.net ≡ w.net) (λ b. refl) (λ b. refl)
given_net w (Some call.Back) = cond_both (is_none (back_fault (silent_view w))) (turned_view (silent_view w)) (silent_view w) (λ (x : DriverView). x.net ≡ w.net) (λ b. refl) (λ b. refl)
given_net w (Some (call.Reopen s)) = refl
given_net w (Some (call.Feed s bytes)) = refl
given_net w (Some (call.Dead s)) = refl

more_said : (w : DriverView) (o : Option Call) (calls : List Call) → said_given w o ++ joined_words (said_by_each (given w o) calls) ≡ joined_words (said_by_each w (cons_option o calls))
more_said w None calls = refl
more_said w (Some c) calls = refl

more_behind : (w : DriverView) (o : Option Call) (calls : List Call) → after_calls_anew (given w o) calls ≡ after_calls_anew w (cons_option o calls)
more_behind w None calls = refl
more_behind w (Some c) calls = refl

lines_said : (net : Network) (w : DriverView) (lines : List (List ℕ)) → w.net ≡ net → said_in (told_lines (silent_view w) lines) ≡ joined_words (said_by_each w (calls_in net lines))
lines_said net w [] same = refl
lines_said net w (line ∷ lines) same =
    let o = call_in w.net line in
    let calls = calls_in net lines in
    let rest = lines_said net (given w o) lines (given_net w o ∙ same) in
    ap (λ (v : DriverView). (told_line (silent_view w) line).said ++ said_in (told_lines v lines)) (line_behind w line)
    ∙ ap (λ (t : List DriverOutput). t ++ said_in (told_lines (silent_view (given w o)) lines)) (read_said w (line_in w.net line))
    ∙ ap (λ (t : List DriverOutput). said_given w o ++ t) rest ∙ more_said w o calls ∙ ap (λ (n : Network). joined_words (said_by_each w (cons_option (call_in n line) calls))) same

lines_behind : (net : Network) (w : DriverView) (lines : List (List ℕ)) → w.net ≡ net → after_lines (silent_view w) lines ≡ silent_view (after_calls_anew w (calls_in net lines))
lines_behind net w [] same = refl
lines_behind net w (line ∷ lines) same =
    let o = call_in w.net line in
    let calls = calls_in net lines in
    ap (λ (v : DriverView). after_lines v lines) (line_behind w line) ∙ lines_behind net (given w o) lines (given_net w o ∙ same)
    ∙ ap silent_view (more_behind w o calls) ∙ ap (λ (n : Network). silent_view (after_calls_anew w (cons_option (call_in n line) calls))) same

-- all that the blocks tell is what the driver says to the calls for which the lines ask
pub words_are : (m : CheckMeaning) (lines : List (List ℕ)) → said_in (told_on m lines) ≡ (driver_of m (calls_in m.update.net lines)).state.said
words_are m lines =
    let v = driver_of m [] in
    ap (λ (t : List DriverOutput). v.state.said ++ t) (lines_said m.update.net v lines refl) ∙ sym (calls_said v (calls_in m.update.net lines))

-- and the driver is the one behind these calls, but that it forgot what it said
pub driver_is : (m : CheckMeaning) (lines : List (List ℕ)) → driver_behind m lines ≡ silent_view (driver_of m (calls_in m.update.net lines))
driver_is m lines =
    let v = driver_of m [] in
    lines_behind m.update.net v lines refl ∙ sym (calls_kept v (calls_in m.update.net lines))

-- ---- a switch for which a line asks is one of the network

ok_need : {A B E : Type 0} (o : Option A) (e : E) (f : A → Result B E) (P : B → Type 0) → ((x : A) → o ≡ Some x → IfOk (f x) P) → IfOk (need o e >>= f) P
ok_need (Some x) e f P h = h x refl
ok_need None e f P h = tt

ok_either : {B E : Type 0} (b : Bool) (one other : Result B E) (P : B → Type 0) → IfOk one P → IfOk other P → IfOk (cond b one other) P
ok_either true one other P p q = p
ok_either false one other P p q = q

module _ (net : Network) where
  reopened_within : (name : List ℕ) → IfOk (reopened_in net name) (IsLineOf net)
  unfolding reopened_in
  reopened_within name = ok_need (switch_named net.names name) Bad _ (IsLineOf net) (λ s named. named_within net.names name s named)

  dead_within : (name : List ℕ) → IfOk (dead_in net name) (IsLineOf net)
  unfolding dead_in
  dead_within name = ok_need (switch_named net.names name) Bad _ (IsLineOf net) (λ s named. named_within net.names name s named)

  fed_within : (text : List ℕ) → IfOk (fed_in net text) (IsLineOf net)
  unfolding fed_in
  fed_within text =
      ok_need (cut_first 32 text) Bad _ (IsLineOf net)
      (λ parts cut. ok_need (switch_named net.names parts.0) Bad _ (IsLineOf net) (λ s named. ok_need (bytes_in parts.1) Bad _ (IsLineOf net) (λ bytes read. named_within net.names parts.0 s named)))

  worded_within : (text : List ℕ) → IfOk (worded_in net text) (IsLineOf net)
  unfolding worded_in
  worded_within text =
      ok_need (cut_first 32 text) Bad _ (IsLineOf net)
      (λ parts cut.
      ok_either (bytes_eq parts.0 (codes "feed")) (fed_in net parts.1) _ (IsLineOf net) (fed_within parts.1)
      (ok_either (bytes_eq parts.0 (codes "reopen")) (reopened_in net parts.1) _ (IsLineOf net) (reopened_within parts.1)
      (ok_either (bytes_eq parts.0 (codes "dead")) (dead_in net parts.1) (Err Bad) (IsLineOf net) (dead_within parts.1) tt)))

  text_within : (text : List ℕ) → IfOk (text_in net text) (IsLineOf net)
  unfolding text_in
  text_within text =
      ok_either (bytes_eq text (codes "start")) (Ok Start) _ (IsLineOf net) tt
      (ok_either (bytes_eq text (codes "back")) (Ok Back) (worded_in net text) (IsLineOf net) tt (worded_within text))

  spelled_within : (line : List ℕ) → IfOk (spelled_in net line) (IsLineOf net)
  unfolding spelled_in
  spelled_within line = ok_either (is_utf8 line) (text_in net line) (Err Bad) (IsLineOf net) (text_within line) tt

  line_within : (line : List ℕ) → IfOk (line_in net line) (IsLineOf net)
  line_within line =
      ok_either (nat_lt 262144 (length line)) (Err Bad) _ (IsLineOf net) tt
      (ok_either (is_comment line) (Ok Comment) (spelled_in net line) (IsLineOf net) tt (spelled_within line))

  more_calls : (r : Result ServeLine LineFault) (calls : List Call) → IfOk r (IsLineOf net) → AllByRecursion (IsCall net) calls → AllByRecursion (IsCall net) (cons_option (call_read r) calls)
  more_calls (Ok Comment) calls within all = all
  more_calls (Ok Start) calls within all = (tt, all)
  more_calls (Ok Back) calls within all = (tt, all)
  more_calls (Ok (Reopen s)) calls within all = (within, all)
  more_calls (Ok (Feed s bytes)) calls within all = (within, all)
  more_calls (Ok (Dead s)) calls within all = (within, all)
  more_calls (Err bad) calls within all = all

  pub calls_within : (lines : List (List ℕ)) → AllByRecursion (IsCall net) (calls_in net lines)
  calls_within [] = tt
  calls_within (line ∷ lines) = more_calls (line_in net line) (calls_in net lines) (line_within line) (calls_within lines)
