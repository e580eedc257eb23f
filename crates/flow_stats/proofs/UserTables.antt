-- Tables that flow statistics tell are a user configuration.
use Rattle.std.proofs.Common.{◌≡◌, ℕ, suc, ◌+◌, ◌^◌, ◌<◌, true, false, cond, Result, Ok, Err, List, [], ◌∷◌, ◌++◌, length, set, get_or, refl, sym, ◌∙◌, ap, subst, arith}
use Rattle.std.specs.Prelude.{Option, Some, None, not, nat_lt, nat_le, ◌&&◌, IfOk, option_map}
use Rattle.std.specs.List.{list_any, AllByRecursion}
use Rattle.std.specs.Result.{result_ok}
use Rattle.std.proofs.lemmas.Bool.{and_parts, leb-true, ltb-true, not-true}
use Rattle.std.proofs.lemmas.List.{length-set, length_push}
use Rattle.std.specs.Str.{is_utf8}
use Rattle.std.proofs.lemmas.List.Sums.{sum_by-set}
use Rattle.hex.specs.Hex.{decode_of}
use Rattle.hex.proofs.HexLemmas.{decode_of-ok}
use Rattle.net_base.specs.Reading.{◌>>=◌, check, in_turn, place_of, Gives}
use Rattle.net_base.specs.Text.{cut_first}
use Rattle.net_base.specs.declared.ids.SwitchId.{SwitchId}
use Rattle.net_base.proofs.Turns.{bind_ok, ok_is, in_turn-keeps}
use Rattle.net_base.specs.Lines.{lines_of, is_comment}
use Rattle.topology.specs.Networks.{Network, switch_count, switch_named}
use Rattle.topology.proofs.NamedLaws.{named_within}
use Rattle.flow_rules.specs.Patterns.{key_eq}
use Rattle.flow_rules.specs.Overlaps.{keys_clash}
use Rattle.flow_rules.specs.Tables.{TableState, rules_at, rules_of_all}
use Rattle.flow_rules.specs.declared.rules.Rule.{Rule}
use Rattle.path_walk.specs.UserConfigs.{IsUserRule, IsUserConfig}
use Rattle.openflow10.proofs.NumberLaws.{IsBytes, number_at-lt}
use Rattle.config_files.specs.Configuration.{over_capacity}
use Rattle.config_files.proofs.Steps.{need_passed, check_passed}
use Rattle.config_files.proofs.TableUpdates.{each_after}
use Rattle.config_files.proofs.UserTables.{IsUserTable, AreUserTables, user_push, no_rules, fits}
use Rattle.flow_stats.specs.Entries.{Fill, entries_in}
use Rattle.flow_stats.specs.Messages.{Reply, is_flow_reply, reply_in, progress_of}
use Rattle.flow_stats.specs.Layout.{stats_reply_at}
use Rattle.text_lines.specs.Words.{bytes_in}
use Rattle.flow_stats.specs.Lines.{Sent, text_in, sent_in}
use Rattle.flow_stats.specs.Profile.{rule_in}
use Rattle.flow_stats.specs.Tables as step
use Rattle.flow_stats.specs.Tables.{rules_with, with_rule}
use Rattle.flow_stats.specs.Replies.{StatsView, nothing_told, with_reply, reply_at, message_at, line_at, told_in, is_whole, incomplete, no_switch, replies_in}
use Rattle.flow_stats.specs.declared.entries.Entry.{Entry}
use Rattle.flow_stats.specs.declared.fault.StatsFault.{StatsFault}
use Rattle.flow_stats.specs.declared.fault.StatsFault.TheVariants.{Memory, BadLine, BadMessage, KeyTwice, Overlap, TooMany, Incomplete, OverCapacity}
use Rattle.flow_stats.proofs.EntryLaws.{fill_law}
use Rattle.flow_stats.proofs.UserRules.{rule_shown}

-- ---- one rule more in a table

with_new : (net : Network) (place : ℕ) (s : ℕ) (rules new : List Rule) (r : Rule) → IsUserTable net s rules → IsUserRule net (record { 0 = s }) r → rules_with place rules r ≡ Ok new
    → IsUserTable net s new × (length new ≡ suc (length rules))
unfolding rules_with
with_new net place s rules new r table user e =
    let more : List Rule = rules ++ r ∷ [] in
    let (fresh, e1) = check_passed (not (list_any (λ q. key_eq q.key r.key) rules)) (KeyTwice place) (check (not (list_any (λ q. keys_clash q.key r.key) rules)) (Overlap place) >>= λ _. Ok more) new e in
    let (apart, e2) = check_passed (not (list_any (λ q. keys_clash q.key r.key) rules)) (Overlap place) (Ok more) new e1 in
    let longer = length_push rules r in
    subst (λ (x : List Rule). IsUserTable net s x × (length x ≡ suc (length rules))) (ok_is more new e2)
    (user_push net s rules r table user (not-true _ fresh) (not-true _ apart), omega arith)

-- ---- one entry more

-- its destination is a number of 32 bits
abbrev IsBounded : Entry → Type 0
IsBounded e = e.fields.pattern.nw_dst < 2 ^ 32

module _ (net : Network) where
  entry_kept : (s : SwitchId) (n : ℕ) (tables more : List (List Rule)) (x : Entry) → s.0 < switch_count net → IsBounded x → AreUserTables net n tables → step.entry_at net s (place_of n) tables x ≡ Ok more
      → AreUserTables net (suc n) more
  unfolding step.entry_at with_rule
  entry_kept s n tables more x known bounded user e =
      let place = place_of n in
      let (few, e1) = check_passed (nat_lt place 2048) TooMany (rule_in net place s x >>= λ rule. with_rule place tables s rule) more e in
      let below = ltb-true place 2048 few in
      let (rule, read, e2) = bind_ok (rule_in net place s x) (λ rule. with_rule place tables s rule) more e1 in
      let (rules, added, e3) = bind_ok (rules_with place (rules_at tables s) rule) (λ rules. Ok (set tables s.0 rules)) more e2 in
      let (table, longer) = with_new net place s.0 (get_or tables s.0 []) rules rule (user.each s.0) (rule_shown net place s x rule bounded read) added in
      let within : s.0 < length tables = subst (λ (k : ℕ). s.0 < k) (sym user.count) known in
      let sums = sum_by-set length tables s.0 rules [] within in
      let counted = user.sum in
      let before = user.few in
      subst (AreUserTables net (suc n)) {x = set tables s.0 rules} (ok_is (set tables s.0 rules) more e3) (record {
        count = length-set tables s.0 rules ∙ user.count;
        sum = omega arith;
        few = omega arith;
        each = each_after (IsUserTable net) tables s.0 rules table user.each;
      })

  entries_kept : (s : SwitchId) (n : ℕ) (tables more : List (List Rule)) (xs : List Entry) → s.0 < switch_count net → AllByRecursion IsBounded xs → AreUserTables net n tables
      → in_turn (step.entry_at net s) n tables xs ≡ Ok more → AreUserTables net (n + length xs) more
  unfolding in_turn
  entries_kept s n tables more [] known bounded user e =
      let same : n ≡ n + 0 = omega arith in
      subst (λ (k : ℕ). AreUserTables net k more) same (subst (AreUserTables net n) (ok_is tables more e) user)
  entries_kept s n tables more (x ∷ xs) known bounded user e =
      let (next, here, rest) = bind_ok (step.entry_at net s (place_of n) tables x) (λ t. in_turn (step.entry_at net s) (suc n) t xs) more e in
      let kept = entries_kept s (suc n) next more xs known bounded.1 (entry_kept s n tables next x known bounded.0 user here) rest in
      let same : suc n + length xs ≡ n + suc (length xs) = omega arith in
      subst (λ (k : ℕ). AreUserTables net k more) same kept

  -- ---- one line more

  fill_bounded : (bytes : List ℕ) (at : ℕ) (xs : List Entry) → IsBytes bytes → Fill at bytes xs → AllByRecursion IsBounded xs
  fill_bounded bytes at [] h fill = tt
  fill_bounded bytes at (x ∷ xs) h fill =
      (subst IsBounded (sym fill.1) (number_at-lt (at + 4 + 32) 4 bytes h), fill_bounded bytes (at + x.fields.len) xs h fill.2)

  -- the reply with these entries
  abbrev replied : List ℕ → List Entry → Reply
  replied bytes xs = record { progress = progress_of (stats_reply_at bytes).flags; entries = xs }

  mapped_some : {A B : Type 0} (f : A → B) (o : Option A) (y : B) → option_map f o ≡ Some y → (x : A) × (o ≡ Some x) × (f x ≡ y)
  mapped_some f None y e = absurd cc
  mapped_some f (Some x) y e = (x, refl, cc)

  reply_bounded : (bytes : List ℕ) (reply : Reply) → IsBytes bytes → reply_in bytes ≡ Some reply → AllByRecursion IsBounded reply.entries
  unfolding reply_in
  reply_bounded bytes reply h e =
      elim (nat_le 12 (length bytes) && is_flow_reply (stats_reply_at bytes) (length bytes)) as (λ b. (nat_le 12 (length bytes) && is_flow_reply (stats_reply_at bytes) (length bytes)) ≡ b
      → cond b (option_map (replied bytes) (entries_in bytes)) None ≡ Some reply → AllByRecursion IsBounded reply.entries) [
        | true ↦ λ t f. (
            let room = leb-true 12 (length bytes) (and_parts (nat_le 12 (length bytes)) (is_flow_reply (stats_reply_at bytes) (length bytes)) t).0 in
            let (xs, read, is) = mapped_some (replied bytes) (entries_in bytes) reply f in
            subst (λ (r : Reply). AllByRecursion IsBounded r.entries) is (fill_bounded bytes 12 xs h ((fill_law bytes xs room).0 read)))
        | false ↦ λ t f. absurd (let g : None ≡ Some reply = f in cc)
      ] refl e

  with_reply_kept : (s : SwitchId) (before after : StatsView) (reply : Reply) → s.0 < switch_count net → AllByRecursion IsBounded reply.entries → AreUserTables net before.entries before.tables
      → with_reply net s before reply ≡ Ok after → AreUserTables net after.entries after.tables
  unfolding with_reply
  with_reply_kept s before after reply known bounded user e =
      let (tables, read, e1) = bind_ok (in_turn (step.entry_at net s) before.entries before.tables reply.entries)
      (λ tables. let t : StatsView = record { tables = tables; progress = set before.progress s.0 reply.progress; entries = before.entries + length reply.entries } in Ok t) after e in
      subst (λ (t : StatsView). AreUserTables net t.entries t.tables) (ok_is _ after e1) (entries_kept s before.entries before.tables tables reply.entries known bounded user read)

  reply_kept : (number : ℕ) (before after : StatsView) (sent : Sent) → sent.switch.0 < switch_count net → IsBytes sent.bytes → AreUserTables net before.entries before.tables
      → reply_at net number before sent ≡ Ok after → AreUserTables net after.entries after.tables
  unfolding reply_at
  reply_kept number before after sent known h user e =
      let (reply, there, e1) = need_passed (reply_in sent.bytes) (BadMessage number) (λ reply. check (not (is_whole before.progress sent.switch)) (BadMessage number) >>= λ _. with_reply net sent.switch before reply) after e in
      let (begun, e2) = check_passed (not (is_whole before.progress sent.switch)) (BadMessage number) (with_reply net sent.switch before reply) after e1 in
      with_reply_kept sent.switch before after reply known (reply_bounded sent.bytes reply h there) user e2

  ok_some : {A E : Type 0} (r : Result A E) (x : A) → result_ok r ≡ Some x → r ≡ Ok x
  ok_some (Ok y) x e = let f : y ≡ x = let g : Some y ≡ Some x = e in cc in ap (λ z. Ok z) f
  ok_some (Err f) x e = absurd cc

  bytes_bounded : (digits bytes : List ℕ) → bytes_in digits ≡ Some bytes → IsBytes bytes
  bytes_bounded [] bytes e = absurd (let f : None ≡ Some bytes = e in cc)
  bytes_bounded (d ∷ ds) bytes e = record { below = (decode_of-ok (d ∷ ds) bytes (ok_some (decode_of (d ∷ ds)) bytes e)).3 }

  text_shown : (number : ℕ) (text : List ℕ) (sent : Sent) → text_in net number text ≡ Ok sent → (sent.switch.0 < switch_count net) × IsBytes sent.bytes
  unfolding text_in
  text_shown number text sent e =
      let (parts, cut, e1) = need_passed (cut_first 32 text) (BadLine number) _ sent e in
      let (k, named, e2) = need_passed (switch_named net.names parts.0) (BadLine number) _ sent e1 in
      let (bytes, there, e3) = need_passed (bytes_in parts.1) (BadLine number) (λ (bytes : List ℕ). let t : Sent = record { switch = record { 0 = k }; bytes = bytes } in Ok t) sent e2 in
      subst (λ (t : Sent). (t.switch.0 < switch_count net) × IsBytes t.bytes) (ok_is _ sent e3) (named_within net.names parts.0 k named, bytes_bounded parts.1 bytes there)

  sent_shown : (number : ℕ) (line : List ℕ) (sent : Sent) → sent_in net number line ≡ Ok sent → (sent.switch.0 < switch_count net) × IsBytes sent.bytes
  sent_shown number line sent e =
      elim (is_utf8 line) as (λ b. cond b (text_in net number line) (Err (BadLine number)) ≡ Ok sent → (sent.switch.0 < switch_count net) × IsBytes sent.bytes) [
        | true ↦ λ f. text_shown number line sent f
        | false ↦ λ f. absurd (let g : Err (BadLine number) ≡ Ok sent = f in cc)
      ] e

  message_kept : (number : ℕ) (before after : StatsView) (line : List ℕ) → AreUserTables net before.entries before.tables → message_at net number before line ≡ Ok after → AreUserTables net after.entries after.tables
  unfolding message_at
  message_kept number before after line user e =
      let (sent, read, e1) = bind_ok (sent_in net number line) (λ sent. reply_at net number before sent) after e in
      let (known, h) = sent_shown number line sent read in
      reply_kept number before after sent known h user e1

  line_kept : (number : ℕ) (before after : StatsView) (line : List ℕ) → AreUserTables net before.entries before.tables → line_at net number before line ≡ Ok after → AreUserTables net after.entries after.tables
  line_kept number before after line user e =
      elim (is_comment line) as (λ b. cond b (Ok before) (message_at net number before line) ≡ Ok after → AreUserTables net after.entries after.tables) [
        | true ↦ λ f. subst (λ (t : StatsView). AreUserTables net t.entries t.tables) (ok_is before after f) user
        | false ↦ λ f. message_kept number before after line user f
      ] e

  -- ---- the file

  no_switch_passed : {A : Type 0} (o : Option ℕ) (fault : SwitchId → StatsFault) (r : Result A StatsFault) (y : A) → (no_switch o fault >>= λ _. r) ≡ Ok y → (o ≡ None) × (r ≡ Ok y)
  no_switch_passed None fault r y e = (refl, e)
  no_switch_passed (Some s) fault r y e = absurd cc

  pub replies_shown : (bytes : List ℕ) (tables : List (List Rule)) → replies_in net bytes ≡ Ok tables → IsUserConfig net tables
  unfolding replies_in
  replies_shown bytes tables e =
      let (told, read, e1) = bind_ok (told_in net bytes) (λ told. no_switch (incomplete net told.progress) Incomplete >>= λ _. no_switch (over_capacity net told.tables) OverCapacity >>= λ _. Ok told.tables) tables e in
      let (whole, e2) = no_switch_passed (incomplete net told.progress) Incomplete (no_switch (over_capacity net told.tables) OverCapacity >>= λ _. Ok told.tables) tables e1 in
      let (within, e3) = no_switch_passed (over_capacity net told.tables) OverCapacity (Ok told.tables) tables e2 in
      let user = in_turn-keeps (line_at net) (λ (t : StatsView). AreUserTables net t.entries t.tables) (λ n before after line. line_kept n before after line) 1 (nothing_told net) told (lines_of bytes) (no_rules net) read in
      let sum = user.sum in
      let few = user.few in
      subst (IsUserConfig net) (ok_is told.tables tables e3) (record {
        count = user.count;
        few = omega arith;
        distinct = λ s. (user.each s.0).distinct;
        clear = λ s. (user.each s.0).clear;
        fits = fits net told.tables within;
        rules = λ s. (user.each s.0).rules;
      })

-- what the reader returned is one
pub read_shown : (net : Network) (bytes : List ℕ) (r : Result (List TableState) StatsFault) → Gives Memory rules_of_all r (replies_in net bytes) → IfOk r (λ c. IsUserConfig net (rules_of_all c))
read_shown net bytes (Ok c) h = replies_shown net bytes (rules_of_all c) h
read_shown net bytes (Err e) h = tt
