-- What the tests let through is the wire text of the message that it names, and the wire text of a message passes the tests.
use Rattle.std.proofs.Common.{◌≡◌, ℕ, ◌+◌, ◌-◌, ◌*◌, ◌/◌, ◌^◌, ◌<◌, ◌≤◌, Bool, true, false, List, [], ◌∷◌, ◌++◌, length, take, drop, refl, sym, ap, subst, ◌∙◌, inl, inr, arith}
use Rattle.std.specs.Prelude.{◌==◌, ◌||◌, ◌&&◌, is_none, is_some, Option, Some, None}
use Rattle.std.proofs.lemmas.Bool.{eqb-true, eq-eqb, leb-true, le-leb, or_cases, and_parts}
use Rattle.std.proofs.lemmas.List.{take-append-drop, take_at, length-take}
use Rattle.update_model.specs.Ranges.{IsPlanPort, IsPlanVlan}
use Rattle.flow_rules.specs.declared.rules.VlanTest.{VlanTest}
use Rattle.flow_rules.specs.declared.rules.VlanTest.TheVariants as test
use Rattle.flow_rules.specs.declared.rules.Key.{Key}
use Rattle.net_base.specs.declared.ids.Port.{Port}
use Rattle.flow_rules.specs.declared.rules.Rewrite.TheVariants.{Keep, Set, Strip}
use Rattle.flow_rules.specs.declared.rules.Action.TheVariants.{Discard, Out}
use Rattle.openflow10.specs.Layout.{text_of, Spans, Holds, number_at}
use Rattle.openflow10.specs.Match.{match_at, wildcards_of, in_port_of, dl_vlan_of, is_any}
use Rattle.openflow10.specs.FlowMod.{flow_mod_table, flow_mod_at, flow_mod_of, command_of, key_in}
use Rattle.openflow10.specs.Actions.{actions_table, actions_at, actions_in, verb_actions, verb_in}
use Rattle.openflow10.specs.Messages.{type_of, xid_of, length_of, header_table, body_table, message_table, wire_text, IsVerb, IsFlowMod, IsMessage, BeginsWith}
use Rattle.openflow10.specs.Reading.{Names, NamesFlow}
use Rattle.openflow10.specs.Refusals.{first_failed, match_tests, command_tests, flow_tests, header_tests, body_tests, refusal_of, is_type, is_length, has_command, has_timeouts, profile}
use Rattle.openflow10.specs.declared.WireField.TheVariants as field
use Rattle.openflow10.specs.declared.ofp_flow_mod.FlowModFields.{FlowModFields}
use Rattle.openflow10.specs.declared.ofp_action.ActionFields.{ActionFields}
use Rattle.openflow10.specs.declared.Verb.{Verb}
use Rattle.openflow10.specs.declared.Verb.TheVariants.{Add, Modify, Remove}
use Rattle.openflow10.specs.declared.FlowMod.{FlowMod}
use Rattle.openflow10.specs.declared.Message.{Message}
use Rattle.openflow10.specs.declared.Message.TheVariants.{Flow, BarrierRequest, BarrierReply}
use Rattle.openflow10.proofs.NumberLaws.{IsBytes, number_at-lt}
use Rattle.openflow10.proofs.TableLaws.{Fit, length-text_of, text-holds, holds-text, Spans-append, Holds-append, Holds-split, Fit-append}
use Rattle.openflow10.proofs.TestLaws.{all_pass, none_fails, first_failed-none, first_failed-split}
use Rattle.openflow10.proofs.MatchLaws.{IsWritten, IsNamed, same_match, match_passes, match_of-pattern_in, port_in-range, vlan_in-range, prefix_in-range, match_of-passes, pattern_in-match_of}
use Rattle.openflow10.proofs.ActionLaws.{some_is, verb_in-some, verb_in-again, actions_table-spans, length-actions_at, actions_at-holds, actions_at-held, verb_actions-fit, few_actions}

-- ---- the tables

header-spans : (m : Message) → Spans 0 (header_table m) 8
header-spans m = (refl, (refl, (refl, (refl, refl))))

flow_mod-spans : (f : FlowModFields) → Spans 8 (flow_mod_table f) 72
flow_mod-spans f =
    (refl, (refl, (refl, (refl, (refl, (refl, (refl, (refl, (refl, (refl, (refl, (refl, (refl, (refl, (refl, (refl, (refl, (refl, (refl, (refl, (refl, (refl, (refl, refl)))))))))))))))))))))))

body-spans : (m : Message) → Spans 8 (body_table m) (length_of m)
body-spans (Flow m) = Spans-append (flow_mod_table (flow_mod_of m.verb m.key)) (actions_table 72 (verb_actions m.verb)) 8 72 (72 + 8 * length (verb_actions m.verb)) (flow_mod-spans (flow_mod_of m.verb m.key)) (actions_table-spans (verb_actions m.verb) 72)
body-spans (BarrierRequest xid) = refl
body-spans (BarrierReply xid) = refl

pub message-spans : (m : Message) → Spans 0 (message_table m) (length_of m)
message-spans m = Spans-append (header_table m) (body_table m) 0 8 (length_of m) (header-spans m) (body-spans m)

pub length-wire_text : (m : Message) → length (wire_text m) ≡ length_of m
unfolding wire_text
length-wire_text m = let e = length-text_of 0 (message_table m) (length_of m) (message-spans m) in omega arith

type-fit : (m : Message) → type_of m < 256 ^ 1
type-fit (Flow m) = omega arith
type-fit (BarrierRequest xid) = omega arith
type-fit (BarrierReply xid) = omega arith

length-fit : (m : Message) → length_of m < 256 ^ 2
length-fit (Flow m) = omega (arith, few_actions m.verb)
length-fit (BarrierRequest xid) = omega arith
length-fit (BarrierReply xid) = omega arith

xid-fit : (m : Message) → IsMessage m → xid_of m < 256 ^ 4
xid-fit (Flow m) h = omega (arith, h.xid)
xid-fit (BarrierRequest xid) h = omega arith
xid-fit (BarrierReply xid) h = omega arith

header-fit : (m : Message) → IsMessage m → Fit (header_table m)
header-fit m h = (omega arith, (type-fit m, (length-fit m, (xid-fit m h, tt))))

wildcards-fit : (a b : Bool) (i : ℕ) → i ≤ 32 → wildcards_of a b i < 256 ^ 4
unfolding wildcards_of
wildcards-fit true true i h = omega arith
wildcards-fit true false i h = omega arith
wildcards-fit false true i h = omega arith
wildcards-fit false false i h = omega arith

in_port-fit : (o : Option Port) → IsPlanPort o → in_port_of o < 256 ^ 2
in_port-fit None h = omega arith
in_port-fit (Some p) h = omega (arith, h.1)

dl_vlan-fit : (v : VlanTest) → IsPlanVlan v → dl_vlan_of v < 256 ^ 2
dl_vlan-fit test.Any h = omega arith
dl_vlan-fit test.Untagged h = omega arith
dl_vlan-fit (test.Id id) h = omega (arith, h.1)

command-fit : (v : Verb) → command_of v < 256 ^ 2
command-fit (Add x) = omega arith
command-fit (Modify x) = omega arith
command-fit Remove = omega arith

flow_mod-fit : (m : FlowMod) → IsFlowMod m → Fit (flow_mod_table (flow_mod_of m.verb m.key))
flow_mod-fit m h =
    let p = m.key.pattern in
    let wildcards = wildcards-fit (is_none p.in_port) (is_any p.vlan) (32 - p.dst.len) (omega arith) in
    let dst : p.dst.base < 256 ^ 4 = omega (arith, h.dst.base) in
    let priority : m.key.priority < 256 ^ 2 = omega (arith, h.priority_most) in (
      wildcards,
      (
        in_port-fit p.in_port h.port,
        (
          omega arith,
          (
            omega arith,
            (
              dl_vlan-fit p.vlan h.vlan,
              (
                omega arith,
                (
                  omega arith,
                  (
                    omega arith,
                    (
                      omega arith,
                      (
                        omega arith,
                        (
                          omega arith,
                          (
                            omega arith,
                            (dst, (omega arith, (omega arith, (omega arith, (command-fit m.verb, (omega arith, (omega arith, (priority, (omega arith, (omega arith, (omega arith, tt))))))))))),
                          ),
                        ),
                      ),
                    ),
                  ),
                ),
              ),
            ),
          ),
        ),
      ),
    )

body-fit : (m : Message) → IsMessage m → Fit (body_table m)
body-fit (Flow m) h = Fit-append (flow_mod_table (flow_mod_of m.verb m.key)) (actions_table 72 (verb_actions m.verb)) (flow_mod-fit m h) (verb_actions-fit m.verb h.verb)
body-fit (BarrierRequest xid) h = tt
body-fit (BarrierReply xid) h = tt

message-fit : (m : Message) → IsMessage m → Fit (message_table m)
message-fit m h = Fit-append (header_table m) (body_table m) (header-fit m h) (body-fit m h)

-- ---- a text is read as its message

pub begins : (m : Message) (rest : List ℕ) → IsMessage m → BeginsWith (wire_text m ++ rest) m (length_of m)
begins m rest h = record {
  in_range = h;
  count = sym (length-wire_text m);
  text = take_at (wire_text m) rest (length_of m) (length-wire_text m);
}

-- each field has its value at its offset
pub text-held : (m : Message) (rest : List ℕ) → IsMessage m → Holds (wire_text m ++ rest) (message_table m)
unfolding wire_text
text-held m rest h = text-holds (message_table m) [] rest (length_of m) (message-spans m) (message-fit m h)

-- the bytes have the values of all fields, and there are enough
record IsFront (bytes : List ℕ) (m : Message) : Type 0 where
  room : length_of m ≤ length bytes
  version : number_at 0 1 bytes ≡ 1
  type : number_at 1 1 bytes ≡ type_of m
  size : number_at 2 2 bytes ≡ length_of m
  xid : number_at 4 4 bytes ≡ xid_of m
  body : Holds bytes (body_table m)

fronts : (bytes : List ℕ) (m : Message) (n : ℕ) → BeginsWith bytes m n → IsFront bytes m
unfolding wire_text
fronts bytes m n h =
    let whole : bytes ≡ text_of (message_table m) ++ drop n bytes = sym (take-append-drop n bytes) ∙ ap (λ (t : List ℕ). t ++ drop n bytes) h.text in
    let holds : Holds (text_of (message_table m) ++ drop n bytes) (message_table m) = text-holds (message_table m) [] (drop n bytes) (length_of m) (message-spans m) (message-fit m h.in_range) in
    let held : Holds bytes (message_table m) = subst (λ (t : List ℕ). Holds t (message_table m)) (sym whole) holds in
    let parts = Holds-split (header_table m) (body_table m) bytes held in
    let taken : length (take n bytes) ≡ length (text_of (message_table m)) = ap length h.text in
    let size = length-wire_text m in
    let counted = h.count in
    record {
      room = omega (arith, length-take n bytes);
      version = parts.0.0;
      type = parts.0.1.0;
      size = parts.0.1.1.0;
      xid = parts.0.1.1.1.0;
      body = parts.1;
    }

-- equal fields make equal structs
same_flow_mod : (f g : FlowModFields) → f.pattern ≡ g.pattern → f.cookie ≡ g.cookie → f.command ≡ g.command → f.idle_timeout ≡ g.idle_timeout
    → f.hard_timeout ≡ g.hard_timeout → f.priority ≡ g.priority → f.buffer_id ≡ g.buffer_id → f.out_port ≡ g.out_port → f.flags ≡ g.flags → f ≡ g
same_flow_mod f g e1 e2 e3 e4 e5 e6 e7 e8 e9 = λ i. record {
  pattern = e1 i;
  cookie = e2 i;
  command = e3 i;
  idle_timeout = e4 i;
  hard_timeout = e5 i;
  priority = e6 i;
  buffer_id = e7 i;
  out_port = e8 i;
  flags = e9 i;
}

match_held : (f : FlowModFields) (bytes : List ℕ) → Holds bytes (flow_mod_table f) → match_at 8 bytes ≡ f.pattern
match_held f bytes h =
    let (e1, (e2, (e3, (e4, (e5, (e6, (e7, (e8, (e9, (e10, (e11, (e12, (e13, (e14, (e15, _))))))))))))))) = h in
    same_match (match_at 8 bytes) f.pattern e1 e2 e3 e4 e5 e6 e7 e8 e9 e10 e11 e12 e13 e14 e15

flow_mod_held : (f : FlowModFields) (bytes : List ℕ) → Holds bytes (flow_mod_table f) → flow_mod_at bytes ≡ f
flow_mod_held f bytes h =
    let (_, (_, (_, (_, (_, (_, (_, (_, (_, (_, (_, (_, (_, (_, (_, (e1, (e2, (e3, (e4, (e5, (e6, (e7, (e8, _))))))))))))))))))))))) = h in
    same_flow_mod (flow_mod_at bytes) f (match_held f bytes h) e1 e2 e3 e4 e5 e6 e7 e8

count_back : (n : ℕ) → (72 + 8 * n - 72) / 8 ≡ n
count_back n = omega arith

actions_held : (bytes : List ℕ) (actions : List ActionFields) → number_at 2 2 bytes ≡ 72 + 8 * length actions → Holds bytes (actions_table 72 actions) → actions_in bytes ≡ actions
actions_held bytes actions size h =
    let count : (number_at 2 2 bytes - 72) / 8 ≡ length actions = ap (λ (n : ℕ). (n - 72) / 8) size ∙ count_back (length actions) in
    ap (λ (n : ℕ). actions_at n 72 bytes) count ∙ actions_at-held actions 72 bytes h

is_type-type_of : (m : Message) → is_type (type_of m) ≡ true
unfolding is_type
is_type-type_of (Flow m) = refl
is_type-type_of (BarrierRequest xid) = refl
is_type-type_of (BarrierReply xid) = refl

flow_length : (v : Verb) → is_length 14 (72 + 8 * length (verb_actions v)) ≡ true
unfolding is_length
flow_length (Add Discard) = refl
flow_length (Add (Out p Keep)) = refl
flow_length (Add (Out p (Set id))) = refl
flow_length (Add (Out p Strip)) = refl
flow_length (Modify Discard) = refl
flow_length (Modify (Out p Keep)) = refl
flow_length (Modify (Out p (Set id))) = refl
flow_length (Modify (Out p Strip)) = refl
flow_length Remove = refl

barrier_length : is_length 18 8 ≡ true
unfolding is_length
barrier_length = refl

reply_length : is_length 19 8 ≡ true
unfolding is_length
reply_length = refl

is_length-length_of : (m : Message) → is_length (type_of m) (length_of m) ≡ true
is_length-length_of (Flow m) = flow_length m.verb
is_length-length_of (BarrierRequest xid) = barrier_length
is_length-length_of (BarrierReply xid) = reply_length

header_room : (m : Message) → 8 ≤ length_of m
header_room (Flow m) = omega arith
header_room (BarrierRequest xid) = omega arith
header_room (BarrierReply xid) = omega arith

header_passes : (bytes : List ℕ) (m : Message) → IsFront bytes m → first_failed (header_tests bytes) ≡ None
header_passes bytes m h =
    let least = header_room m in
    let room = h.room in
    let size = h.size in
    none_fails (header_tests bytes) (
      le-leb 8 (length bytes) (omega arith),
      (
        eq-eqb (number_at 0 1 bytes) 1 h.version,
        (
          ap is_type h.type ∙ is_type-type_of m,
          (
            ap (λ (t : ℕ). is_length t (number_at 2 2 bytes)) h.type ∙ ap (is_length (type_of m)) h.size ∙ is_length-length_of m,
            (le-leb (number_at 2 2 bytes) (length bytes) (omega arith), tt),
          ),
        ),
      ),
    )

command_known : (v : Verb) (key : Key) → has_command (flow_mod_of v key) ≡ true
unfolding has_command
command_known (Add x) key = refl
command_known (Modify x) key = refl
command_known Remove key = refl

no_timeouts : (v : Verb) (key : Key) → has_timeouts (flow_mod_of v key) ≡ true
unfolding has_timeouts
no_timeouts v key = refl

command_passes : (m : FlowMod) → IsFlowMod m → first_failed (command_tests (flow_mod_of m.verb m.key)) ≡ None
command_passes m h =
    none_fails (command_tests (flow_mod_of m.verb m.key)) (refl, (command_known m.verb m.key, (no_timeouts m.verb m.key, (le-leb 1 m.key.priority h.priority, (refl, (refl, (refl, tt)))))))

named : (m : FlowMod) → IsFlowMod m → IsNamed m.key.pattern
named m h = record { port = h.port; vlan = h.vlan; dst = h.dst }

flow_passes : (m : FlowMod) → IsFlowMod m → first_failed (flow_tests (flow_mod_of m.verb m.key) (verb_actions m.verb)) ≡ None
flow_passes m h =
    let f = flow_mod_of m.verb m.key in
    let last = profile field.Actions (is_some (verb_in f.command (verb_actions m.verb))) ∷ [] in
    let verb : is_some (verb_in f.command (verb_actions m.verb)) ≡ true = ap is_some (verb_in-again m.verb h.verb) in
    first_failed-none (match_tests f.pattern) (command_tests f ++ last) (match_of-passes m.key.pattern (named m h))
    ∙ first_failed-none (command_tests f) last (command_passes m h)
    ∙ none_fails last (verb, tt)

-- what the fields of a flow message are, where its values stand
record IsFlowFront (bytes : List ℕ) (m : FlowMod) : Type 0 where
  fields : flow_mod_at bytes ≡ flow_mod_of m.verb m.key
  actions : actions_in bytes ≡ verb_actions m.verb

flow_fronts : (bytes : List ℕ) (m : FlowMod) → IsFront bytes (Flow m) → IsFlowFront bytes m
flow_fronts bytes m h =
    let parts = Holds-split (flow_mod_table (flow_mod_of m.verb m.key)) (actions_table 72 (verb_actions m.verb)) bytes h.body in
    record {
      fields = flow_mod_held (flow_mod_of m.verb m.key) bytes parts.0;
      actions = actions_held bytes (verb_actions m.verb) h.size parts.1;
    }

pub barrier_skips : (bytes : List ℕ) (type : ℕ) → number_at 1 1 bytes ≡ type → (type == 14) ≡ false → first_failed (body_tests bytes) ≡ None
barrier_skips bytes type e other = rw (e, other) refl

body_passes : (bytes : List ℕ) (m : Message) → IsMessage m → IsFront bytes m → first_failed (body_tests bytes) ≡ None
body_passes bytes (Flow m) range h =
    let f = flow_fronts bytes m h in
    let type = h.type in
    rw type (
    ap (λ (x : FlowModFields). first_failed (flow_tests x (actions_in bytes))) f.fields
    ∙ ap (λ (l : List ActionFields). first_failed (flow_tests (flow_mod_of m.verb m.key) l)) f.actions
    ∙ flow_passes m range
    )
body_passes bytes (BarrierRequest xid) range h = barrier_skips bytes 18 h.type refl
body_passes bytes (BarrierReply xid) range h = barrier_skips bytes 19 h.type refl

-- nothing refuses the wire text of a message
pub none_refuses : (bytes : List ℕ) (m : Message) (n : ℕ) → BeginsWith bytes m n → refusal_of bytes ≡ None
unfolding refusal_of
none_refuses bytes m n h =
    let front = fronts bytes m n h in
    first_failed-none (header_tests bytes) (body_tests bytes) (header_passes bytes m front) ∙ body_passes bytes m h.in_range front

flow_names : (bytes : List ℕ) (m : FlowMod) → IsFlowMod m → IsFront bytes (Flow m) → NamesFlow bytes m
flow_names bytes m range h =
    let f = flow_fronts bytes m h in
    let key : key_in (flow_mod_of m.verb m.key) ≡ m.key =
    ap (λ p. let k : Key = record { priority = m.key.priority; pattern = p } in k) (pattern_in-match_of m.key.pattern (named m range)) in
    record {
      key = sym key ∙ ap key_in (sym f.fields);
      verb = ap (λ (x : FlowModFields). verb_in x.command (actions_in bytes)) f.fields
          ∙ ap (λ (l : List ActionFields). verb_in (command_of m.verb) l) f.actions
          ∙ verb_in-again m.verb range.verb;
    }

-- the wire text of a message names it
pub text_names : (bytes : List ℕ) (m : Message) (n : ℕ) → BeginsWith bytes m n → Names bytes m
text_names bytes (Flow m) n h =
    let front = fronts bytes (Flow m) n h in
    record { type = front.type; xid = front.xid; body = flow_names bytes m h.in_range front }
text_names bytes (BarrierRequest xid) n h =
    let front = fronts bytes (BarrierRequest xid) n h in
    record { type = front.type; xid = front.xid; body = tt }
text_names bytes (BarrierReply xid) n h =
    let front = fronts bytes (BarrierReply xid) n h in
    record { type = front.type; xid = front.xid; body = tt }

pub text_size : (bytes : List ℕ) (m : Message) (n : ℕ) → BeginsWith bytes m n → number_at 2 2 bytes ≡ n
text_size bytes m n h = (fronts bytes m n h).size ∙ sym (h.count ∙ length-wire_text m)

-- bytes name one message
pub one_named : (bytes : List ℕ) (m n : Message) → Names bytes m → Names bytes n → m ≡ n
one_named bytes (Flow m) (Flow n) h k =
    let xid : m.xid ≡ n.xid = sym h.xid ∙ k.xid in
    let verb : m.verb ≡ n.verb = some_is m.verb n.verb (sym h.body.verb ∙ k.body.verb) in
    let key : m.key ≡ n.key = h.body.key ∙ sym k.body.key in
    λ i. Flow (record { xid = xid i; verb = verb i; key = key i })
one_named bytes (BarrierRequest x) (BarrierRequest y) h k = ap BarrierRequest (sym h.xid ∙ k.xid)
one_named bytes (BarrierReply x) (BarrierReply y) h k = ap BarrierReply (sym h.xid ∙ k.xid)
one_named bytes (Flow m) (BarrierRequest y) h k = absurd (omega (arith, h.type, k.type))
one_named bytes (Flow m) (BarrierReply y) h k = absurd (omega (arith, h.type, k.type))
one_named bytes (BarrierRequest x) (Flow n) h k = absurd (omega (arith, h.type, k.type))
one_named bytes (BarrierRequest x) (BarrierReply y) h k = absurd (omega (arith, h.type, k.type))
one_named bytes (BarrierReply x) (Flow n) h k = absurd (omega (arith, h.type, k.type))
one_named bytes (BarrierReply x) (BarrierRequest y) h k = absurd (omega (arith, h.type, k.type))

-- no text of a message begins that of another
pub one_text : (m n : Message) (xs ys : List ℕ) → IsMessage m → IsMessage n → wire_text m ++ xs ≡ wire_text n ++ ys → m ≡ n
one_text m n xs ys h k e =
    let bytes = wire_text m ++ xs in
    let other : BeginsWith bytes n (length_of n) = subst (λ (t : List ℕ). BeginsWith t n (length_of n)) (sym e) (begins n ys k) in
    one_named bytes m n (text_names bytes m (length_of m) (begins m xs h)) (text_names bytes n (length_of n) other)

-- ---- what the tests let through is a text

flow_mod_holds : (bytes : List ℕ) → Holds bytes (flow_mod_table (flow_mod_at bytes))
flow_mod_holds bytes =
    (refl, (refl, (refl, (refl, (refl, (refl, (refl, (refl, (refl, (refl, (refl, (refl, (refl, (refl, (refl, (refl, (refl, (refl, (refl, (refl, (refl, (refl, (refl, tt)))))))))))))))))))))))

-- the header of bytes whose message has passed
pub record IsHeader (bytes : List ℕ) : Type 0 where
  pub long : 8 ≤ length bytes
  pub version : number_at 0 1 bytes ≡ 1
  pub known : is_type (number_at 1 1 bytes) ≡ true
  pub size : is_length (number_at 1 1 bytes) (number_at 2 2 bytes) ≡ true
  pub room : number_at 2 2 bytes ≤ length bytes

pub header_passed : (bytes : List ℕ) → first_failed (header_tests bytes) ≡ None → IsHeader bytes
header_passed bytes e =
    let (long, (version, (known, (size, (room, _))))) = all_pass (header_tests bytes) e in
    record { long = leb-true 8 (length bytes) long; known = known; version = eqb-true (number_at 0 1 bytes) 1 version; size = size; room = leb-true (number_at 2 2 bytes) (length bytes) room }

-- bytes that hold all fields of a message begin with its text
held_begins : (bytes : List ℕ) (m : Message) → IsBytes bytes → IsMessage m → length_of m ≤ length bytes → Holds bytes (message_table m) → BeginsWith bytes m (length_of m)
unfolding wire_text
held_begins bytes m fits range room h =
    let whole = holds-text (message_table m) 0 (length_of m) bytes fits room (message-spans m) h in
    record {
      in_range = range;
      count = sym (length-wire_text m);
      text = ap (take (length_of m)) whole ∙ take_at (text_of (message_table m)) (drop (length_of m) bytes) (length_of m) (length-wire_text m);
    }

two_sizes : (n : ℕ) → (((n == 72) || (n == 80)) || (n == 88)) ≡ true → n ≡ 72 + 8 * ((n - 72) / 8)
two_sizes n e = elim (or_cases ((n == 72) || (n == 80)) (n == 88) e) [
  | inl front ↦ elim (or_cases (n == 72) (n == 80) front) [ inl x ↦ rw (eqb-true n 72 x) refl | inr x ↦ rw (eqb-true n 80 x) refl ]
  | inr x ↦ rw (eqb-true n 88 x) refl
]

few_actions_in : (n : ℕ) → (((n == 72) || (n == 80)) || (n == 88)) ≡ true → n ≤ 88
few_actions_in n e = elim (or_cases ((n == 72) || (n == 80)) (n == 88) e) [
  | inl front ↦ elim (or_cases (n == 72) (n == 80) front) [ inl x ↦ omega (arith, eqb-true n 72 x) | inr x ↦ omega (arith, eqb-true n 80 x) ]
  | inr x ↦ omega (arith, eqb-true n 88 x)
]

-- a flow message has two actions at most
pub flow_most : (n : ℕ) → is_length 14 n ≡ true → n ≤ 88
unfolding is_length
flow_most n e = few_actions_in n e

pub flow_size : (n : ℕ) → is_length 14 n ≡ true → n ≡ 72 + 8 * ((n - 72) / 8)
unfolding is_length
flow_size n e = two_sizes n e

-- the fields of a flow message that passes
record IsFlowWritten (f : FlowModFields) : Type 0 where
  pattern : IsWritten f.pattern
  cookie : f.cookie ≡ 0
  command : (((f.command == 0) || (f.command == 2)) || (f.command == 4)) ≡ true
  idle_timeout : f.idle_timeout ≡ 0
  hard_timeout : f.hard_timeout ≡ 0
  priority : 1 ≤ f.priority
  buffer_id : f.buffer_id ≡ 0xffffffff
  out_port : f.out_port ≡ 0xffff
  flags : f.flags ≡ 0

both_zero : (a b : ℕ) → ((a == 0) && (b == 0)) ≡ true → (a ≡ 0) × (b ≡ 0)
both_zero a b e =
    let (x, y) = and_parts (a == 0) (b == 0) e in
    (eqb-true a 0 x, eqb-true b 0 y)

flow_written : (f : FlowModFields) → first_failed (match_tests f.pattern) ≡ None → first_failed (command_tests f) ≡ None → IsFlowWritten f
unfolding has_command has_timeouts
flow_written f h k =
    let (cookie, (command, (timeouts, (priority, (buffer_id, (out_port, (flags, _))))))) = all_pass (command_tests f) k in
    let times = both_zero f.idle_timeout f.hard_timeout timeouts in
    record {
      pattern = match_passes f.pattern h;
      cookie = eqb-true f.cookie 0 cookie;
      command = command;
      idle_timeout = times.0;
      hard_timeout = times.1;
      priority = leb-true 1 f.priority priority;
      buffer_id = eqb-true f.buffer_id 0xffffffff buffer_id;
      out_port = eqb-true f.out_port 0xffff out_port;
      flags = eqb-true f.flags 0 flags;
    }

flow_mod_again : (f : FlowModFields) (verb : Verb) → IsFlowWritten f → command_of verb ≡ f.command → flow_mod_of verb (key_in f) ≡ f
flow_mod_again f verb h command =
    same_flow_mod (flow_mod_of verb (key_in f)) f (match_of-pattern_in f.pattern h.pattern) (sym h.cookie) command (sym h.idle_timeout) (sym h.hard_timeout) refl
    (sym h.buffer_id) (sym h.out_port) (sym h.flags)

-- what a flow message that passes is
record IsFlowPassed (bytes : List ℕ) : Type 0 where
  size : number_at 2 2 bytes ≡ 72 + 8 * ((number_at 2 2 bytes - 72) / 8)
  written : IsFlowWritten (flow_mod_at bytes)

flow_passed : (bytes : List ℕ) → number_at 1 1 bytes ≡ 14 → IsHeader bytes → first_failed (body_tests bytes) ≡ None → IsFlowPassed bytes
flow_passed bytes type header e =
    let f = flow_mod_at bytes in
    let last = profile field.Actions (is_some (verb_in f.command (actions_in bytes))) ∷ [] in
    let tests : first_failed (flow_tests f (actions_in bytes)) ≡ None = rw type at e in
    let (pattern, others) = first_failed-split (match_tests f.pattern) (command_tests f ++ last) tests in
    let (command, _) = first_failed-split (command_tests f) last others in
    record {
      size = flow_size (number_at 2 2 bytes) (ap (λ (t : ℕ). is_length t (number_at 2 2 bytes)) (sym type) ∙ header.size);
      written = flow_written f pattern command;
    }

flow_range : (bytes : List ℕ) (m : FlowMod) → IsBytes bytes → m.xid ≡ number_at 4 4 bytes → IsFlowWritten (flow_mod_at bytes) → NamesFlow bytes m → IsVerb m.verb → IsFlowMod m
flow_range bytes m fits xid h names verb =
    let f = flow_mod_at bytes in
    let below = number_at-lt 62 2 bytes fits in
    let number = number_at-lt 4 4 bytes fits in
    let address = number_at-lt 40 4 bytes fits in
    let range : IsFlowMod (record { xid = m.xid; verb = m.verb; key = key_in f }) = record {
      xid = omega arith;
      priority = h.priority;
      priority_most = omega arith;
      port = port_in-range f.pattern h.pattern;
      vlan = vlan_in-range f.pattern h.pattern;
      dst = prefix_in-range f.pattern h.pattern (omega arith);
      verb = verb;
    } in
    subst (λ (k : Key). IsFlowMod (record { xid = m.xid; verb = m.verb; key = k })) (sym names.key) range

flow_begins : (bytes : List ℕ) (m : FlowMod) → IsBytes bytes → IsHeader bytes → IsFlowPassed bytes → Names bytes (Flow m) → BeginsWith bytes (Flow m) (number_at 2 2 bytes)
flow_begins bytes m fits header passed names =
    let f = flow_mod_at bytes in
    let named_verb = verb_in-some f.command (actions_in bytes) m.verb passed.written.command names.body.verb in
    let again : flow_mod_of m.verb m.key ≡ f = ap (flow_mod_of m.verb) names.body.key ∙ flow_mod_again f m.verb passed.written named_verb.by_command in
    let count : length (verb_actions m.verb) ≡ (number_at 2 2 bytes - 72) / 8 = ap length named_verb.by_actions ∙ length-actions_at ((number_at 2 2 bytes - 72) / 8) 72 bytes in
    let size : number_at 2 2 bytes ≡ length_of (Flow m) = passed.size ∙ ap (λ (n : ℕ). 72 + 8 * n) (sym count) in
    let body : Holds bytes (flow_mod_table (flow_mod_of m.verb m.key) ++ actions_table 72 (verb_actions m.verb)) =
    Holds-append (flow_mod_table (flow_mod_of m.verb m.key)) (actions_table 72 (verb_actions m.verb)) bytes
    (subst (λ (x : FlowModFields). Holds bytes (flow_mod_table x)) (sym again) (flow_mod_holds bytes))
    (subst (λ (l : List ActionFields). Holds bytes (actions_table 72 l)) (sym named_verb.by_actions) (actions_at-holds ((number_at 2 2 bytes - 72) / 8) 72 bytes)) in
    let range = flow_range bytes m fits (sym names.xid) passed.written names.body named_verb.in_range in
    let room = header.room in
    let text = held_begins bytes (Flow m) fits range (omega arith) (header.version, (names.type, (size, (names.xid, body)))) in
    subst (BeginsWith bytes (Flow m)) (sym size) text

barrier_size : (type n : ℕ) → (type == 14) ≡ false → is_length type n ≡ true → n ≡ 8
unfolding is_length
barrier_size type n other e = eqb-true n 8 (rw other at e)

barrier_begins : (bytes : List ℕ) (m : Message) → IsBytes bytes → IsHeader bytes → Names bytes m → (type_of m == 14) ≡ false → length_of m ≡ 8 → IsMessage m → Holds bytes (body_table m)
    → BeginsWith bytes m (number_at 2 2 bytes)
barrier_begins bytes m fits header names other size range body =
    let eight : number_at 2 2 bytes ≡ 8 = barrier_size (type_of m) (number_at 2 2 bytes) other (ap (λ (t : ℕ). is_length t (number_at 2 2 bytes)) (sym names.type) ∙ header.size) in
    let same : number_at 2 2 bytes ≡ length_of m = eight ∙ sym size in
    let room = header.room in
    let text = held_begins bytes m fits range (omega arith) (header.version, (names.type, (same, (names.xid, body)))) in
    subst (BeginsWith bytes m) (sym same) text

xid_range : (bytes : List ℕ) (xid : ℕ) → IsBytes bytes → number_at 4 4 bytes ≡ xid → xid < 2 ^ 32
xid_range bytes xid fits e = let below = number_at-lt 4 4 bytes fits in omega arith

message_begins : (bytes : List ℕ) (m : Message) → IsBytes bytes → IsHeader bytes → first_failed (body_tests bytes) ≡ None → Names bytes m → BeginsWith bytes m (number_at 2 2 bytes)
message_begins bytes (Flow m) fits header body names = flow_begins bytes m fits header (flow_passed bytes names.type header body) names
message_begins bytes (BarrierRequest xid) fits header body names = barrier_begins bytes (BarrierRequest xid) fits header names refl refl (xid_range bytes xid fits names.xid) tt
message_begins bytes (BarrierReply xid) fits header body names = barrier_begins bytes (BarrierReply xid) fits header names refl refl (xid_range bytes xid fits names.xid) tt

-- bytes that nothing refuses begin with the text of the message that they name
pub passed_begins : (bytes : List ℕ) (m : Message) → IsBytes bytes → refusal_of bytes ≡ None → Names bytes m → BeginsWith bytes m (number_at 2 2 bytes)
unfolding refusal_of
passed_begins bytes m fits e names =
    let (header, body) = first_failed-split (header_tests bytes) (body_tests bytes) e in
    message_begins bytes m fits (header_passed bytes header) body names
